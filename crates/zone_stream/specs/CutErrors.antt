-- The texts of errors.
use Rattle.std.specs.Prelude.{ℕ, List, codes}
use Rattle.zone_stream.specs.declared.cut_error.CutError.{CutError}
use Rattle.zone_stream.specs.declared.cut_error.CutError.TheVariants.{OutOfMemory, LongTtl, NoRecord}

abbrev pub cut_error_text : CutError → List ℕ
cut_error_text OutOfMemory = codes "not enough memory"
cut_error_text LongTtl = codes "TTL above 2147483647"
cut_error_text NoRecord = codes "no record"
