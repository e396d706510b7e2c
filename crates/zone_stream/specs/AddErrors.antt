-- The texts of errors.
use Rattle.std.specs.Prelude.{ℕ, List, codes}
use Rattle.zone_stream.specs.declared.error.AddError.{AddError}
use Rattle.zone_stream.specs.declared.error.AddError.TheVariants.{OutOfMemory, TooLong, Finished}

abbrev pub add_error_text : AddError → List ℕ
add_error_text OutOfMemory = codes "not enough memory"
add_error_text TooLong = codes "more octets than can be counted"
add_error_text Finished = codes "octets behind the end"
