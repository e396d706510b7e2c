-- The texts of errors of entry lines.
use Rattle.std.specs.Prelude.{ℕ, List, ◌++◌, codes}
use Rattle.std.specs.Fmt.{decimal}
use Rattle.dns_zone.specs.declared.entry.error.EntryError.{EntryError}
use Rattle.dns_zone.specs.declared.entry.error.EntryError.TheVariants.{EmptyEncoding}
use Rattle.dns_zone.specs.EntryFields.{Content}
use Rattle.dns_zone.specs.EntryLines.{IsFirstEmpty}

-- the index in an error
abbrev pub error_place : EntryError → ℕ
error_place (EmptyEncoding i) = i

-- what an error prints
abbrev pub entry_error_text : EntryError → List ℕ
entry_error_text (EmptyEncoding i) = codes "empty encoding at " ++ decimal i

-- the error names the first field that can't be a token
abbrev pub IsEntryFault : List Content → EntryError → Type 0
IsEntryFault fields e = IsFirstEmpty fields (error_place e)
