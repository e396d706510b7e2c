-- The records of a zone's apex, and the files that have them.
use Rattle.std.specs.Prelude.{ℕ, ◌+◌, if◌then◌else◌, List, [], ◌∷◌, Option, None, Some, Result, Ok, Err}
use Rattle.zone_edit.specs.declared.place.RecordPlace.{RecordPlace}
use Rattle.zone_edit.specs.declared.serial.SoaError.{SoaError}
use Rattle.zone_edit.specs.declared.serial.SoaError.TheVariants.{Generated, Included, NoSoa}
use Rattle.zone_edit.specs.Serials.{error_or}

-- why a record with an index can't be edited in the file
abbrev pub place_error : ℕ → RecordPlace → Option SoaError
place_error i r = if r.is_included then Some (Included i) else (if r.is_generated then Some (Generated i) else None)

-- the first such error of records, whose indexes are counted from a number
abbrev pub first_place_error : ℕ → List RecordPlace → Option SoaError
first_place_error i [] = None
first_place_error i (r ∷ records) = error_or (place_error i r) (first_place_error (i + 1) records)

-- the index, counted from a number, of the first SOA
abbrev pub first_soa : ℕ → List RecordPlace → Option ℕ
first_soa i [] = None
first_soa i (r ∷ records) = if r.is_soa then Some i else first_soa (i + 1) records

-- the SOA, if all records can be edited
abbrev pub soa_or_error : Option SoaError → Option ℕ → Result ℕ SoaError
soa_or_error (Some e) soa = Err e
soa_or_error None (Some i) = Ok i
soa_or_error None None = Err NoSoa

abbrev pub soa_place : List RecordPlace → Result ℕ SoaError
soa_place records = soa_or_error (first_place_error 0 records) (first_soa 0 records)
