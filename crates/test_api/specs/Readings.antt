-- The results of parsing each record's fields from tokens.
use Rattle.std.specs.Prelude.{ℕ, List, Result, Ok, Err}
use Rattle.dns_charstr.specs.Limits.{max_string}
use Rattle.dns_iter.specs.Name.{ReadsToken}
use Rattle.dns_octets.specs.Room.{Room, within}
use Rattle.dns_scan.specs.Numbers.{greatest}
use Rattle.dns_scan.specs.Reads.{NameReads, NumberReads, OctetsRead, ReadsBoth, ReadsFirstToken}
use Rattle.dns_symbol.specs.Cause.{Cause}
use Rattle.custom_record.specs.ReadsBack.{ReadsThree, TokenReading}
use Rattle.test_api.specs.declared.caa.Caa.{Caa}
use Rattle.test_api.specs.declared.mx.Mx.{Mx}

-- the fields of a parsed MX record, or its error
abbrev pub mx_fields : {O : Type 0} → Result (Mx O) Cause → Result (ℕ × List (List ℕ)) Cause
mx_fields (Ok x) = Ok (x.preference, x.exchange)
mx_fields (Err why) = Err why

-- a number of 16 bits, and a name over octets with that room
abbrev pub mx_reads : (O : Type 0) → Room → {E : Type 0} → (E → Cause) → TokenReading (Mx O)
mx_reads O room cause tokens r rest =
    ReadsBoth (ReadsFirstToken (NumberReads (greatest 16))) (ReadsFirstToken (NameReads cause (ReadsToken O cause room))) tokens (mx_fields r) rest

-- and those of a CAA record
abbrev pub caa_fields : {O : Type 0} → Result (Caa O) Cause → Result (ℕ × List ℕ × List ℕ) Cause
caa_fields (Ok x) = Ok (x.flags, x.tag, x.value)
caa_fields (Err why) = Err why

-- a number of 8 bits, a character string, and a text of any length
abbrev pub caa_reads : (O : Type 0) → Room → {E : Type 0} → (E → Cause) → TokenReading (Caa O)
caa_reads O room cause tokens r rest =
    ReadsThree (ReadsFirstToken (NumberReads (greatest 8))) (ReadsFirstToken (OctetsRead (within max_string room))) (ReadsFirstToken (OctetsRead room)) tokens (caa_fields r) rest
