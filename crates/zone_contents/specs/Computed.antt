-- The ZONEMD that is right for a zone (RFC 8976 section 3).
use Rattle.std.specs.Prelude.{◌≡◌, ℕ, List, ◌++◌}
use Rattle.rdata_values.specs.Rtype as Rtype
use Rattle.zone_record.specs.declared.record.Record.{Record}
use Rattle.zone_contents.specs.Checks.{HasSerial}
use Rattle.zone_contents.specs.Hashed.{hashed_octets}
use Rattle.zone_contents.specs.Verdicts.{IsDigest, IsVerdict, IsZonemd}
use Rattle.zone_contents.specs.declared.algorithm.HashAlgorithm.{HashAlgorithm}
use Rattle.zone_contents.specs.declared.algorithm.HashAlgorithm.TheVariants.{Sha384, Sha512}
use Rattle.zone_contents.specs.declared.verdict.Verdict.TheVariants.{Matches}
use Rattle.zone_contents.specs.declared.zonemd.Zonemd.{Zonemd}

-- the number of a hash algorithm (RFC 8976 section 5.3)
abbrev pub hash_code : HashAlgorithm → ℕ
hash_code Sha384 = 1
hash_code Sha512 = 2

-- the digest of a zone by the hash algorithm of this number is appended to octets
abbrev pub AppendsDigest : {N O : Type 0} → List (List ℕ) → List (Record N O) → ℕ → List ℕ → List ℕ → Type 0
AppendsDigest apex records hash front «data» = (digest : List ℕ) × IsDigest hash (hashed_octets apex records) digest × («data» ≡ front ++ digest)

-- ZONEMD data with the hash algorithm of this number, which matches in a check of the zone if it is the only one of its scheme and algorithm
abbrev pub IsRightData : {N O : Type 0} → List (List ℕ) → List (Record N O) → ℕ → List ℕ → Type 0
IsRightData apex records hash «data» = (serial : ℕ) × HasSerial apex records serial × (z : Zonemd) × IsZonemd (record { rtype = Rtype.zonemd; octets = «data» }) z × (z.hash ≡ hash)
    × IsVerdict serial (hashed_octets apex records) 1 z Matches
