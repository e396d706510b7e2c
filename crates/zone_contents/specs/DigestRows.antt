-- Worked examples of the definitions.
use Rattle.std.specs.Prelude.{◌≡◌, ℕ, true, false, List, [], ◌∷◌, ◌++◌, codes, refl}
use Rattle.std.proofs.Common.{arith}
use Rattle.rdata_values.specs.Rtype as Rtype
use Rattle.rdata_values.specs.declared.types.RecordType.{RecordType}
use Rattle.zone_record.specs.declared.record.Record.{Record}
use Rattle.zone_contents.specs.Checks.{alike_count}
use Rattle.zone_contents.specs.Hashed.{hashed_octets, is_hashed, is_in_zone}
use Rattle.zone_contents.specs.Verdicts.{IsVerdict}
use Rattle.zone_contents.specs.declared.verdict.Verdict.TheVariants.{OtherSerial, Repeated}
use Rattle.zone_contents.specs.declared.zonemd.Zonemd.{Zonemd}

-- names
abbrev apex : List (List ℕ)
apex = codes "example" ∷ [] ∷ []

apex_row : is_in_zone apex (codes "EXAMPLE" ∷ [] ∷ []) ≡ true
apex_row = refl

below_row : is_in_zone apex (codes "a" ∷ codes "b" ∷ codes "Example" ∷ [] ∷ []) ≡ true
below_row = refl

above_row : is_in_zone apex ([] ∷ []) ≡ false
above_row = refl

other_row : is_in_zone apex (codes "a" ∷ codes "test" ∷ [] ∷ []) ≡ false
other_row = refl

-- a label that ends in the octets of the apex does not make a name below it
within_row : is_in_zone apex ((97 ∷ 7 ∷ codes "example") ∷ [] ∷ []) ≡ false
within_row = refl

-- records
abbrev one : List (List ℕ) → RecordType → List ℕ → Record ℕ ℕ
one owner rtype octets = record { owner = owner; ttl = 60; class = 1; «data» = record { rtype = rtype; octets = octets } }

abbrev below : List (List ℕ)
below = codes "a" ∷ apex

-- of the digest's types only records at the apex are omitted
digest_row : is_hashed apex (one apex Rtype.zonemd []) ≡ false
digest_row = refl

deep_digest_row : is_hashed apex (one below Rtype.zonemd []) ≡ true
deep_digest_row = refl

signature_row : is_hashed apex (one (codes "EXAMPLE" ∷ [] ∷ []) Rtype.rrsig (0 ∷ 63 ∷ 13 ∷ [])) ≡ false
signature_row = refl

other_signature_row : is_hashed apex (one apex Rtype.rrsig (0 ∷ 6 ∷ 13 ∷ [])) ≡ true
other_signature_row = refl

-- an address 192.0.2.1 of `A.example.`, and one outside of the zone
octets_row : hashed_octets apex (one (codes "A" ∷ apex) Rtype.a (192 ∷ 0 ∷ 2 ∷ 1 ∷ []) ∷ one (codes "test" ∷ [] ∷ []) Rtype.a (192 ∷ 0 ∷ 2 ∷ 1 ∷ []) ∷ [])
    ≡ 1 ∷ 97 ∷ 7 ∷ codes "example" ++ 0 ∷ 0 ∷ 1 ∷ 0 ∷ 1 ∷ 0 ∷ 0 ∷ 0 ∷ 60 ∷ 0 ∷ 4 ∷ 192 ∷ 0 ∷ 2 ∷ 1 ∷ []
octets_row = refl

-- two of one scheme and algorithm, among three
alike_row : alike_count (record { serial = 9; scheme = 1; hash = 2; digest = record { ref_ptr = (0, 0); now = [] } })
    (record { rtype = Rtype.zonemd; octets = 0 ∷ 0 ∷ 0 ∷ 1 ∷ 1 ∷ 2 ∷ [] } ∷ record { rtype = Rtype.zonemd; octets = 0 ∷ 0 ∷ 0 ∷ 1 ∷ 1 ∷ 1 ∷ [] } ∷ record { rtype = Rtype.zonemd; octets = 0 ∷ 0 ∷ 0 ∷ 2 ∷ 1 ∷ 2 ∷ [] } ∷ [])
    ≡ 2
alike_row = refl

-- a ZONEMD with a stale serial, one of two of its scheme and algorithm: the serial decides
abbrev stale : Zonemd
stale = record { serial = 1; scheme = 1; hash = 1; digest = record { ref_ptr = (0, 0); now = [] } }

stale_row : (octets : List ℕ) → IsVerdict 2 octets 2 stale OtherSerial
stale_row octets e = omega (arith, e)

stale_repeated_row : (octets : List ℕ) → IsVerdict 2 octets 2 stale Repeated → ⊥
stale_repeated_row octets h = omega (arith, h.0)

repeated_row : (octets : List ℕ) → IsVerdict 1 octets 2 stale Repeated
repeated_row octets = (refl, refl, omega arith)
