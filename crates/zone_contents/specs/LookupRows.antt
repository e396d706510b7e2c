-- Worked examples of records that are found by their keys.
use Rattle.std.specs.Prelude.{◌≡◌, ℕ, Some, None, List, [], ◌∷◌, codes, refl}
use Rattle.rdata_values.specs.Rtype as Rtype
use Rattle.zone_record.specs.declared.record.Record.{Record}
use Rattle.zone_contents.specs.Differences.{ttl_under}
use Rattle.zone_contents.specs.Lookups.{record_under}

-- an address below `example.`
abbrev address : List ℕ → ℕ → List ℕ → Record ℕ ℕ
address label ttl octets = record { owner = label ∷ codes "example" ∷ [] ∷ []; ttl = ttl; class = 1; «data» = record { rtype = Rtype.a; octets = octets } }

abbrev two : List (Record ℕ ℕ)
two = address (codes "a") 60 (192 ∷ 0 ∷ 2 ∷ 1 ∷ []) ∷ address (codes "A") 90 (192 ∷ 0 ∷ 2 ∷ 1 ∷ []) ∷ []

-- letter case and TTLs don't count, and the first is found
found_row : record_under (address (codes "A") 5 (192 ∷ 0 ∷ 2 ∷ 1 ∷ [])) two ≡ Some (address (codes "a") 60 (192 ∷ 0 ∷ 2 ∷ 1 ∷ []))
found_row = refl

ttl_row : ttl_under (address (codes "a") 5 (192 ∷ 0 ∷ 2 ∷ 1 ∷ [])) two ≡ Some 60
ttl_row = refl

other_row : ttl_under (address (codes "a") 60 (192 ∷ 0 ∷ 2 ∷ 2 ∷ [])) two ≡ None
other_row = refl
