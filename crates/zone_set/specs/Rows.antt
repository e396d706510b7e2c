-- Worked examples of the definitions.
use Rattle.std.specs.Prelude.{◌≡◌, ℕ, true, false, List, [], ◌∷◌, ◌++◌, codes, refl}
use Rattle.rdata_values.specs.Rtype as Rtype
use Rattle.zone_record.specs.declared.record.Record.{Record}
use Rattle.zone_set.specs.Lines.{hex_word}
use Rattle.zone_set.specs.Runs.{run_octets}
use Rattle.zone_set.specs.Selections.{is_wanted}

-- an address below `example.`
abbrev address : List ℕ → ℕ → List ℕ → Record ℕ ℕ
address label ttl octets = record { owner = label ∷ codes "example" ∷ [] ∷ []; ttl = ttl; class = 1; «data» = record { rtype = Rtype.a; octets = octets } }

no_hex_row : hex_word [] ≡ []
no_hex_row = refl

-- without a list all types are wanted
all_row : is_wanted [] 6 ≡ true
all_row = refl

listed_row : is_wanted (1 ∷ 28 ∷ []) 28 ≡ true
listed_row = refl

unlisted_row : is_wanted (1 ∷ 28 ∷ []) 6 ≡ false
unlisted_row = refl

-- 60 seconds, class 1, type 1, 11 octets of an owner, and 4 of data
run_row : run_octets (address (codes "a") 60 (192 ∷ 0 ∷ 2 ∷ 1 ∷ [])) ≡ (0 ∷ 0 ∷ 0 ∷ 60 ∷ 0 ∷ 1 ∷ 0 ∷ 1 ∷ 0 ∷ 11 ∷ 1 ∷ 97 ∷ 7 ∷ []) ++ codes "example" ++ (0 ∷ 0 ∷ 4 ∷ 192 ∷ 0 ∷ 2 ∷ 1 ∷ [])
run_row = refl
