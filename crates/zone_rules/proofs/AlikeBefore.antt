-- The record before an index, if it has the owner and the type of the record there.
use Rattle.std.proofs.Common.{ℕ, ◌≡◌, ◌-◌, Bool, true, false, Option, Some, None, List, refl, sym, ap, ◌∙◌}
use Rattle.std.specs.Prelude.{◌==◌, ◌&&◌, if◌then◌else◌, option_and_then, slice_get}
use Rattle.std.specs.Option.{option_map, option_map_or}
use Rattle.dns_wire.specs.Order.{same_name}
use Rattle.zone_record.specs.declared.record.Record.{Record}
use Rattle.zone_rules.specs.Subjects.{alike}
use Rattle.zone_rules.specs.Zones.{as_listed, record_before, type_of}
use Rattle.zone_rules.proofs.ByType.{is_code}

same_some : {X : Type 0} (x y : X) → Some x ≡ Some y → x ≡ y
same_some x y h = cc

not_zero : (place : ℕ) → (place ≡ 0 → ⊥) → (place == 0) ≡ false
not_zero place h = by (place == 0) refl
  where
    by : (t : Bool) → (place == 0) ≡ t → t ≡ false
    by true e = absurd (h (is_code place 0 e))
    by false e = refl

pub before_is : {N O : Type 0} (records : List (Record N O)) (place : ℕ) → (place ≡ 0 → ⊥) → slice_get records (place - 1) ≡ record_before records place
before_is records place h = sym (ap (λ t. if t then None else slice_get records (place - 1)) (not_zero place h))

module _ {N O : Type 0} where
  abbrev are_of_one : Option (Record N O) → Option (Record N O) → Bool
  are_of_one before at = option_map_or (λ a. option_map_or (λ b. same_name a.owner b.owner) at false) before false

  abbrev kept : Option (Record N O) → Option (Record N O) → Option (Record N O)
  kept before at = option_and_then (λ r. option_and_then (alike r) before) at

  same_types : (t u : ℕ) (a b : Record N O) → Some t ≡ Some (type_of a) → Some u ≡ Some (type_of b) → (t == u) ≡ (type_of a == type_of b)
  same_types t u a b h k = λ i. same_some t (type_of a) h i == same_some u (type_of b) k i

  pub other_types : (R S : Type 0) (before at : Option (Record N O)) (t u : ℕ) → Some t ≡ option_map type_of before → Some u ≡ option_map type_of at → (t == u) ≡ false
      → None ≡ option_map (as_listed {M = R} {P = S}) (kept before at)
  other_types R S before None t u h k e = cc
  other_types R S None (Some r) t u h k e = cc
  other_types R S (Some b) (Some r) t u h k e = ap (λ x. option_map as_listed (if x && same_name b.owner r.owner then Some b else None)) (sym e ∙ same_types t u b r h k)

  no_second : (x : Bool) (R S : Type 0) (b : Record N O) → None ≡ option_map (as_listed {M = R} {P = S}) (if x && false then Some b else None)
  no_second true R S b = refl
  no_second false R S b = refl

  pub other_owners : (R S : Type 0) (before at : Option (Record N O)) → are_of_one before at ≡ false → None ≡ option_map (as_listed {M = R} {P = S}) (kept before at)
  other_owners R S None None e = refl
  other_owners R S (Some b) None e = refl
  other_owners R S None (Some r) e = refl
  other_owners R S (Some b) (Some r) e = no_second (type_of b == type_of r) R S b ∙ ap (λ x. option_map as_listed (if (type_of b == type_of r) && x then Some b else None)) (sym e)

  pub alike_found : {R S : Type 0} (before at : Option (Record N O)) (t u : ℕ) (one : Record R S) → Some t ≡ option_map type_of before → Some u ≡ option_map type_of at → (t == u) ≡ true → are_of_one before at ≡ true
      → Some one ≡ option_map as_listed before → Some one ≡ option_map as_listed (kept before at)
  alike_found before None t u one h k e f g = cc
  alike_found None (Some r) t u one h k e f g = cc
  alike_found (Some b) (Some r) t u one h k e f g =
      g ∙ ap (λ x. option_map as_listed (if x && true then Some b else None)) (sym e ∙ same_types t u b r h k) ∙ ap (λ x. option_map as_listed (if (type_of b == type_of r) && x then Some b else None)) (sym f)
