-- Services in AliasMode that lead from a name to the next one.
use Rattle.std.proofs.Common.{ℕ, zero, suc, ◌≡◌, ◌<◌, ◌≤◌, ◌-◌, ◌⊎◌, inl, inr, Bool, true, false, cond, Option, Some, None, List, [], ◌∷◌, length, get_or, refl, sym, ap, ◌∙◌, arith}
use Rattle.std.specs.Prelude.{◌==◌, ◌&&◌, ◌||◌, option_and_then, slice_get}
use Rattle.std.specs.List.{AllWithin, find}
use Rattle.std.specs.Option.{option_map, option_map_or}
use Rattle.std.specs.Ordering.{is_lt}
use Rattle.std.proofs.lemmas.Bool.{cases_lt, false≢true}
use Rattle.std.proofs.lemmas.Option.{get_or_from_slice_get}
use Rattle.dns_wire.specs.Order.{same_name}
use Rattle.rdata_values.specs.declared.types.RecordType.{RecordType}
use Rattle.zone_record.specs.Names.{name_order}
use Rattle.zone_record.specs.declared.record.Record.{Record}
use Rattle.zone_rules.specs.Rules.{alias_mode_target, aliases_end_in, is_service_loop, name_after_alias, service_at, service_target}
use Rattle.zone_rules.specs.Searches.{AreOwnedFrom}
use Rattle.zone_rules.specs.Subjects.{IsFirstService, IsRecordAt}
use Rattle.zone_rules.specs.Zones.{as_listed, type_of}

abbrev pub is_of_type : {N O : Type 0} → RecordType → Record N O → Bool
is_of_type rtype r = type_of r == rtype

pub some_of_type : {N O : Type 0} (rtype : RecordType) (o : Option (Record N O)) (t : RecordType) → Some t ≡ option_map type_of o → (t == rtype) ≡ option_map_or (λ r. type_of r == rtype) o false
some_of_type rtype None t e = cc
some_of_type rtype (Some r) t e = let is : t ≡ type_of r = cc in ap (λ x. x == rtype) is

-- ---- the first service of a type at a name

module _ {X : Type 0} (p : X → Bool) where
  find_first : (xs : List X) (place : ℕ) → AllWithin (λ x. p x ≡ false) xs 0 place → option_map_or p (slice_get xs place) false ≡ true → find p xs ≡ slice_get xs place
  find_first [] place h k = absurd (false≢true k)
  find_first (x ∷ xs) zero h k = ap (λ b. cond b (Some x) (find p xs)) k
  find_first (x ∷ xs) (suc n) h k =
      ap (λ b. cond b (Some x) (find p xs)) (h 0 x (omega arith) (omega arith)) ∙ find_first xs n (λ i d low lt. h (suc i) d (omega arith) (omega arith)) k

  find_nothing : (xs : List X) → ((i : ℕ) (d : X) → i < length xs → p (get_or xs i d) ≡ false) → find p xs ≡ None
  find_nothing [] h = refl
  find_nothing (x ∷ xs) h = ap (λ b. cond b (Some x) (find p xs)) (h 0 x (omega arith)) ∙ find_nothing xs (λ i d lt. h (suc i) d (omega arith))

module _ {N O : Type 0} (rtype : RecordType) (name : List (List ℕ)) (records : List (Record N O)) (first past : ℕ) (owned : AreOwnedFrom name records first past) where
  other_owner : (r : Record N O) → same_name r.owner name ≡ false → (same_name r.owner name && is_of_type rtype r) ≡ false
  other_owner r h = ap (λ b. b && is_of_type rtype r) h

  other_type : (r : Record N O) → is_of_type rtype r ≡ false → (same_name r.owner name && is_of_type rtype r) ≡ false
  other_type r h = ap (λ b. same_name r.owner name && b) h ∙ by (same_name r.owner name)
    where
      by : (b : Bool) → (b && false) ≡ false
      by true = refl
      by false = refl

  pub first_of_type : (place : ℕ) → first ≤ place → place < past → AllWithin (λ r. is_of_type rtype r ≡ false) records first place → option_map_or (is_of_type rtype) (slice_get records place) false ≡ true
      → slice_get records place ≡ service_at rtype name records
  first_of_type place low lt none h =
      sym (find_first (λ r. same_name r.owner name && is_of_type rtype r) records place before (at (slice_get records place) refl))
    where
      before : AllWithin (λ r. (same_name r.owner name && is_of_type rtype r) ≡ false) records 0 place
      before i d from less = by (cases_lt i first)
        where
          by : (i < first) ⊎ (first ≤ i) → (same_name (get_or records i d).owner name && is_of_type rtype (get_or records i d)) ≡ false
          by (inl k) = other_owner (get_or records i d) (owned.before i d (omega arith) k)
          by (inr k) = other_type (get_or records i d) (none i d k less)

      at : (o : Option (Record N O)) → slice_get records place ≡ o → option_map_or (λ r. same_name r.owner name && is_of_type rtype r) o false ≡ true
      at None e = absurd (false≢true (sym (ap (λ x. option_map_or (is_of_type rtype) x false) e) ∙ h))
      at (Some r) e =
          let is : get_or records place r ≡ r = get_or_from_slice_get records place r r e in
          let mine : same_name r.owner name ≡ true = ap (λ x. same_name x.owner name) (sym is) ∙ owned.owned place r low lt in
          ap (λ b. b && is_of_type rtype r) mine ∙ (sym (ap (λ x. option_map_or (is_of_type rtype) x false) e) ∙ h)

  pub none_of_type : AllWithin (λ r. is_of_type rtype r ≡ false) records first past → None ≡ service_at rtype name records
  none_of_type none = sym (find_nothing (λ r. same_name r.owner name && is_of_type rtype r) records (λ i d lt. from i d lt (cases_lt i first)))
    where
      later : (i : ℕ) (d : Record N O) → i < length records → first ≤ i → (i < past) ⊎ (past ≤ i) → (same_name (get_or records i d).owner name && is_of_type rtype (get_or records i d)) ≡ false
      later i d lt low (inl less) = other_type (get_or records i d) (none i d low less)
      later i d lt low (inr more) = other_owner (get_or records i d) (owned.after i d more lt)

      from : (i : ℕ) (d : Record N O) → i < length records → (i < first) ⊎ (first ≤ i) → (same_name (get_or records i d).owner name && is_of_type rtype (get_or records i d)) ≡ false
      from i d lt (inl less) = other_owner (get_or records i d) (owned.before i d (omega arith) less)
      from i d lt (inr low) = later i d lt low (cases_lt i past)

-- ---- the names to which aliases lead

target_listed : {N O : Type 0} (R S : Type 0) (o : Option (Record N O)) → option_and_then (alias_mode_target {N = R} {O = S}) (option_map as_listed o) ≡ option_and_then alias_mode_target o
target_listed R S None = refl
target_listed R S (Some r) = refl

module _ {N O : Type 0} (rtype : RecordType) (records : List (Record N O)) (goal name : List (List ℕ)) where
  abbrev rest : ℕ → Option (List (List ℕ)) → Bool
  rest count after = option_map_or (aliases_end_in count rtype records goal) after false

  pub ends_here : (count : ℕ) → (count ≡ 0 → ⊥) → same_name name goal ≡ true → true ≡ aliases_end_in count rtype records goal name
  ends_here zero some same = absurd (some refl)
  ends_here (suc count) some same = sym (ap (λ b. b || (is_lt (name_order goal name) && rest count (name_after_alias rtype records name))) same)

  pub ends_before : (count : ℕ) → (count ≡ 0 → ⊥) → same_name name goal ≡ false → is_lt (name_order goal name) ≡ false → false ≡ aliases_end_in count rtype records goal name
  ends_before zero some same lt = absurd (some refl)
  ends_before (suc count) some same lt =
      sym (ap (λ b. b || (is_lt (name_order goal name) && rest count (name_after_alias rtype records name))) same ∙ ap (λ b. b && rest count (name_after_alias rtype records name)) lt)

  pub ends_after : (count : ℕ) → (count ≡ 0 → ⊥) → same_name name goal ≡ false → is_lt (name_order goal name) ≡ true → (after : Option (List (List ℕ))) → name_after_alias rtype records name ≡ after
      → rest (count - 1) after ≡ aliases_end_in count rtype records goal name
  ends_after zero some same lt after e = absurd (some refl)
  ends_after (suc count) some same lt after e =
      ap (λ n. rest n after) (omega arith) ∙ sym
      (ap (λ b. b || (is_lt (name_order goal name) && rest count (name_after_alias rtype records name))) same ∙ ap (λ b. b && rest count (name_after_alias rtype records name)) lt ∙ ap (rest count) e)

  pub after_nothing : IsFirstService rtype name records None → name_after_alias rtype records name ≡ None
  after_nothing h = sym (ap (option_and_then alias_mode_target) h)

  pub after_place : {R S : Type 0} (place : ℕ) (one : Record R S) → IsRecordAt records place one → IsFirstService rtype name records (Some place) → name_after_alias rtype records name ≡ alias_mode_target one
  after_place {R} {S} place one is first = sym (ap (option_and_then alias_mode_target) is ∙ target_listed R S (slice_get records place) ∙ ap (option_and_then alias_mode_target) first)

-- a service that leads back to its owner
pub loop_is : {N O M P : Type 0} (records : List (Record N O)) (r : Record M P) (rtype : RecordType) (goal name : List (List ℕ)) (led : Bool)
    → rtype ≡ type_of r → goal ≡ r.owner → service_target r ≡ Some name → led ≡ aliases_end_in 16 rtype records goal name → led ≡ is_service_loop records r
loop_is records r rtype goal name led et eg es h =
    h ∙ ap (λ t. aliases_end_in 16 t records goal name) et ∙ ap (λ n. aliases_end_in 16 (type_of r) records n name) eg
    ∙ sym (ap (λ o. option_map_or (aliases_end_in 16 (type_of r) records r.owner) o false) es)
