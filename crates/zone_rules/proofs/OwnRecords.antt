-- The records with the owner of the record at an index.
use Rattle.std.proofs.Common.{ℕ, zero, suc, ◌≡◌, ◌<◌, Bool, true, false, Option, Some, None, List, [], ◌∷◌, length, get_or, refl, sym, ap, subst, ◌∙◌, arith}
use Rattle.std.specs.Prelude.{◌==◌, ◌&&◌, ◌||◌, slice_get}
use Rattle.std.specs.List.{list_any}
use Rattle.std.specs.Option.{option_map, option_map_or}
use Rattle.std.proofs.lemmas.Option.{slice_get-get_or}
use Rattle.zone_record.specs.declared.record.Record.{Record}
use Rattle.dns_wire.specs.Order.{same_name}
use Rattle.zone_rules.specs.Searches.{AreOwnedAt, AreOwnedFrom}
use Rattle.zone_rules.specs.Subjects.{IsRecordAt, OwnerHasType}
use Rattle.zone_rules.specs.Zones.{as_listed, has_type_at, type_of, is_one_owner}
use Rattle.zone_rules.proofs.Subjects.{some_same}

some_within : {X : Type 0} (xs : List X) (place : ℕ) (x : X) → slice_get xs place ≡ Some x → place < length xs
some_within [] place x h = cc
some_within (y ∷ xs) zero x h = omega arith
some_within (y ∷ xs) (suc n) x h = let lt = some_within xs n x h in omega (arith, lt)

module _ {N O M P : Type 0} (records : List (Record N O)) (place : ℕ) (one : Record M P) (is : IsRecordAt records place one) where
  pub listed_within : place < length records
  listed_within = by (slice_get records place) refl is
    where
      by : (o : Option (Record N O)) → slice_get records place ≡ o → Some one ≡ option_map as_listed o → place < length records
      by None e h = cc
      by (Some r) e h = some_within records place r e

  pub owned_by_it : (first past : ℕ) → AreOwnedAt records place first past → AreOwnedFrom one.owner records first past
  owned_by_it first past owned = by (slice_get records place) refl is
    where
      by : (o : Option (Record N O)) → slice_get records place ≡ o → Some one ≡ option_map as_listed o → AreOwnedFrom one.owner records first past
      by None e h = cc
      by (Some r) e h = subst (λ n. AreOwnedFrom n records first past) (ap (λ q. q.owner) (sym (some_same one (as_listed r) h))) (owned r e)

-- ---- the types of a name

any_at : {X : Type 0} (p : X → Bool) (xs : List X) (k : ℕ) → k < length xs → ((d : X) → p (get_or xs k d) ≡ true) → list_any p xs ≡ true
any_at p [] k lt h = absurd (omega (arith, lt))
any_at p (x ∷ xs) zero lt h = ap (λ b. b || list_any p xs) (h x)
any_at p (x ∷ xs) (suc k) lt h = ap (λ b. p x || b) (any_at p xs k (omega (arith, lt)) h) ∙ either (p x)
  where
    either : (b : Bool) → (b || true) ≡ true
    either true = refl
    either false = refl

both : (b c : Bool) → b ≡ true → c ≡ true → (b && c) ≡ true
both true c h k = k
both false c h k = cc

same_listed : {N O : Type 0} (o p : Option (Record N O)) (x y : Record N O) → option_map_or (λ a. option_map_or (λ b. same_name a.owner b.owner) p false) o false ≡ true → o ≡ Some x → p ≡ Some y
    → same_name x.owner y.owner ≡ true
same_listed o p x y h d e = sym (λ i. option_map_or (λ a. option_map_or (λ b. same_name a.owner b.owner) (e i) false) (d i) false) ∙ h

-- the type of the record at an index
pub type_is : {N O : Type 0} (records : List (Record N O)) (place rtype : ℕ) → place < length records → Some rtype ≡ option_map type_of (slice_get records place) → (d : Record N O) → type_of (get_or records place d) ≡ rtype
type_is [] place rtype lt h d = absurd (omega (arith, lt))
type_is (r ∷ records) zero rtype lt h d = cc
type_is (r ∷ records) (suc n) rtype lt h d = type_is records n rtype (omega (arith, lt)) h d

-- a record of the type with the owner of another one
pub type_at_owner : {N O : Type 0} (records : List (Record N O)) (other place rtype : ℕ) → other < length records → is_one_owner records other place ≡ true
    → ((d : Record N O) → (type_of (get_or records other d) == rtype) ≡ true) → OwnerHasType records place rtype
type_at_owner records other place rtype lt one typed r is =
    any_at (λ q. same_name q.owner r.owner && type_of q == rtype) records other lt
    (λ d. both (same_name (get_or records other d).owner r.owner) (type_of (get_or records other d) == rtype)
    (same_listed (slice_get records other) (slice_get records place) (get_or records other d) r one (slice_get-get_or records other d lt) is) (typed d))

-- an owner has the type that it has by the index of a record
pub owner_has : {N O M P : Type 0} (records : List (Record N O)) (place rtype : ℕ) (one : Record M P) → IsRecordAt records place one → OwnerHasType records place rtype → has_type_at rtype one.owner records ≡ true
owner_has {N} {O} records place rtype one is has = by (slice_get records place) refl is
  where
    by : (o : Option (Record N O)) → slice_get records place ≡ o → Some one ≡ option_map as_listed o → has_type_at rtype one.owner records ≡ true
    by None e h = cc
    by (Some r) e h = ap (λ n. has_type_at rtype n records) (ap (λ q. q.owner) (some_same one (as_listed r) h)) ∙ has r e
