-- What records have in common, as they are added and sorted.
use Rattle.std.proofs.Common.{ℕ, ◌≡◌, ◌+◌, Bool, true, false, List, [], ◌∷◌, ◌++◌, length, map, refl, sym, ap, ◌∙◌, subst, arith}
use Rattle.std.specs.Prelude.{All, ◌==◌, ◌&&◌, ◌||◌, not, cond, nat_eq, nat_lt}
use Rattle.std.specs.Char.{to_ascii_lowercase}
use Rattle.std.specs.Cmp.Lexicographic.{pointwise}
use Rattle.std.specs.List.{list_any}
use Rattle.std.specs.List.Sorted.{IsPermutation}
use Rattle.std.proofs.lemmas.Bool.{eqb-true, false≢true}
use Rattle.std.proofs.lemmas.Bool.Decides.{nat_tests}
use Rattle.std.proofs.lemmas.List.{map-append}
use Rattle.std.proofs.lemmas.List.Elements.{All-cons, All-head, All-nil, All-push, All-tail}
use Rattle.std.proofs.lemmas.List.Folds.{list_any-append}
use Rattle.std.proofs.lemmas.List.Sorted.{All-permutation, length_permutation, list_any-IsPermutation}
use Rattle.dns_octets.specs.Lowered.{lowered}
use Rattle.rdata_values.specs.Rtype as Rtype
use Rattle.zone_record.specs.declared.record.Record.{Record}
use Rattle.zone_contents.specs.Contents.{listed_record, listing, stored_in_zone, with_lower_owner, AreZoneRecords, IsZoneRecord}
use Rattle.zone_contents.specs.Searches.{HaveClass}
use Rattle.zone_contents.specs.Summaries.{no_summary, summary_with, IsSummary}
use Rattle.zone_contents.specs.declared.summary.Summary.{Summary}
use Rattle.zone_contents.proofs.ZoneNames.{name_is}
use Rattle.zone_rules.specs.Above.{is_wildcard}
use Rattle.zone_rules.specs.Zones.{type_of}
use Rattle.zone_store.specs.Stored.{AddedRecord}

pub none_summed : {N O : Type 0} → IsSummary {N = N} {O = O} [] no_summary
none_summed = record { dname = refl; wildcard = refl; empty = λ _. refl; classes = λ _. All-nil _ }

one_more : {X : Type 0} (p : X → Bool) (xs : List X) (x : X) (b : Bool) → b ≡ list_any p xs → (b || p x) ≡ list_any p (xs ++ x ∷ [])
one_more p xs x b h = (λ i. h i || either (p x) i) ∙ sym (list_any-append p xs (x ∷ []))
  where
    either : (c : Bool) → c ≡ (c || false)
    either true = refl
    either false = refl

left_false : (b c : Bool) → (b || c) ≡ false → b ≡ false
left_false true c h = absurd (false≢true (sym h))
left_false false c h = refl

right_false : (b c : Bool) → (b || not c) ≡ false → c ≡ true
right_false true c h = absurd (false≢true (sym h))
right_false false true h = refl
right_false false false h = absurd (false≢true (sym h))

module _ {N O : Type 0} (records : List (Record N O)) (s : Summary) (r : Record N O) (is : IsSummary records s) where
  all_same : s.has_classes ≡ false → (e c : Bool) → s.is_empty ≡ e → (s.class == r.class) ≡ c → (e || c) ≡ true → All (λ q. q.class ≡ r.class) records
  all_same h true c p q k = none records (is.empty p)
    where
      none : (rs : List (Record N O)) → length rs ≡ 0 → All (λ q. q.class ≡ r.class) rs
      none [] l = All-nil _
      none (x ∷ rs) l = absurd (omega (arith, l))
  all_same h false true p q k = subst (λ c. All (λ x. x.class ≡ c) records) (eqb-true s.class r.class q) (is.classes h)
  all_same h false false p q k = absurd (false≢true k)

  pub summed_more : IsSummary (records ++ r ∷ []) (summary_with s r)
  summed_more = record {
    dname = one_more (λ q. type_of q == Rtype.dname) records r s.has_dname is.dname;
    wildcard = one_more (λ q. is_wildcard q.owner) records r s.has_wildcard is.wildcard;
    empty = λ h. absurd (false≢true h);
    classes = λ h. All-push (λ q. q.class ≡ r.class) records r (all_same (left_false s.has_classes _ h) s.is_empty (s.class == r.class) refl refl (right_false s.has_classes (s.is_empty || s.class == r.class) h)) refl;
  }

-- ---- a record as it is stored

lower_asterisk : (o : ℕ) → nat_eq (to_ascii_lowercase o) 42 ≡ nat_eq o 42
lower_asterisk o = by (nat_lt o 65) refl (nat_lt o 91)
  where
    neither : nat_lt o 65 ≡ false → nat_eq (o + 32) 42 ≡ nat_eq o 42
    neither h = Prim.grind (arith, nat_tests)

    by : (a : Bool) → nat_lt o 65 ≡ a → (b : Bool) → nat_eq (cond a o (cond b (o + 32) o)) 42 ≡ nat_eq o 42
    by true h b = refl
    by false h true = neither h
    by false h false = refl

pub wildcard_lower : (name : List (List ℕ)) → is_wildcard (map lowered name) ≡ is_wildcard name
wildcard_lower [] = refl
wildcard_lower (label ∷ labels) = one label
  where
    one : (l : List ℕ) → pointwise nat_eq (lowered l) (42 ∷ []) ≡ pointwise nat_eq l (42 ∷ [])
    one [] = refl
    one (o ∷ []) = ap (λ b. b && true) (lower_asterisk o)
    one (o ∷ p ∷ l) = ap (λ b. b && false) (lower_asterisk o)

pub listed_is : {N O : Type 0} (apex : List (List ℕ)) (r : Record N O) (file offset : ℕ) → listed_record apex (stored_in_zone apex r file offset) ≡ with_lower_owner r
listed_is apex r file offset = λ i. record { owner = name_is apex r.owner i; ttl = r.ttl; class = r.class; «data» = r.«data» }

pub lower_summed : {N O : Type 0} (s : Summary) (r : Record N O) → summary_with s (with_lower_owner r) ≡ summary_with s r
lower_summed s r = ap (λ b. record {
  has_dname = s.has_dname || type_of r == Rtype.dname;
  has_wildcard = s.has_wildcard || b;
  is_empty = false;
  has_classes = s.has_classes || not (s.is_empty || s.class == r.class);
  class = r.class;
}) (wildcard_lower r.owner)

module _ {N O : Type 0} (apex : List (List ℕ)) (records : List AddedRecord) (s : Summary) (r : Record N O) (file offset : ℕ) where
  pub listed_more : listing apex (records ++ stored_in_zone apex r file offset ∷ []) ≡ listing apex records ++ with_lower_owner r ∷ []
  listed_more = map-append (listed_record apex) records (stored_in_zone apex r file offset ∷ []) ∙ ap (λ q. listing apex records ++ q ∷ []) (listed_is apex r file offset)

  pub zone_more : AreZoneRecords apex records s → IsZoneRecord apex (stored_in_zone apex r file offset) → AreZoneRecords apex (records ++ stored_in_zone apex r file offset ∷ []) (summary_with s r)
  zone_more are is = record {
    are = All-push (IsZoneRecord apex) records (stored_in_zone apex r file offset) are.are is;
    summary = subst (λ rs. IsSummary rs (summary_with s r)) (sym listed_more) (subst (IsSummary (listing apex records ++ with_lower_owner r ∷ [])) (lower_summed s r) (summed_more (listing apex records) s (with_lower_owner r) are.summary));
  }

pub new_zone : (apex : List (List ℕ)) (records : List AddedRecord) (s : Summary) → records ≡ [] → s ≡ no_summary → AreZoneRecords apex records s
new_zone apex records s none is = record {
  are = subst (All (IsZoneRecord apex)) (sym none) (All-nil (IsZoneRecord apex));
  summary = subst (IsSummary (listing apex records)) (sym is) (subst (λ rs. IsSummary (listing apex rs) no_summary) (sym none) none_summed);
}

-- ---- in another order

pub summed_sorted : {N O : Type 0} (before after : List (Record N O)) (s : Summary) → IsPermutation before after → IsSummary before s → IsSummary after s
summed_sorted before after s moved is = record {
  dname = is.dname ∙ list_any-IsPermutation (λ q. type_of q == Rtype.dname) before after moved;
  wildcard = is.wildcard ∙ list_any-IsPermutation (λ q. is_wildcard q.owner) before after moved;
  empty = λ h. length_permutation before after moved ∙ is.empty h;
  classes = λ h. All-permutation (λ q. q.class ≡ s.class) before after moved (is.classes h);
}

-- ---- the class of the records of a store

all_unmapped : {X Y : Type 0} (P : Y → Type 0) (f : X → Y) (xs : List X) → All P (map f xs) → All (λ x. P (f x)) xs
all_unmapped P f [] h = All-nil (λ x. P (f x))
all_unmapped P f (x ∷ xs) h = All-cons (λ y. P (f y)) x xs (All-head P (f x) (map f xs) h) (all_unmapped P f xs (All-tail P (f x) (map f xs) h))

pub class_is : (apex : List (List ℕ)) (records : List AddedRecord) (s : Summary) → IsSummary (listing apex records) s → HaveClass s records
class_is apex records s is h = all_unmapped (λ q. q.class ≡ s.class) (listed_record apex) records (is.classes h)
