-- Records whose owners come after or before a name.
use Rattle.std.proofs.Common.{ℕ, ◌≡◌, ◌<◌, ◌≤◌, ◌⊎◌, inl, inr, Bool, true, false, cond, Option, Some, None, List, length, take, drop, get_or, refl, sym, ap, ◌∙◌, arith}
use Rattle.std.specs.Prelude.{◌&&◌, not, reverse, slice_get, is_some}
use Rattle.std.specs.List.{AllWithin, find}
use Rattle.std.specs.Option.{option_map_or}
use Rattle.std.specs.Ordering.{is_eq, is_le, is_lt}
use Rattle.std.specs.declared.cmp.Ordering.{Ordering}
use Rattle.std.specs.declared.cmp.Ordering.TheVariants.{Less, Equal, Greater}
use Rattle.std.proofs.lemmas.Bool.{cases_lt, false≢true}
use Rattle.std.proofs.lemmas.Option.{get_or_from_slice_get}
use Rattle.dns_wire.specs.Order.{same_name}
use Rattle.zone_record.specs.Names.{name_order}
use Rattle.zone_record.specs.declared.record.Record.{Record}
use Rattle.zone_rules.specs.Searches.{AreOwnedFrom}
use Rattle.zone_rules.proofs.Lookups.{same_is}
use Rattle.zone_dnssec.specs.NsecChain.{comes_after}
use Rattle.zone_dnssec.specs.OwnedRecords.{greater_of}
use Rattle.zone_dnssec.proofs.ChainLinks.{get_some, lt_is, not_lt_is}
use Rattle.zone_dnssec.proofs.OwnedRecords.{find_at, find_none}
use Rattle.zone_dnssec.proofs.Searches.{find_behind, find_in_front}

before_not_after : (o : Ordering) → is_lt o ≡ true → not (is_le o) ≡ false
before_not_after Less h = refl
before_not_after Equal h = absurd (false≢true h)
before_not_after Greater h = absurd (false≢true h)

tied_not_after : (o : Ordering) → is_eq o ≡ true → not (is_le o) ≡ false
tied_not_after Less h = absurd (false≢true h)
tied_not_after Equal h = refl
tied_not_after Greater h = absurd (false≢true h)

others_after : (o : Ordering) → is_lt o ≡ false → is_eq o ≡ false → not (is_le o) ≡ true
others_after Less h k = absurd (false≢true (sym h))
others_after Equal h k = absurd (false≢true (sym k))
others_after Greater h k = refl

-- ---- the greater of two indexes

at_first : (first past from : ℕ) → from ≡ greater_of first past → first ≤ from
at_first first past from e = by (cases_lt first past)
  where
    by : (first < past) ⊎ (past ≤ first) → first ≤ from
    by (inl less) = omega (arith, less, e ∙ ap (λ b. cond b past first) (lt_is first past less))
    by (inr more) = omega (arith, more, e ∙ ap (λ b. cond b past first) (not_lt_is first past more))

at_past : (first past from : ℕ) → from ≡ greater_of first past → past ≤ from
at_past first past from e = by (cases_lt first past)
  where
    by : (first < past) ⊎ (past ≤ first) → past ≤ from
    by (inl less) = omega (arith, less, e ∙ ap (λ b. cond b past first) (lt_is first past less))
    by (inr more) = omega (arith, more, e ∙ ap (λ b. cond b past first) (not_lt_is first past more))

below_either : (first past from i : ℕ) → from ≡ greater_of first past → i < from → (i < first) ⊎ (i < past)
below_either first past from i e lt = by (cases_lt first past)
  where
    by : (first < past) ⊎ (past ≤ first) → (i < first) ⊎ (i < past)
    by (inl less) = inr (omega (arith, lt, e ∙ ap (λ b. cond b past first) (lt_is first past less)))
    by (inr more) = inl (omega (arith, lt, e ∙ ap (λ b. cond b past first) (not_lt_is first past more)))

and_false : (b c : Bool) → c ≡ false → (b && c) ≡ false
and_false true c h = h
and_false false c h = refl

-- ---- records whose owners come after a name

module _ {N O : Type 0} (name : List (List ℕ)) (records : List (Record N O)) (first past : ℕ) (owned : AreOwnedFrom name records first past) (from : ℕ) (greater : from ≡ greater_of first past) where
  not_after : AllWithin (λ r. comes_after r.owner name ≡ false) records 0 from
  not_after i d bottom less = by (below_either first past from i greater less) (cases_lt i first)
    where
      earlier : i < first → comes_after (get_or records i d).owner name ≡ false
      earlier k = before_not_after (name_order (get_or records i d).owner name) (owned.parts.0 i d (omega arith) k)

      by : (i < first) ⊎ (i < past) → (i < first) ⊎ (first ≤ i) → comes_after (get_or records i d).owner name ≡ false
      by (inl k) q = earlier k
      by (inr k) (inl q) = earlier q
      by (inr k) (inr q) = tied_not_after (name_order (get_or records i d).owner name) (sym (same_is (get_or records i d).owner name) ∙ owned.owned i d q k)

  are_after : AllWithin (λ r. comes_after r.owner name ≡ true) records from (length records)
  are_after i d bottom less =
      others_after (name_order (get_or records i d).owner name) (owned.parts.1 i d (omega (arith, bottom, at_first first past from greater)) less)
      (sym (same_is (get_or records i d).owner name) ∙ owned.after i d (omega (arith, bottom, at_past first past from greater)) less)

  module _ (test : Record N O → Bool) where
    pub first_after : find (λ r. comes_after r.owner name && test r) records ≡ find test (drop from records)
    first_after = sym (find_behind (λ r. comes_after r.owner name) test records from not_after are_after)

    failing : (place : ℕ) → place ≤ length records → AllWithin (λ r. test r ≡ false) records from place → (i : ℕ) (d : Record N O) → i < place → (i < from) ⊎ (from ≤ i)
        → (comes_after (get_or records i d).owner name && test (get_or records i d)) ≡ false
    failing place bound none i d lt (inl k) = ap (λ b. b && test (get_or records i d)) (not_after i d (omega arith) k)
    failing place bound none i d lt (inr k) = and_false (comes_after (get_or records i d).owner name) (test (get_or records i d)) (none i d k lt)

    pub next_found : (place : ℕ) → from ≤ place → place < length records → AllWithin (λ r. test r ≡ false) records from place → option_map_or test (slice_get records place) false ≡ true
        → slice_get records place ≡ find (λ r. comes_after r.owner name && test r) records
    next_found place low lt none h =
        sym (find_at (λ r. comes_after r.owner name && test r) records place (λ i d bottom less. failing place (omega (arith, lt)) none i d less (cases_lt i from)) (at (slice_get records place) refl))
      where
        at : (o : Option (Record N O)) → slice_get records place ≡ o → option_map_or (λ r. comes_after r.owner name && test r) o false ≡ true
        at None e = absurd (false≢true (sym (ap (λ x. option_map_or test x false) e) ∙ h))
        at (Some r) e =
            ap (λ b. b && test r) (ap (λ x. comes_after x.owner name) (sym (get_or_from_slice_get records place r r e)) ∙ are_after place r low lt)
            ∙ (sym (ap (λ x. option_map_or test x false) e) ∙ h)

    pub next_missing : AllWithin (λ r. test r ≡ false) records from (length records) → None ≡ find (λ r. comes_after r.owner name && test r) records
    next_missing none = sym (find_none (λ r. comes_after r.owner name && test r) records (λ i d lt. failing (length records) (omega arith) none i d lt (cases_lt i from)))

-- ---- records whose owners come before a name

module _ {N O : Type 0} (name : List (List ℕ)) (records : List (Record N O)) (first past : ℕ) (owned : AreOwnedFrom name records first past) (test : Record N O → Bool) where
  pub last_earlier : find (λ r. is_lt (name_order r.owner name) && test r) (reverse records) ≡ find test (reverse (take first records))
  last_earlier = sym (find_in_front (λ r. is_lt (name_order r.owner name)) test records first owned.parts.0 owned.parts.1)

pub owner_found : {N O : Type 0} {A : Type 0} (f : List (List ℕ) → A) (origin : List (List ℕ)) (records : List (Record N O)) (place : ℕ) → place < length records → (d : A)
    → option_map_or (λ r. f r.owner) (slice_get records place) d ≡ f (option_map_or (λ r. r.owner) (slice_get records place) origin)
owner_found {N = N} {O = O} f origin records place lt d = by (slice_get records place) (get_some records place lt)
  where
    by : (o : Option (Record N O)) → is_some o ≡ true → option_map_or (λ r. f r.owner) o d ≡ f (option_map_or (λ r. r.owner) o origin)
    by None h = absurd (false≢true h)
    by (Some r) h = refl
