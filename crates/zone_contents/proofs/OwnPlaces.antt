-- The records with the key of one of them.
use Rattle.std.proofs.Common.{ℕ, ◌≡◌, ◌+◌, ◌-◌, ◌<◌, ◌≤◌, ◌⊎◌, inl, inr, Bool, true, false, Some, List, [], length, get_or, refl, sym, ap, subst, ◌∙◌, arith}
use Rattle.std.specs.Prelude.{All}
use Rattle.std.specs.List.{AllWithin}
use Rattle.std.specs.List.Sorted.{IsSorted}
use Rattle.std.specs.Ordering.{is_le, is_lt, ordering_reverse}
use Rattle.std.specs.declared.cmp.Ordering.{Ordering}
use Rattle.std.specs.declared.cmp.Ordering.TheVariants.{Less, Equal, Greater}
use Rattle.std.proofs.lemmas.Bool.{cases_lt, false≢true}
use Rattle.std.proofs.lemmas.List.{get_or_default}
use Rattle.std.proofs.lemmas.Cmp.{nat_list_cmp_total, tied_itself}
use Rattle.zone_record.specs.Names.{octet_order}
use Rattle.zone_record.proofs.Orders.{octets_equal}
use Rattle.zone_contents.specs.Contents.{listed_record, listing, IsZoneRecord}
use Rattle.zone_contents.specs.Keys.{key_in_zone, name_in_zone}
use Rattle.zone_contents.specs.Searches.{BeginsKey, EndsKey}
use Rattle.zone_contents.proofs.Listings.{listed_get, owned_from, valid_at}
use Rattle.zone_contents.proofs.OneKey.{key_back}
use Rattle.zone_rules.specs.Searches.{AreOwnedAt, AreOwnedFrom}
use Rattle.zone_store.specs.Stored.{AddedRecord, absent_parts, added_record, record_at, stored_order, CountsBeforeKey}
use Rattle.zone_store.proofs.EntrySearches.{greater_last, keys_coarser, keys_total, lesser_first}

abbrev none : AddedRecord
none = added_record [] absent_parts

same_some : {X : Type 0} (x y : X) → Some x ≡ Some y → x ≡ y
same_some x y h = cc

-- one element more
pub one_more : {X : Type 0} (P : X → Type 0) (xs : List X) (first place : ℕ) (e : X) → place < length xs → AllWithin P xs first place → P (get_or xs place e) → AllWithin P xs first (place + 1)
one_more P xs first place e lt h p i d low less = by (cases_lt i place)
  where
    by : (i < place) ⊎ (place ≤ i) → P (get_or xs i d)
    by (inl before) = h i d low before
    by (inr more) =
        let same : place ≡ i = omega (arith, less, more) in
        subst (λ j. P (get_or xs j d)) same (subst P (get_or_default xs place e d lt) p)

tied : (o : Ordering) → is_lt o ≡ false → is_le o ≡ true → o ≡ Equal
tied Less h k = absurd (false≢true (sym h))
tied Equal h k = refl
tied Greater h k = absurd (false≢true k)

-- records of a key before the last ones
pub ends_more : (records : List AddedRecord) (key : List ℕ) (first place past : ℕ) → first ≤ place → AllWithin (λ r. r.key ≡ key) records first place → (record_at records place).key ≡ key
    → EndsKey (record_at records place).key records place past → EndsKey key records first past
ends_more records key first place past low before is run = record {
  bound = run.bound;
  from = omega (arith, low, run.from);
  same = λ i d from less. elim (cases_lt i place) [ inl under ↦ before i d from under | inr above ↦ run.same i d above less ∙ is ];
  ends = λ lt e. run.ends lt (e ∙ sym is);
}

-- a record between two of one key has that key
module _ (records : List AddedRecord) (sorted : IsSorted stored_order records) where
  module _ (key : List ℕ) where
    abbrev keyed : AddedRecord
    keyed = added_record key absent_parts

    itself : (i : ℕ) → (record_at records i).key ≡ key → octet_order (record_at records i).key key ≡ Equal
    itself i e = ap (λ k. octet_order k key) e ∙ tied_itself nat_list_cmp_total key

    not_before : (i m : ℕ) → i ≤ m → m < length records → (record_at records i).key ≡ key → is_lt (octet_order (record_at records m).key key) ≡ false
    not_before i m low lt e = by (is_lt (octet_order (record_at records m).key key)) refl
      where
        by : (b : Bool) → is_lt (octet_order (record_at records m).key key) ≡ b → b ≡ false
        by true t = sym (lesser_first keys_total keys_coarser keyed records sorted i m none low lt t) ∙ ap is_lt (itself i e)
        by false t = refl

    pub keys_between : (i m j : ℕ) → i ≤ m → m ≤ j → j < length records → (record_at records i).key ≡ key → (record_at records j).key ≡ key → (record_at records m).key ≡ key
    keys_between i m j low high lt e f =
        octets_equal (record_at records m).key key
        (tied (octet_order (record_at records m).key key) (not_before i m low (omega (arith, high, lt)) e)
        (greater_last keys_total keys_coarser keyed records sorted m j none high lt (ap is_le (itself j f))))

  between : (key : List ℕ) (i m j : ℕ) (d : AddedRecord) → i ≤ m → m ≤ j → j < length records → (record_at records i).key ≡ key → (record_at records j).key ≡ key → (get_or records m d).key ≡ key
  between key i m j d low high lt e f = ap (λ r. r.key) (get_or_default records m d none (omega (arith, high, lt))) ∙ keys_between key i m j low high lt e f

  -- the last record of a key, and the next one
  pub ends_run : (place last past : ℕ) → place ≤ last → last < past → past ≤ last + 1 → past ≤ length records → (record_at records last).key ≡ (record_at records place).key
      → (past < length records → (record_at records past).key ≡ (record_at records place).key → ⊥) → EndsKey (record_at records place).key records place past
  ends_run place last past low lt end bound same ends = record {
    bound = bound;
    from = omega (arith, low, lt);
    same = λ i d from less. between (record_at records place).key place i last d from (omega (arith, less, end)) (omega (arith, lt, bound)) refl same;
    ends = ends;
  }

  -- the first record of a key, and the one before it
  pub begins_run : (place from first : ℕ) → from ≤ first → first ≤ from → first ≤ place → place < length records → (record_at records first).key ≡ (record_at records place).key
      → (0 < from → (record_at records (from - 1)).key ≡ (record_at records place).key → ⊥) → BeginsKey records place first
  begins_run place from first low high bound lt same begins = record {
    bound = bound;
    same = λ i d low less. between (record_at records place).key first i place d low (omega (arith, less)) lt same refl;
    begins = λ more e. begins (omega (arith, more, high)) (ap (λ i. (record_at records (i - 1)).key) (omega (arith, low, high)) ∙ e);
  }

module _ (records : List AddedRecord) (place first past : ℕ) (lt : place < length records) (sorted : IsSorted stored_order records) (begins : BeginsKey records place first) (ends : EndsKey (record_at records place).key records place past) where
  abbrev key : List ℕ
  key = (record_at records place).key

  first_lt : first < length records
  first_lt = omega (arith, begins.bound, lt)

  first_key : (record_at records first).key ≡ key
  first_key = by (cases_lt first place)
    where
      by : (first < place) ⊎ (place ≤ first) → (record_at records first).key ≡ key
      by (inl less) = begins.same first none (omega arith) less
      by (inr more) = let same : first ≡ place = omega (arith, more, begins.bound) in ap (λ i. (record_at records i).key) same

  is_less : (o : Ordering) → is_lt (ordering_reverse o) ≡ false → (o ≡ Equal → ⊥) → is_lt o ≡ true
  is_less Less h n = refl
  is_less Equal h n = absurd (n refl)
  is_less Greater h n = absurd (false≢true (sym h))

  last_less : (before : ℕ) → before + 1 ≡ first → is_lt (octet_order (record_at records before).key key) ≡ true
  last_less before is =
      let a = (record_at records before).key in
      let other : a ≡ key → ⊥ = λ e. begins.begins (omega (arith, is)) (ap (λ i. (record_at records i).key) (omega (arith, is)) ∙ e) in
      is_less (octet_order a key)
      (ap is_lt (sym (nat_list_cmp_total.antisymm key a))
      ∙ ap (λ k. is_lt (octet_order k a)) (sym first_key)
      ∙ ap (λ i. is_lt (octet_order (record_at records i).key a)) (sym is)
      ∙ keys_coarser (record_at records (before + 1)) (record_at records before) (sorted before none (omega arith) (omega (arith, is, first_lt))))
      (λ e. other (octets_equal a key e))

  lesser : (i : ℕ) (d : AddedRecord) → i < first → is_lt (octet_order (get_or records i d).key key) ≡ true
  lesser i d less =
      lesser_first keys_total keys_coarser (record_at records place) records sorted i (first - 1) d (omega (arith, less)) (omega (arith, less, first_lt))
      (ap (λ r. is_lt (octet_order r.key key)) (get_or_default records (first - 1) d none (omega (arith, less, first_lt))) ∙ last_less (first - 1) (omega (arith, less)))

  not_less : (o : Ordering) → o ≡ Equal → is_lt o ≡ true → ⊥
  not_less o e t = false≢true (sym (ap is_lt e) ∙ t)

  not_lesser : (i : ℕ) (d : AddedRecord) → first ≤ i → i < length records → is_lt (octet_order (get_or records i d).key key) ≡ false
  not_lesser i d low less = by (is_lt (octet_order (get_or records i d).key key)) refl
    where
      by : (b : Bool) → is_lt (octet_order (get_or records i d).key key) ≡ b → b ≡ false
      by true e =
          absurd (not_less (octet_order key key) (tied_itself nat_list_cmp_total key)
          (sym (ap (λ k. is_lt (octet_order k key)) (ap (λ r. r.key) (get_or_default records first d none first_lt) ∙ first_key))
          ∙ lesser_first keys_total keys_coarser (record_at records place) records sorted first i d low less e))
      by false e = refl

  pub counts_before : CountsBeforeKey key records first
  counts_before = (λ i d low less. lesser i d less, λ i d low less. not_lesser i d low less)

  pub ends_first : EndsKey key records first past
  ends_first = record {
    bound = ends.bound;
    from = omega (arith, begins.bound, ends.from);
    same = λ i d low less. same_at i d low less (cases_lt i place);
    ends = ends.ends;
  }
    where
      same_at : (i : ℕ) (d : AddedRecord) → first ≤ i → i < past → (i < place) ⊎ (place ≤ i) → (get_or records i d).key ≡ key
      same_at i d low less (inl before) = begins.same i d low before
      same_at i d low less (inr after) = ends.same i d after less

  module _ (apex : List (List ℕ)) (are : All (IsZoneRecord apex) records) where
    pub owned_at : AreOwnedAt (listing apex records) place first past
    owned_at r is =
        let found : listed_record apex (record_at records place) ≡ r = same_some (listed_record apex (record_at records place)) r (sym (listed_get apex records place lt) ∙ is) in
        let name = name_in_zone apex key in
        let back : key ≡ key_in_zone apex name = key_back apex key (valid_at apex records are place lt).owner in
        subst (λ o. AreOwnedFrom o (listing apex records) first past) (ap (λ q. q.owner) found)
        (owned_from apex records are sorted name first past (subst (λ k. CountsBeforeKey k records first) back counts_before) (subst (λ k. EndsKey k records first past) back ends_first))
