-- The NSEC3 records of a chain at a name, before it and after it, by their indexes.
use Rattle.std.proofs.Common.{ℕ, zero, suc, ◌≡◌, ◌+◌, ◌-◌, ◌<◌, ◌≤◌, ◌⊎◌, inl, inr, Bool, true, false, cond, Option, Some, None, List, [], ◌∷◌, length, take, drop, get_or, map, refl, sym, ap, subst, ◌∙◌, arith, All}
use Rattle.std.specs.Prelude.{◌==◌, ◌&&◌, nat_le, nat_lt, IfSome, option_and_then, reverse, slice_get, is_some}
use Rattle.std.specs.List.{AllWithin, find}
use Rattle.std.specs.List.Sorted.{IsNonDecreasing}
use Rattle.std.specs.Option.{option_map, option_map_or, option_or}
use Rattle.std.proofs.lemmas.Bool.{cases_lt, false≢true}
use Rattle.std.proofs.lemmas.Bool.Decides.{nat_tests}
use Rattle.std.proofs.lemmas.List.{get_or-drop, length-drop}
use Rattle.std.proofs.lemmas.Option.{get_or_from_slice_get}
use Rattle.std.proofs.lemmas.List.Elements.{All-head, All-tail}
use Rattle.dns_wire.specs.Order.{same_name}
use Rattle.zone_record.specs.declared.record.Record.{Record}
use Rattle.zone_rules.specs.Searches.{before_place, AreOwnedFrom}
use Rattle.zone_dnssec.specs.ChainLinks.{link_below, link_places, owned_link, places_where, PartsLinks}
use Rattle.zone_dnssec.specs.Nsec3Chain.{is_link, link_after, link_before}
use Rattle.zone_dnssec.specs.OwnedRecords.{greater_of}
use Rattle.zone_dnssec.proofs.ChainLinks.{find_from_suc, find_from_zero, first_at, first_from, first_of_all, from_point, get_some, last_at, last_none, last_of_all, lt_is, none_at_all, not_lt_is, or_some, places_bound}
use Rattle.zone_dnssec.proofs.NextNames.{first_after, last_earlier}
use Rattle.zone_dnssec.proofs.OwnedRecords.{find_at, find_none}

-- ---- options

mapped : (o : Option ℕ) (q : ℕ) → option_map (λ i. suc i) o ≡ Some q → (m : ℕ) × (o ≡ Some m) × (q ≡ suc m)
mapped None q e = cc
mapped (Some m) q e = (m, refl, cc)

within_all : (n : ℕ) (l : List ℕ) (i q : ℕ) → All (λ j. j < n) l → slice_get l i ≡ Some q → q < n
within_all n [] i q h e = cc
within_all n (j ∷ l) zero q h e = let is : j ≡ q = cc in omega (arith, All-head (λ m. m < n) j l h, is)
within_all n (j ∷ l) (suc i) q h e = within_all n l i q (All-tail (λ m. m < n) j l h) e

bound_some : (n : ℕ) (o : Option ℕ) → ((q : ℕ) → o ≡ Some q → q < n) → IfSome o (λ q. q < n)
bound_some n None h = tt
bound_some n (Some q) h = h q refl

below_is : (past : ℕ) (o : Option ℕ) (q : ℕ) → link_below past o ≡ Some q → o ≡ Some q
below_is past None q e = cc
below_is past (Some m) q e = by (nat_lt m past) e
  where
    by : (b : Bool) → cond b (Some m) None ≡ Some q → Some m ≡ Some q
    by true f = f
    by false f = cc

or_bound : (n : ℕ) (a b : Option ℕ) → ((q : ℕ) → a ≡ Some q → q < n) → ((q : ℕ) → b ≡ Some q → q < n) → IfSome (option_or a b) (λ q. q < n)
or_bound n None b h k = bound_some n b k
or_bound n (Some q) b h k = h q refl

-- the items at two places
module _ {X : Type 0} (xs : List X) where
  pub either_place : (a b : Option ℕ) → ((q : ℕ) → a ≡ Some q → q < length xs)
      → option_and_then (slice_get xs) (option_or a b) ≡ option_or (option_and_then (slice_get xs) a) (option_and_then (slice_get xs) b)
  either_place None b h = refl
  either_place (Some q) b h = sym (or_some (slice_get xs q) (option_and_then (slice_get xs) b) (get_some xs q (h q refl)))

-- ---- the first index not below another

-- no item passes from an index up to this one, at which one does
pub record IsFirstFrom {X : Type 0} (p : X → Bool) (xs : List X) (k q : ℕ) : Type 0 where
  pub low : k ≤ q
  pub bound : q < length xs
  pub passes : (d : X) → p (get_or xs q d) ≡ true
  pub none : AllWithin (λ x. p x ≡ false) xs k q

module _ {X : Type 0} (p : X → Bool) where
  shift : (x : X) (xs : List X) (k q m : ℕ) → q ≡ suc m → IsFirstFrom p xs k m → IsFirstFrom p (x ∷ xs) (suc k) q
  shift x xs k q m e h =
      subst (λ n. IsFirstFrom p (x ∷ xs) (suc k) n) (sym e)
      (record {
        low = omega (arith, h.low);
        bound = omega (arith, h.bound);
        passes = λ d. h.passes d;
        none = λ i d low lt. later i d low lt;
      })
    where
      later : (i : ℕ) (d : X) → suc k ≤ i → i < suc m → p (get_or (x ∷ xs) i d) ≡ false
      later zero d low lt = absurd (omega (arith, low))
      later (suc i) d low lt = h.none i d (omega (arith, low)) (omega (arith, lt))

  from_none : (x : X) (xs : List X) (q : ℕ) → p x ≡ false → IsFirstFrom p (x ∷ xs) 1 q → IsFirstFrom p (x ∷ xs) 0 q
  from_none x xs q e h = record {
    low = omega arith;
    bound = h.bound;
    passes = λ d. h.passes d;
    none = λ i d low lt. first i d lt;
  }
    where
      first : (i : ℕ) (d : X) → i < q → p (get_or (x ∷ xs) i d) ≡ false
      first zero d lt = e
      first (suc i) d lt = h.none (suc i) d (omega arith) lt

  found_from : (xs : List X) (k q : ℕ) → find (λ i. nat_le k i) (places_where p xs) ≡ Some q → IsFirstFrom p xs k q
  found_from [] k q e = cc
  found_from (x ∷ xs) zero q e = by (p x) refl (λ m f. found_from xs zero m f) (sym (find_from_zero (places_where p (x ∷ xs))) ∙ e)
    where
      by : (b : Bool) → p x ≡ b → ((m : ℕ) → find (λ i. nat_le 0 i) (places_where p xs) ≡ Some m → IsFirstFrom p xs 0 m) → slice_get (cond b (0 ∷ map (λ i. suc i) (places_where p xs)) (map (λ i. suc i) (places_where p xs))) 0 ≡ Some q → IsFirstFrom p (x ∷ xs) 0 q
      by true f g h =
          let is : 0 ≡ q = cc in
          subst (λ n. IsFirstFrom p (x ∷ xs) 0 n) is (record {
            low = omega arith;
            bound = omega arith;
            passes = λ d. f;
            none = λ i d low lt. absurd (omega (arith, lt));
          })
      by false f g h =
          let w = mapped (find (λ i. nat_le 0 i) (places_where p xs)) q (sym (find_from_suc 0 (places_where p xs)) ∙ from_one (places_where p xs) ∙ h) in
          from_none x xs q f (shift x xs 0 q w.0 w.2 (g w.0 w.1))
        where
          -- each index is 1 or more
          from_one : (l : List ℕ) → find (λ i. nat_le 1 i) (map (λ i. suc i) l) ≡ slice_get (map (λ i. suc i) l) 0
          from_one [] = refl
          from_one (i ∷ l) = ap (λ b. cond b (Some (suc i)) (find (λ j. nat_le 1 j) (map (λ j. suc j) l))) (one_le i)
            where
              one_le : (i : ℕ) → nat_le 1 (suc i) ≡ true
              one_le i = grind (arith, nat_tests)
  found_from (x ∷ xs) (suc k) q e = by (p x) (λ m f. found_from xs k m f) e
    where
      rest : ((m : ℕ) → find (λ i. nat_le k i) (places_where p xs) ≡ Some m → IsFirstFrom p xs k m) → find (λ i. nat_le (suc k) i) (map (λ i. suc i) (places_where p xs)) ≡ Some q → IsFirstFrom p (x ∷ xs) (suc k) q
      rest g h = let w = mapped (find (λ i. nat_le k i) (places_where p xs)) q (sym (find_from_suc k (places_where p xs)) ∙ h) in shift x xs k q w.0 w.2 (g w.0 w.1)

      skipped : (k : ℕ) → nat_le (suc k) 0 ≡ false
      skipped k = grind (arith, nat_tests)

      by : (b : Bool) → ((m : ℕ) → find (λ i. nat_le k i) (places_where p xs) ≡ Some m → IsFirstFrom p xs k m) → find (λ i. nat_le (suc k) i) (cond b (0 ∷ map (λ i. suc i) (places_where p xs)) (map (λ i. suc i) (places_where p xs))) ≡ Some q → IsFirstFrom p (x ∷ xs) (suc k) q
      by true g h = rest g (ap (λ b. cond b (Some 0) (find (λ i. nat_le (suc k) i) (map (λ i. suc i) (places_where p xs)))) (sym (skipped k)) ∙ h)
      by false g h = rest g h

  found_nothing : (xs : List X) → find p xs ≡ None → (i : ℕ) (d : X) → i < length xs → p (get_or xs i d) ≡ false
  found_nothing [] e i d lt = absurd (omega (arith, lt))
  found_nothing (x ∷ xs) e i d lt = by (p x) refl (λ j f less. found_nothing xs f j d less) i lt e
    where
      by : (b : Bool) → p x ≡ b → ((j : ℕ) → find p xs ≡ None → j < length xs → p (get_or xs j d) ≡ false) → (i : ℕ) → i < suc (length xs) → cond b (Some x) (find p xs) ≡ None → p (get_or (x ∷ xs) i d) ≡ false
      by true f g i less h = cc
      by false f g zero less h = f
      by false f g (suc i) less h = g i h (omega (arith, less))

  none_from : (xs : List X) (k : ℕ) → find (λ i. nat_le k i) (places_where p xs) ≡ None → AllWithin (λ x. p x ≡ false) xs k (length xs)
  none_from xs k e i d low lt =
      sym (ap p (get_or-drop k xs (i - k) d ∙ ap (λ n. get_or xs n d) (back k i low))) ∙ rest
    where
      back : (k i : ℕ) → k ≤ i → k + (i - k) ≡ i
      back k i h = omega (arith, h)

      rest : p (get_or (drop k xs) (i - k) d) ≡ false
      rest = found_nothing (drop k xs) (first_from p xs k ∙ ap (option_and_then (slice_get xs)) e) (i - k) d (omega (arith, length-drop k xs, low, lt))

-- ---- the links of a chain

module _ {N O M P : Type 0} (chain : Record M P) (records : List (Record N O)) where
  abbrev links : List ℕ
  links = link_places chain records

  abbrev linked : Record N O → Bool
  linked r = is_link chain r

  pub number_bound : (number q : ℕ) → slice_get links number ≡ Some q → q < length records
  number_bound number q e = within_all (length records) links number q (places_bound linked records) e

  pub before_bound : (number q : ℕ) → before_place links number ≡ Some q → q < length records
  before_bound number q e = by (number == 0) e
    where
      by : (b : Bool) → cond b None (slice_get links (number - 1)) ≡ Some q → q < length records
      by true f = cc
      by false f = number_bound (number - 1) q f

  -- the last one before an index, by the number of those that are below it
  last_by_count : (k count : ℕ) → count ≤ length links → PartsLinks k links count → find linked (reverse (take k records)) ≡ option_and_then (slice_get records) (before_place links count)
  last_by_count k zero bound point = last_none linked records k point.1
  last_by_count k (suc n) bound point =
      last_at linked records k n (omega (arith, bound)) point.0 point.1
      ∙ ap (option_and_then (slice_get records)) (sym (ap (λ b. cond b None (slice_get links (suc n - 1))) (not_zero n) ∙ ap (slice_get links) (less_one n)))
    where
      not_zero : (n : ℕ) → (suc n == 0) ≡ false
      not_zero n = grind (arith, nat_tests)

      less_one : (n : ℕ) → suc n - 1 ≡ n
      less_one n = omega arith

  last_whole : (count : ℕ) → count ≡ length links → find linked (reverse records) ≡ option_and_then (slice_get records) (before_place links count)
  last_whole zero e = none_at_all linked records (sym e)
  last_whole (suc n) e =
      last_of_all linked records n (sym e)
      ∙ ap (option_and_then (slice_get records)) (sym (ap (λ b. cond b None (slice_get links (suc n - 1))) (not_zero n) ∙ ap (slice_get links) (less_one n)))
    where
      not_zero : (n : ℕ) → (suc n == 0) ≡ false
      not_zero n = grind (arith, nat_tests)

      less_one : (n : ℕ) → suc n - 1 ≡ n
      less_one n = omega arith

  module _ (name : List (List ℕ)) (first past : ℕ) (owned : AreOwnedFrom name records first past) where
    -- the one at the name
    abbrev test : Record N O → Bool
    test r = same_name r.owner name && linked r

    other : (r : Record N O) → same_name r.owner name ≡ false → test r ≡ false
    other r h = ap (λ b. b && linked r) h

    no_link : (r : Record N O) → linked r ≡ false → test r ≡ false
    no_link r h = ap (λ b. same_name r.owner name && b) h ∙ by (same_name r.owner name)
      where
        by : (b : Bool) → (b && false) ≡ false
        by true = refl
        by false = refl

    -- no link up to an index, and none at the name from there on
    missing : (until : ℕ) → past ≤ until → AllWithin (λ r. linked r ≡ false) records first until → None ≡ owned_link records chain name
    missing until high none = sym (find_none test records (λ i d lt. by i d lt (cases_lt i first) (cases_lt i until)))
      where
        by : (i : ℕ) (d : Record N O) → i < length records → (i < first) ⊎ (first ≤ i) → (i < until) ⊎ (until ≤ i) → test (get_or records i d) ≡ false
        by i d lt (inl k) q = other (get_or records i d) (owned.before i d (omega arith) k)
        by i d lt (inr k) (inl q) = no_link (get_or records i d) (none i d k q)
        by i d lt (inr k) (inr q) = other (get_or records i d) (owned.after i d (omega (arith, high, q)) lt)

    at_place : (q : ℕ) → q < past → IsFirstFrom linked records first q → slice_get records q ≡ owned_link records chain name
    at_place q lt h = sym (find_at test records q (λ i d low less. by i d less (cases_lt i first)) (at (slice_get records q) refl))
      where
        by : (i : ℕ) (d : Record N O) → i < q → (i < first) ⊎ (first ≤ i) → test (get_or records i d) ≡ false
        by i d less (inl k) = other (get_or records i d) (owned.before i d (omega arith) k)
        by i d less (inr k) = no_link (get_or records i d) (h.none i d k less)

        at : (o : Option (Record N O)) → slice_get records q ≡ o → option_map_or test o false ≡ true
        at None e = absurd (false≢true (ap is_some (sym e) ∙ get_some records q h.bound))
        at (Some r) e =
            let is : get_or records q r ≡ r = get_or_from_slice_get records q r r e in
            ap (λ b. b && linked r) (ap (λ x. same_name x.owner name) (sym is) ∙ owned.owned q r h.low lt) ∙ ap linked (sym is) ∙ h.passes r

    link_is : (o : Option ℕ) → find (λ i. nat_le first i) links ≡ o → option_and_then (slice_get records) (link_below past o) ≡ owned_link records chain name
    link_is None e = missing (length records) owned.bound (λ i d low lt. nothing i d low lt)
      where
        nothing : (i : ℕ) (d : Record N O) → first ≤ i → i < length records → linked (get_or records i d) ≡ false
        nothing i d low lt = none_from linked records first e i d low lt
    link_is (Some q) e = by (cases_lt q past)
      where
        is_first : IsFirstFrom linked records first q
        is_first = found_from linked records first q e

        by : (q < past) ⊎ (past ≤ q) → option_and_then (slice_get records) (link_below past (Some q)) ≡ owned_link records chain name
        by (inl lt) = ap (λ b. option_and_then (slice_get records) (cond b (Some q) None)) (lt_is q past lt) ∙ at_place q lt is_first
        by (inr more) = ap (λ b. option_and_then (slice_get records) (cond b (Some q) None)) (not_lt_is q past more) ∙ missing q more is_first.none

    pub link_by_count : (count : ℕ) → PartsLinks first links count → option_and_then (slice_get records) (link_below past (slice_get links count)) ≡ owned_link records chain name
    link_by_count count point = ap (λ o. option_and_then (slice_get records) (link_below past o)) (sym (from_point first links count point.0 point.1)) ∙ link_is (find (λ i. nat_le first i) links) refl

    pub below_bound : (number : ℕ) → IfSome (link_below past (slice_get links number)) (λ q. q < length records)
    below_bound number = bound_some (length records) (link_below past (slice_get links number)) (λ q e. number_bound number q (below_is past (slice_get links number) q e))

    -- the one after it
    pub next_by_count : (from count : ℕ) → from ≡ greater_of first past → PartsLinks from links count
        → option_and_then (slice_get records) (option_or (slice_get links count) (slice_get links 0)) ≡ link_after records chain name
    next_by_count from count greater point =
        either_place records (slice_get links count) (slice_get links 0) (number_bound count)
        ∙ (λ i. option_or (sym (first_after name records first past owned from greater linked ∙ first_at linked records from count point.0 point.1) i) (sym (first_of_all linked records) i))

    pub next_bound : (count : ℕ) → IfSome (option_or (slice_get links count) (slice_get links 0)) (λ q. q < length records)
    next_bound count = or_bound (length records) (slice_get links count) (slice_get links 0) (number_bound count) (number_bound 0)

    -- the one before it
    pub covering_by_count : (count long : ℕ) → count ≤ length links → PartsLinks first links count → long ≡ length links
        → option_and_then (slice_get records) (option_or (before_place links count) (before_place links long)) ≡ link_before records chain name
    covering_by_count count long bound point e =
        either_place records (before_place links count) (before_place links long) (before_bound count)
        ∙ (λ i. option_or (sym (last_earlier name records first past owned linked ∙ last_by_count first count bound point) i) (sym (last_whole long e) i))

    pub covering_bound : (count long : ℕ) → IfSome (option_or (before_place links count) (before_place links long)) (λ q. q < length records)
    covering_bound count long = or_bound (length records) (before_place links count) (before_place links long) (before_bound count) (before_bound long)
