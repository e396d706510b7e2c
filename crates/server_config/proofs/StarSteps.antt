-- What a star takes of a name: what comes after it is found at the first octets that fit, and a later star takes what is left.
use Rattle.std.proofs.Common.{ℕ, ◌≡◌, ◌<◌, ◌≤◌, ◌+◌, ◌==◌, Bool, true, false, List, [], ◌∷◌, length, refl, sym, ap, ◌∙◌, arith, get_or, drop, ◌⊎◌, inl, inr}
use Rattle.std.proofs.lemmas.Bool.{and_parts, eq-eqb, false≢true, ne_eqb, or_cases, or_left, or_right}
use Rattle.std.proofs.Math.Nat.{eq-or-lt_of_le}
use Rattle.std.proofs.lemmas.List.{drop-drop, drop_all, get_or-drop, length-drop}
use Rattle.std.specs.Prelude.{zero, suc, ◌||◌, slice_index}
use Rattle.server_config.specs.PathPatterns.{item_fits, items_after, path_fits, pattern_items, PatternItem}
use Rattle.server_config.specs.PathPatterns.PatternItem.{Star, One, OneOf, NoneOf, Same}
use Rattle.server_config.specs.PathPlaces.{count_before_star, from_star, EndsHere, IsStarOrEnd, IsAfterItems, IsAfterStar}
use Rattle.server_config.proofs.PathSteps.{rest_cons}

both_ways : (a b : Bool) → (a ≡ true → b ≡ true) → (b ≡ true → a ≡ true) → a ≡ b
both_ways true b there back = sym (there refl)
both_ways false true there back = back refl
both_ways false false there back = refl

-- a star takes nothing, or the next octet too
pub star_here : (items : List PatternItem) (name : List ℕ) → path_fits items name ≡ true → path_fits (Star ∷ items) name ≡ true
star_here items [] fits = fits
star_here items (c ∷ name) fits = or_left (path_fits items (c ∷ name)) (path_fits (Star ∷ items) name) fits

star_on : (items : List PatternItem) (count : ℕ) (name : List ℕ) → path_fits (Star ∷ items) (drop count name) ≡ true → path_fits (Star ∷ items) name ≡ true
star_on items zero name fits = fits
star_on items (suc count) [] fits = fits
star_on items (suc count) (c ∷ name) fits = or_right (path_fits items (c ∷ name)) (path_fits (Star ∷ items) name) (star_on items count name fits)

-- after the items before a star
after_items : (items : List PatternItem) (name : List ℕ) → path_fits items name ≡ true → path_fits (from_star items) (drop (count_before_star items) name) ≡ true
after_items [] name fits = fits
after_items (Star ∷ items) name fits = fits
after_items (One ∷ items) [] fits = absurd (false≢true fits)
after_items (OneOf set ∷ items) [] fits = absurd (false≢true fits)
after_items (NoneOf set ∷ items) [] fits = absurd (false≢true fits)
after_items (Same d ∷ items) [] fits = absurd (false≢true fits)
after_items (One ∷ items) (c ∷ name) fits = after_items items name (and_parts (item_fits One c) (path_fits items name) fits).1
after_items (OneOf set ∷ items) (c ∷ name) fits = after_items items name (and_parts (item_fits (OneOf set) c) (path_fits items name) fits).1
after_items (NoneOf set ∷ items) (c ∷ name) fits = after_items items name (and_parts (item_fits (NoneOf set) c) (path_fits items name) fits).1
after_items (Same d ∷ items) (c ∷ name) fits = after_items items name (and_parts (item_fits (Same d) c) (path_fits items name) fits).1

after_star : (items more : List PatternItem) (name : List ℕ) → from_star items ≡ Star ∷ more → path_fits (Star ∷ items) name ≡ true
    → path_fits (Star ∷ more) (drop (count_before_star items) name) ≡ true
after_star items more [] is fits = sym (ap (λ l. path_fits l (drop (count_before_star items) [])) is) ∙ after_items items [] fits
after_star items more (c ∷ name) is fits = by_end (after_star items more name is) (or_cases (path_fits items (c ∷ name)) (path_fits (Star ∷ items) name) fits)
  where
    by_end : (path_fits (Star ∷ items) name ≡ true → path_fits (Star ∷ more) (drop (count_before_star items) name) ≡ true)
        → (path_fits items (c ∷ name) ≡ true) ⊎ (path_fits (Star ∷ items) name ≡ true) → path_fits (Star ∷ more) (drop (count_before_star items) (c ∷ name)) ≡ true
    by_end later (inl here) = sym (ap (λ l. path_fits l (drop (count_before_star items) (c ∷ name))) is) ∙ after_items items (c ∷ name) here
    by_end later (inr there) =
        let count = count_before_star items in
        let one : drop 1 (drop count (c ∷ name)) ≡ drop count name = drop-drop 1 count (c ∷ name) ∙ ap (λ n. drop n (c ∷ name)) {x = count + 1} {y = suc count} (omega arith) in
        star_on more 1 (drop count (c ∷ name)) (ap (path_fits (Star ∷ more)) one ∙ later there)

star_led : (p : List ℕ) (index : ℕ) → index < length p → slice_index p index ≡ 42 → pattern_items (drop index p) ≡ Star ∷ items_after 0 (drop (index + 1) p)
star_led p index lt is = ap pattern_items (rest_cons p index lt) ∙ ap (λ c. pattern_items (c ∷ drop (index + 1) p)) {x = get_or p index 0} {y = 42} is

some_left : (name : List ℕ) → 0 < length name → path_fits [] name ≡ false
some_left [] lt = absurd (omega (arith, lt))
some_left (c ∷ name) lt = refl

-- items up to the end of a pattern that fit only a part of a name
pub not_here : (p n : List ℕ) (r : ℕ × ℕ) → IsAfterItems p n r → length p ≤ r.0 → (r.1 ≡ length n → ⊥) → path_fits (pattern_items p) n ≡ false
not_here p n r after le differs =
    let left : 0 < length (drop r.1 n) = omega (arith, length-drop r.1 n, after.within, differs) in
    after.rest ∙ ap (λ l. path_fits (pattern_items l) (drop r.1 n)) (drop_all r.0 p le) ∙ some_left (drop r.1 n) left

module _ (p n : List ℕ) (r : ℕ × ℕ) (ends : EndsHere p n r) where
  rest_of : path_fits (pattern_items p) n ≡ path_fits (pattern_items (drop r.0 p)) (drop r.1 n)
  rest_of = ends.after.rest

  -- the first octets that fit what comes before the next star
  up_to_star : r.0 < length p → path_fits (Star ∷ pattern_items p) n ≡ path_fits (pattern_items (drop r.0 p)) (drop r.1 n)
  up_to_star lt =
      let led = star_led p r.0 lt (ends.after.star.1 lt) in
      let more = items_after 0 (drop (r.0 + 1) p) in
      both_ways (path_fits (Star ∷ pattern_items p) n) (path_fits (pattern_items (drop r.0 p)) (drop r.1 n))
      (λ fits. ap (λ l. path_fits l (drop r.1 n)) led ∙ ap (λ k. path_fits (Star ∷ more) (drop k n)) ends.after.count ∙ after_star (pattern_items p) more n (sym ends.after.items ∙ led) fits)
      (λ fits. star_here (pattern_items p) n (rest_of ∙ fits))

  -- the octets at the end of a name that fit what comes last
  up_to_end : length p ≤ r.0 → r.1 ≡ length n → path_fits (Star ∷ pattern_items p) n ≡ path_fits (pattern_items (drop r.0 p)) (drop r.1 n)
  up_to_end le is =
      let ended : path_fits (pattern_items (drop r.0 p)) (drop r.1 n) ≡ true = ap (λ l. path_fits (pattern_items l) (drop r.1 n)) (drop_all r.0 p le) ∙ ap (path_fits []) (drop_all r.1 n (omega (arith, is))) in
      star_here (pattern_items p) n (rest_of ∙ ended) ∙ sym ended

  pub up_to : path_fits (Star ∷ pattern_items p) n ≡ path_fits (pattern_items (drop r.0 p)) (drop r.1 n)
  up_to = elim (eq-or-lt_of_le ends.after.star.0) [ inl is ↦ at_end is ends.ends | inr lt ↦ up_to_star lt ]
    where
      at_end : r.0 ≡ length p → (r.0 < length p) ⊎ (r.1 ≡ length n) → path_fits (Star ∷ pattern_items p) n ≡ path_fits (pattern_items (drop r.0 p)) (drop r.1 n)
      at_end is (inl lt) = up_to_star lt
      at_end is (inr ended) = up_to_end (omega (arith, is)) ended

-- no octets so far fit what is after a star
pub record IsPassed (p n : List ℕ) (from : ℕ) : Type 0 where
  pub same : from ≤ length n → path_fits (Star ∷ pattern_items p) (drop from n) ≡ path_fits (Star ∷ pattern_items p) n
  pub none : length n < from → path_fits (Star ∷ pattern_items p) n ≡ false

pub first_place : (p n : List ℕ) → IsPassed p n 0
first_place p n = record {
  same = λ le. refl;
  none = λ lt. absurd (omega (arith, lt));
}

module _ (p n : List ℕ) (from : ℕ) (so : IsPassed p n from) (le : from ≤ length n) where
  pub next_place : path_fits (pattern_items p) (drop from n) ≡ false → IsPassed p n (from + 1)
  next_place differs = record {
    same = λ lt. sym (or_from_first (path_fits (pattern_items p) (drop from n)) differs (omega (arith, lt))) ∙ so.same le;
    none = λ lt. sym (so.same le) ∙ ap (path_fits (Star ∷ pattern_items p)) (drop_all from n (omega (arith, lt))) ∙ sym (ap (path_fits (pattern_items p)) (drop_all from n (omega (arith, lt)))) ∙ differs;
  }
    where
      or_from_first : (b : Bool) → path_fits (pattern_items p) (drop from n) ≡ false → from < length n → path_fits (Star ∷ pattern_items p) (drop from n) ≡ path_fits (Star ∷ pattern_items p) (drop (from + 1) n)
      or_from_first b lacks lt = ap (path_fits (Star ∷ pattern_items p)) (rest_cons n from lt)
          ∙ ap (λ x. x || path_fits (Star ∷ pattern_items p) (drop (from + 1) n)) (sym (ap (path_fits (pattern_items p)) (rest_cons n from lt)) ∙ lacks)

  pub found_place : (r : ℕ × ℕ) → EndsHere p (drop from n) r → IsAfterStar p n (r.0, from + r.1)
  found_place r ends = record {
    star = ends.after.star;
    within = omega (arith, ends.after.within, length-drop from n, le);
    rest = sym (so.same le) ∙ up_to p (drop from n) r ends ∙ ap (path_fits (pattern_items (drop r.0 p))) (drop-drop r.1 from n);
  }

-- a pattern up to a star, and a name up to what that star takes
pub record IsUpTo (p n : List ℕ) (index at : ℕ) : Type 0 where
  pub star : IsStarOrEnd p index
  pub within : at ≤ length n
  pub rest : path_fits (pattern_items (drop index p)) (drop at n) ≡ path_fits (pattern_items p) n

pub up_to_first : (p n : List ℕ) (r : ℕ × ℕ) → IsAfterItems p n r → IsUpTo p n r.0 r.1
up_to_first p n r after = record {
  star = after.star;
  within = after.within;
  rest = sym after.rest;
}

module _ (p n : List ℕ) (index at : ℕ) (so : IsUpTo p n index at) (lt : index < length p) where
  led : path_fits (Star ∷ pattern_items (drop (index + 1) p)) (drop at n) ≡ path_fits (pattern_items p) n
  led = ap (λ l. path_fits l (drop at n)) (sym (star_led p index lt (so.star.1 lt))) ∙ so.rest

  pub star_differs : path_fits (Star ∷ pattern_items (drop (index + 1) p)) (drop at n) ≡ false → path_fits (pattern_items p) n ≡ false
  star_differs differs = sym led ∙ differs

  pub star_passed : (r : ℕ × ℕ) → IsAfterStar (drop (index + 1) p) (drop at n) r → IsUpTo p n (index + (1 + r.0)) (at + r.1)
  star_passed r after = record {
    star = (omega (arith, after.star.0, length-drop (index + 1) p, lt), λ le. ap (λ k. get_or p k 0) {x = index + (1 + r.0)} {y = index + 1 + r.0} (omega arith) ∙ sym (get_or-drop (index + 1) p r.0 0) ∙ after.star.1 (omega (arith, length-drop (index + 1) p, le)));
    within = omega (arith, after.within, length-drop at n, so.within);
    rest = ap (λ k. path_fits (pattern_items (drop k p)) (drop (at + r.1) n)) {x = index + (1 + r.0)} {y = index + 1 + r.0} (omega arith)
        ∙ ap (λ l. path_fits (pattern_items l) (drop (at + r.1) n)) (sym (drop-drop r.0 (index + 1) p))
        ∙ ap (path_fits (pattern_items (drop r.0 (drop (index + 1) p)))) (sym (drop-drop r.1 at n))
        ∙ sym after.rest ∙ led;
  }

pub name_left : (p n : List ℕ) (index at : ℕ) → IsUpTo p n index at → length p ≤ index → path_fits (pattern_items p) n ≡ (at == length n)
name_left p n index at so le =
    sym so.rest ∙ ap (λ l. path_fits (pattern_items l) (drop at n)) (drop_all index p le) ∙ elim (eq-or-lt_of_le so.within) [
      | inl is ↦ ap (path_fits []) (drop_all at n (omega (arith, is))) ∙ sym (eq-eqb at (length n) is)
      | inr lt ↦ some_left (drop at n) (omega (arith, lt, length-drop at n)) ∙ sym (ne_eqb at (length n) (λ is. omega (arith, is, lt)))
    ]
