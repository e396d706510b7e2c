-- Items of a pattern and octets of a name, item by item.
use Rattle.std.proofs.Common.{ℕ, ◌≡◌, ◌<◌, ◌≤◌, ◌+◌, ◌==◌, Bool, true, false, ◌&&◌, List, [], ◌∷◌, length, refl, sym, ap, ◌∙◌, arith, get_or, drop}
use Rattle.std.proofs.lemmas.Bool.{false≢true}
use Rattle.std.proofs.lemmas.List.{drop-drop, drop_all, length-drop}
use Rattle.std.specs.Prelude.{zero, suc, if◌then◌else◌, Option, Some, None}
use Rattle.server_config.specs.PathPatterns.{bracket_item, end_of_set, is_negated, set_text, item_fits, item_more, item_of, items_after, path_fits, pattern_items, PatternItem}
use Rattle.server_config.specs.PathPatterns.PatternItem.{Star, One, OneOf, NoneOf, Same}
use Rattle.server_config.specs.PathPlaces.{count_before_star}
use Rattle.server_config.proofs.PathSteps.{rest_cons}

abbrev is_star : PatternItem → Bool
is_star Star = true
is_star _ = false

-- the items after the octets of one
items_skip : (more : ℕ) (text : List ℕ) → more ≤ length text → items_after more text ≡ pattern_items (drop more text)
items_skip zero text le = refl
items_skip (suc more) [] le = absurd (omega (arith, le))
items_skip (suc more) (_ ∷ text) le = items_skip more text (omega (arith, le))

pub items_at : (p : List ℕ) (index more : ℕ) → index < length p → more ≡ item_more (get_or p index 0) (drop (index + 1) p) → index + (1 + more) ≤ length p
    → pattern_items (drop index p) ≡ item_of (get_or p index 0) (drop (index + 1) p) ∷ pattern_items (drop (index + (1 + more)) p)
items_at p index more lt is within =
    let c = get_or p index 0 in
    let text = drop (index + 1) p in
    ap pattern_items (rest_cons p index lt)
    ∙ ap (λ k. item_of c text ∷ items_after k text) (sym is)
    ∙ ap (λ items. item_of c text ∷ items) (items_skip more text (omega (arith, within, length-drop (index + 1) p))
    ∙ ap pattern_items (drop-drop more (index + 1) p ∙ ap (λ k. drop k p) {x = index + 1 + more} {y = index + (1 + more)} (omega arith)))

no_bracket_star : (end : Option ℕ) (text : List ℕ) → is_star (bracket_item end text) ≡ false
no_bracket_star None text = refl
no_bracket_star (Some end) text = by_mark (is_negated text)
  where
    by_mark : (b : Bool) → is_star (if b then NoneOf (set_text text) else OneOf (set_text text)) ≡ false
    by_mark true = refl
    by_mark false = refl

no_star : (c : ℕ) (text : List ℕ) → (c == 42) ≡ false → is_star (item_of c text) ≡ false
no_star c text differs =
    ap (λ b. is_star (if b then Star else (if c == 63 then One else (if c == 91 then bracket_item (end_of_set text) text else Same c)))) differs
    ∙ others (c == 63) (c == 91)
  where
    others : (b d : Bool) → is_star (if b then One else (if d then bracket_item (end_of_set text) text else Same c)) ≡ false
    others true d = refl
    others false true = no_bracket_star (end_of_set text) text
    others false false = refl

star_counts : (item : PatternItem) (items : List PatternItem) → is_star item ≡ false → count_before_star (item ∷ items) ≡ suc (count_before_star items)
star_counts Star items is = absurd (false≢true (sym is))
star_counts One items is = refl
star_counts (OneOf set) items is = refl
star_counts (NoneOf set) items is = refl
star_counts (Same c) items is = refl

fits_on : (item : PatternItem) (items : List PatternItem) (d : ℕ) (name : List ℕ) → is_star item ≡ false
    → path_fits (item ∷ items) (d ∷ name) ≡ (item_fits item d && path_fits items name)
fits_on Star items d name is = absurd (false≢true (sym is))
fits_on One items d name is = refl
fits_on (OneOf set) items d name is = refl
fits_on (NoneOf set) items d name is = refl
fits_on (Same c) items d name is = refl

fits_none : (item : PatternItem) (items : List PatternItem) → is_star item ≡ false → path_fits (item ∷ items) [] ≡ false
fits_none Star items is = absurd (false≢true (sym is))
fits_none One items is = refl
fits_none (OneOf set) items is = refl
fits_none (NoneOf set) items is = refl
fits_none (Same c) items is = refl

-- items that fit the octets of a name so far, none of them a star
pub record IsBeforeStar (p n : List ℕ) (index at : ℕ) : Type 0 where
  pub within : index ≤ length p
  pub inside : at ≤ length n
  pub count : at + count_before_star (pattern_items (drop index p)) ≡ count_before_star (pattern_items p)
  pub items : drop at (pattern_items p) ≡ pattern_items (drop index p)
  pub rest : path_fits (pattern_items p) n ≡ path_fits (pattern_items (drop index p)) (drop at n)

pub first_item : (p n : List ℕ) → IsBeforeStar p n 0 0
first_item p n = record {
  within = omega arith;
  inside = omega arith;
  count = omega arith;
  items = refl;
  rest = refl;
}

module _ (p n : List ℕ) (index at more : ℕ) (lt : index < length p) (differs : (get_or p index 0 == 42) ≡ false) (so : IsBeforeStar p n index at)
    (is : more ≡ item_more (get_or p index 0) (drop (index + 1) p)) (in_p : index + (1 + more) ≤ length p) where
  abbrev pub item : PatternItem
  item = item_of (get_or p index 0) (drop (index + 1) p)

  abbrev pub others : List PatternItem
  others = pattern_items (drop (index + (1 + more)) p)

  here : pattern_items (drop index p) ≡ item ∷ others
  here = items_at p index more lt is in_p

  star_less : is_star item ≡ false
  star_less = no_star (get_or p index 0) (drop (index + 1) p) differs

  pub item_passed : at < length n → item_fits item (get_or n at 0) ≡ true → IsBeforeStar p n (index + (1 + more)) (at + 1)
  item_passed in_n fits = record {
    within = in_p;
    inside = omega (arith, in_n);
    count = omega (arith, so.count, ap count_before_star here, star_counts item others star_less);
    items = sym (drop-drop 1 at (pattern_items p)) ∙ ap (drop 1) (so.items ∙ here);
    rest = so.rest ∙ ap (λ l. path_fits l (drop at n)) here ∙ ap (path_fits (item ∷ others)) (rest_cons n at in_n)
        ∙ fits_on item others (get_or n at 0) (drop (at + 1) n) star_less ∙ ap (λ b. b && path_fits others (drop (at + 1) n)) fits;
  }

  pub name_ended : length n ≤ at → path_fits (pattern_items p) n ≡ false
  name_ended le = so.rest ∙ ap (λ l. path_fits l (drop at n)) here ∙ ap (path_fits (item ∷ others)) (drop_all at n le) ∙ fits_none item others star_less

  pub octet_differs : at < length n → item_fits item (get_or n at 0) ≡ false → path_fits (pattern_items p) n ≡ false
  octet_differs in_n fits = so.rest ∙ ap (λ l. path_fits l (drop at n)) here ∙ ap (path_fits (item ∷ others)) (rest_cons n at in_n)
      ∙ fits_on item others (get_or n at 0) (drop (at + 1) n) star_less ∙ ap (λ b. b && path_fits others (drop (at + 1) n)) fits
