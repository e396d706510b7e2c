-- Items of a text, octet by octet.
use Rattle.std.proofs.Common.{◌≡◌, ◌≢◌, ℕ, ◌+◌, ◌-◌, ◌<◌, ◌≤◌, ◌⊎◌, Bool, true, false, cond, List, [], ◌∷◌, ◌++◌, length, take, drop, get_or, All, refl, sym, ap, ◌∙◌, arith, inl, inr, append_assoc, append-nil}
use Rattle.std.proofs.lemmas.List.{take_rest, length-append}
use Rattle.std.proofs.lemmas.List.Concat.{flat_map-append}
use Rattle.std.proofs.lemmas.List.Elements.{All-tail, All-cons, All-append}
use Rattle.std.proofs.lemmas.Bool.{both_ways, eqb-true}
use Rattle.dns_octets.specs.Appending.{Gains}
use Rattle.rdata_svcb.specs.Texts.{is_special, item_octet, item_text, later_text, list_text, wire_strings, IsItem, IsList, EndsItem, SplitsItem, SpellsList}

shape_by : (o : ℕ) (more : List ℕ) (b : Bool) → is_special o ≡ b
    → ((is_special o ≡ true) × (cond b (92 ∷ o ∷ []) (o ∷ []) ++ more ≡ 92 ∷ o ∷ more)) ⊎ ((is_special o ≡ false) × (cond b (92 ∷ o ∷ []) (o ∷ []) ++ more ≡ o ∷ more))
shape_by o more true e = inl (e, refl)
shape_by o more false e = inr (e, refl)

-- an octet of an item is itself, or is after a backslash
shape : (o : ℕ) (more : List ℕ) → ((is_special o ≡ true) × (item_octet o ++ more ≡ 92 ∷ o ∷ more)) ⊎ ((is_special o ≡ false) × (item_octet o ++ more ≡ o ∷ more))
unfolding item_octet
shape o more = shape_by o more (is_special o) refl

pub plain_split : (xs : List ℕ) → 0 < length xs → is_special (get_or xs 0 0) ≡ false → xs ≡ item_octet (get_or xs 0 0) ++ take (length xs - 1) (drop 1 xs)
plain_split [] l e = absurd (omega arith)
plain_split (x ∷ xs) l e = elim (shape x (take (length (x ∷ xs) - 1) (drop 1 (x ∷ xs)))) [
  | inl s ↦ absurd (both_ways (is_special x) e s.0)
  | inr s ↦ sym (s.1 ∙ ap (λ r. x ∷ r) (take_rest (x ∷ xs) 1))
]

special : (x : ℕ) → is_special x ≡ true → x ≢ 44 → x ≡ 92
special x e n = grind (arith, eqb-true)

pub escape_split : (xs : List ℕ) → 2 ≤ length xs → is_special (get_or xs 0 0) ≡ true → get_or xs 0 0 ≢ 44 → is_special (get_or xs 1 0) ≡ true
    → xs ≡ item_octet (get_or xs 1 0) ++ take (length xs - 2) (drop 2 xs)
escape_split [] l e n s = absurd (omega arith)
escape_split (x ∷ []) l e n s = absurd (omega arith)
escape_split (x ∷ y ∷ xs) l e n s = elim (shape y (take (length (x ∷ y ∷ xs) - 2) (drop 2 (x ∷ y ∷ xs)))) [
  | inl h ↦ sym (h.1 ∙ ap (λ r. 92 ∷ y ∷ r) (take_rest (x ∷ y ∷ xs) 2) ∙ ap (λ z. z ∷ y ∷ xs) (sym (special x e n)))
  | inr h ↦ absurd (both_ways (is_special y) h.0 s)
]

-- the text does not begin with an octet of an item
pub no_octet : (xs : List ℕ) → (0 < length xs → is_special (get_or xs 0 0) ≡ true)
    → (2 ≤ length xs → get_or xs 0 0 ≡ 92 → is_special (get_or xs 1 0) ≡ false) → EndsItem xs
no_octet xs one two o more e = elim (shape o more) [
  | inl s ↦ (let is : xs ≡ 92 ∷ o ∷ more = e ∙ s.1 in let l = ap length is in
      both_ways (is_special o) (ap (λ ys. is_special (get_or ys 1 0)) (sym is) ∙ two (omega arith) (ap (λ ys. get_or ys 0 0) is)) s.0)
  | inr s ↦ (let is : xs ≡ o ∷ more = e ∙ s.1 in let l = ap length is in
      both_ways (is_special o) s.0 (ap (λ ys. is_special (get_or ys 0 0)) (sym is) ∙ one (omega arith)))
]

pub ends_empty : (xs : List ℕ) → xs ≡ [] → EndsItem xs
ends_empty xs e = no_octet xs (λ l. let n = ap length e in absurd (omega arith)) (λ l. let n = ap length e in absurd (omega arith))

pub ends_comma : (more : List ℕ) → EndsItem (44 ∷ more)
ends_comma more = no_octet (44 ∷ more) (λ l. refl) (λ l e. absurd (omega arith))

pub same_first : (a b : ℕ) (r s : List ℕ) → item_octet a ++ r ≡ item_octet b ++ s → (a ≡ b) × (r ≡ s)
same_first a b r s e = elim (shape a r) [
  | inl h ↦ (elim (shape b s) [
    | inl k ↦ (let j : 92 ∷ a ∷ r ≡ 92 ∷ b ∷ s = sym h.1 ∙ e ∙ k.1 in (cc, cc))
    | inr k ↦ (let j : 92 ∷ a ∷ r ≡ b ∷ s = sym h.1 ∙ e ∙ k.1 in let is : 92 ≡ b = cc in absurd (both_ways (is_special b) k.0 (ap is_special (sym is))))
  ])
  | inr h ↦ (elim (shape b s) [
    | inl k ↦ (let j : a ∷ r ≡ 92 ∷ b ∷ s = sym h.1 ∙ e ∙ k.1 in let is : a ≡ 92 = cc in absurd (both_ways (is_special a) h.0 (ap is_special is)))
    | inr k ↦ (let j : a ∷ r ≡ b ∷ s = sym h.1 ∙ e ∙ k.1 in (cc, cc))
  ])
]

-- a text begins with an item in one way
pub one_item : (a b r s : List ℕ) → item_text a ++ r ≡ item_text b ++ s → EndsItem r → EndsItem s → (a ≡ b) × (r ≡ s)
one_item [] [] r s e er es = (refl, e)
one_item [] (y ∷ b) r s e er es = absurd (er y (item_text b ++ s) (e ∙ append_assoc (item_octet y) (item_text b) s))
one_item (x ∷ a) [] r s e er es = absurd (es x (item_text a ++ r) (sym e ∙ append_assoc (item_octet x) (item_text a) r))
one_item (x ∷ a) (y ∷ b) r s e er es =
    let first = same_first x y (item_text a ++ r) (item_text b ++ s) (sym (append_assoc (item_octet x) (item_text a) r) ∙ e ∙ append_assoc (item_octet y) (item_text b) s) in
    let rest = one_item a b r s first.1 er es in
    (ap (λ z. z ∷ a) first.0 ∙ ap (λ z. y ∷ z) rest.0, rest.1)

pub octet_shorter : (rest after : List ℕ) (o : ℕ) → rest ≡ item_octet o ++ after → length after < length rest
octet_shorter rest after o e = elim (shape o after) [
  | inl s ↦ (let l = ap length (e ∙ s.1) in omega arith)
  | inr s ↦ (let l = ap length (e ∙ s.1) in omega arith)
]

-- what has been read of an item
pub record TakesItem (text front rest : List ℕ) : Type 0 where
  pub split : text ≡ item_text front ++ rest
  pub short : length front + length rest ≤ length text

pub takes_more : (text front rest after : List ℕ) (o : ℕ) → TakesItem text front rest → rest ≡ item_octet o ++ after → TakesItem text (front ++ o ∷ []) after
takes_more text front rest after o h e = record {
  split = h.split ∙ ap (λ r. item_text front ++ r) e ∙ sym (append_assoc (item_text front) (item_octet o) after)
      ∙ ap (λ x. x ++ after) (ap (λ x. item_text front ++ x) (sym (append-nil (item_octet o))) ∙ sym (flat_map-append item_octet front (o ∷ [])));
  short = let l = octet_shorter rest after o e in omega (arith, h.short, length-append front (o ∷ []));
}

-- text of items after commas ends an item
pub later_ends : (items : List (List ℕ)) → EndsItem (later_text items)
later_ends [] = ends_empty [] refl
later_ends (item ∷ items) = ends_comma (item_text item ++ later_text items)

-- the item that a text begins with has one number of octets
pub other_count : (text front rest item more : List ℕ) → SplitsItem text front rest → SplitsItem text item more → length item ≡ length front
other_count text front rest item more a b = ap length (one_item item front more rest (sym b.0 ∙ a.0) b.1 a.1).0

pub list_push : (items : List (List ℕ)) (item after : List ℕ) → items ≢ [] → list_text (items ++ item ∷ []) ++ after ≡ list_text items ++ (44 ∷ item_text item ++ after)
list_push [] item after n = absurd (n refl)
list_push (i ∷ is) item after n =
    ap (λ x. (item_text i ++ x) ++ after) (flat_map-append (λ j. 44 ∷ item_text j) is (item ∷ []) ∙ ap (λ x. later_text is ++ (44 ∷ x)) (append-nil (item_text item)))
    ∙ ap (λ x. x ++ after) (sym (append_assoc (item_text i) (later_text is) (44 ∷ item_text item)))
    ∙ append_assoc (item_text i ++ later_text is) (44 ∷ item_text item) after

pub pushed_some : (items : List (List ℕ)) (item : List ℕ) → items ++ item ∷ [] ≢ []
pushed_some items item e = let l = ap length e in let m = length-append items (item ∷ []) in omega arith

-- the list so far
pub record TakesList (text rest old new : List ℕ) : Type 0 where
  pub items : List (List ℕ)
  pub is_list : IsList items
  pub split : text ≡ list_text items ++ rest
  pub strings : new ≡ old ++ wire_strings items
  pub ends : EndsItem rest

pub list_first : (text rest old new item : List ℕ) → IsItem item → SplitsItem text item rest → new ≡ old ++ (length item ∷ item) → TakesList text rest old new
list_first text rest old new item is s e = record {
  items = item ∷ [];
  is_list = record { some = λ z. absurd cc; each = All-cons IsItem item [] is (λ k d l. absurd (omega arith)) };
  split = s.0 ∙ ap (λ x. x ++ rest) (sym (append-nil (item_text item)));
  strings = e ∙ ap (λ x. old ++ x) (sym (append-nil (length item ∷ item)));
  ends = s.1;
}

pub list_more : (text rest tail after old mid new item : List ℕ) → TakesList text rest old mid → rest ≡ 44 ∷ tail → IsItem item → SplitsItem tail item after
    → new ≡ mid ++ (length item ∷ item) → TakesList text after old new
list_more text rest tail after old mid new item h e is s n = record {
  items = h.items ++ item ∷ [];
  is_list = record { some = pushed_some h.items item; each = All-append IsItem h.items (item ∷ []) h.is_list.each (All-cons IsItem item [] is (λ k d l. absurd (omega arith))) };
  split = h.split ∙ ap (λ r. list_text h.items ++ r) (e ∙ ap (λ t. 44 ∷ t) s.0) ∙ sym (list_push h.items item after h.is_list.some);
  strings = n ∙ ap (λ x. x ++ (length item ∷ item)) h.strings ∙ append_assoc old (wire_strings h.items) (length item ∷ item)
      ∙ ap (λ x. old ++ (wire_strings h.items ++ x)) (sym (append-nil (length item ∷ item))) ∙ ap (λ x. old ++ x) (sym (flat_map-append (λ i. length i ∷ i) h.items (item ∷ [])));
  ends = s.1;
}

pub comma_split : (rest : List ℕ) → 0 < length rest → get_or rest 0 0 ≡ 44 → rest ≡ 44 ∷ take (length rest - 1) (drop 1 rest)
comma_split [] l e = absurd (omega arith)
comma_split (x ∷ xs) l e = ap (λ z. z ∷ xs) e ∙ ap (λ r. 44 ∷ r) (sym (take_rest (x ∷ xs) 1))

pub item_shorter : (text item rest : List ℕ) → SplitsItem text item rest → length rest ≤ length text
item_shorter text item rest s = let l = ap length s.0 ∙ length-append (item_text item) rest in omega arith

same_later : (a b : List (List ℕ)) → All IsItem a → All IsItem b → later_text a ≡ later_text b → a ≡ b
same_later [] [] ia ib e = refl
same_later (x ∷ xs) [] ia ib e = absurd cc
same_later [] (y ∷ ys) ia ib e = absurd cc
same_later (x ∷ xs) (y ∷ ys) ia ib e =
    let j : item_text x ++ later_text xs ≡ item_text y ++ later_text ys = cc in
    let one = one_item x y (later_text xs) (later_text ys) j (later_ends xs) (later_ends ys) in
    ap (λ z. z ∷ xs) one.0 ∙ ap (λ zs. y ∷ zs) (same_later xs ys (All-tail IsItem x xs ia) (All-tail IsItem y ys ib) one.1)

-- a text is that of one list
pub one_list_text : (a b : List (List ℕ)) → IsList a → IsList b → list_text a ≡ list_text b → a ≡ b
one_list_text [] b ia ib e = absurd (ia.some refl)
one_list_text (x ∷ xs) [] ia ib e = absurd (ib.some refl)
one_list_text (x ∷ xs) (y ∷ ys) ia ib e =
    let one = one_item x y (later_text xs) (later_text ys) e (later_ends xs) (later_ends ys) in
    ap (λ z. z ∷ xs) one.0 ∙ ap (λ zs. y ∷ zs) (same_later xs ys (All-tail IsItem x xs ia.each) (All-tail IsItem y ys ib.each) one.1)

-- all of the text is read
pub list_whole : (text rest old new : List ℕ) → TakesList text rest old new → length rest ≡ 0 → Gains (SpellsList text) old new
list_whole text [] old new h none = (wire_strings h.items, (h.items, h.is_list, sym (h.split ∙ append-nil (list_text h.items)), refl), h.strings)
list_whole text (x ∷ rest) old new h none = absurd (omega (arith, none))
