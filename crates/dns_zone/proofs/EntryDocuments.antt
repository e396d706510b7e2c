-- Loops over the fields of a line.
use Rattle.std.proofs.Common.{◌≡◌, ℕ, ◌+◌, ◌<◌, ◌≤◌, List, [], ◌∷◌, ◌++◌, length, map, take, drop, refl, sym, ap, subst, ◌∙◌, arith}
use Rattle.std.specs.List.{AllByRecursion}
use Rattle.std.specs.Prelude.{get_or}
use Rattle.std.proofs.lemmas.List.{take_more, drop_more, map-append, length-map, length-take-le, take_all, take-append-drop}
use Rattle.dns_zone.specs.Layout.{Step}
use Rattle.dns_zone.specs.Writers.{WritesSteps}
use Rattle.dns_zone.proofs.Runs.{runs_none, runs_append, runs_step}
use Rattle.dns_zone.specs.declared.entry.Field.{Field}
use Rattle.dns_zone.specs.EntryFields.{Content, number, hex_octets, base64_octets, text_octets, content_of, contents_of, IsPrintable}
use Rattle.dns_zone.specs.EntryLines.{IsFirstEmpty, IsLine, field_step}

pub all_append : (P : Content → Type 0) (xs ys : List Content) → AllByRecursion P xs → AllByRecursion P ys → AllByRecursion P (xs ++ ys)
all_append P [] ys h k = k
all_append P (x ∷ xs) ys h k = (h.0, all_append P xs ys h.1 k)

pub all_parts : (P : Content → Type 0) (xs ys : List Content) → AllByRecursion P (xs ++ ys) → AllByRecursion P ys
all_parts P [] ys h = h
all_parts P (x ∷ xs) ys h = all_parts P xs ys h.1

-- a field that isn't none that can't be a token can be one
some_stable : (os : List ℕ) → ¬ ¬ (0 < length os) → 0 < length os
some_stable [] h = absurd (h (λ k. omega (arith, k)))
some_stable (o ∷ os) h = omega arith

pub printable_stable : (field : Content) → ¬ ¬ IsPrintable field → IsPrintable field
printable_stable (number n) h = tt
printable_stable (hex_octets os) h = some_stable os h
printable_stable (base64_octets os) h = some_stable os h
printable_stable (text_octets os) h = tt

-- the fields up to an index, and the one there
pub contents_more : {A : Type 0} (fields : List (Field A)) (i : ℕ) (x : Field A) → i < length fields → x ≡ get_or fields i x
    → contents_of (take (i + 1) fields) ≡ contents_of (take i fields) ++ content_of x ∷ []
contents_more {A} fields i x h e =
    ap contents_of (take_more fields i x h) ∙ (map-append content_of (take i fields) (get_or fields i x ∷ []) ∙ ap (λ (y : Field A). contents_of (take i fields) ++ content_of y ∷ []) (sym e))

-- a field that can't be a token rejects the list
pub empty_refuses : (fields : List Content) (i : ℕ) → IsFirstEmpty fields i → ¬ IsLine fields
empty_refuses fields i first line =
    first.empty (all_parts IsPrintable first.front (first.next ∷ first.rest) (subst IsLine first.whole line)).0

-- such an index is one
one_place : (front back : List Content) (x y : Content) (rest others : List Content) → front ++ x ∷ rest ≡ back ++ y ∷ others → IsLine front → IsLine back → ¬ IsPrintable x → ¬ IsPrintable y
    → length front ≡ length back
one_place [] [] x y rest others e p q m n = refl
one_place [] (b ∷ bs) x y rest others e p q m n = let same : b ≡ x = cc in absurd (m (subst IsPrintable same q.0))
one_place (f ∷ fs) [] x y rest others e p q m n = let same : f ≡ y = cc in absurd (n (subst IsPrintable same p.0))
one_place (f ∷ fs) (b ∷ bs) x y rest others e p q m n =
    let tails : fs ++ x ∷ rest ≡ bs ++ y ∷ others = cc in
    omega (arith, one_place fs bs x y rest others tails p.1 q.1 m n)

pub one_first_empty : (fields : List Content) (i j : ℕ) → IsFirstEmpty fields i → IsFirstEmpty fields j → i ≡ j
one_first_empty fields i j h k =
    sym h.counted ∙ one_place h.front k.front h.next k.next h.rest k.rest (sym h.whole ∙ k.whole) h.printable k.printable h.empty k.empty ∙ k.counted

-- one field more
pub line_more : {A : Type 0} (fields : List (Field A)) (i : ℕ) (x : Field A) → i < length fields → x ≡ get_or fields i x → IsLine (contents_of (take i fields)) → IsPrintable (content_of x)
    → IsLine (contents_of (take (i + 1) fields))
line_more fields i x h e line printable = rw (contents_more fields i x h e) (all_append IsPrintable (contents_of (take i fields)) (content_of x ∷ []) line (printable, tt))

pub contents_rest : {A : Type 0} (fields : List (Field A)) (i : ℕ) (x : Field A) → i < length fields → x ≡ get_or fields i x
    → contents_of fields ≡ contents_of (take i fields) ++ content_of x ∷ contents_of (drop (i + 1) fields)
contents_rest {A} fields i x h e =
    ap contents_of (sym (take-append-drop i fields)) ∙ map-append content_of (take i fields) (drop i fields)
    ∙ ap (λ l. contents_of (take i fields) ++ contents_of l) (drop_more fields i x h)
    ∙ ap (λ (y : Field A). contents_of (take i fields) ++ content_of y ∷ contents_of (drop (i + 1) fields)) (sym e)

-- the first field that can't be a token
pub first_found : {A : Type 0} (fields : List (Field A)) (i : ℕ) (x : Field A) → i < length fields → x ≡ get_or fields i x → IsLine (contents_of (take i fields)) → ¬ IsPrintable (content_of x)
    → IsFirstEmpty (contents_of fields) i
first_found fields i x h e line none = record {
  front = contents_of (take i fields);
  next = content_of x;
  rest = contents_of (drop (i + 1) fields);
  whole = contents_rest fields i x h e;
  counted = length-map (take i fields) content_of ∙ length-take-le i fields (omega (arith, h));
  printable = line;
  empty = none;
}

-- the writer is in the line's block, after the tokens of some fields
pub record InLine {F : Type 0} (blocks : F → ℕ) (gives : F → Step → F → Type 0) (w : F) (fields : List Content) (v : F) : Type 0 where
  pub inside : 0 < blocks v
  pub runs : WritesSteps blocks gives w (map field_step fields) v

module _ {F : Type 0} (blocks : F → ℕ) (gives : F → Step → F → Type 0) (w : F) where
  pub in_line_none : 0 < blocks w → InLine blocks gives w [] w
  in_line_none h = record { inside = h; runs = runs_none blocks gives w }

  pub in_line_more : {A : Type 0} (fields : List (Field A)) (i : ℕ) (x : Field A) (v u : F) → i < length fields → x ≡ get_or fields i x → InLine blocks gives w (contents_of (take i fields)) v
      → blocks u ≡ blocks v → gives v (field_step (content_of x)) u → InLine blocks gives w (contents_of (take (i + 1) fields)) u
  in_line_more fields i x v u h e k level step = rw (contents_more fields i x h e) (record {
    inside = omega (arith, level, k.inside);
    runs =
        subst (λ l. WritesSteps blocks gives w l u) (sym (map-append field_step (contents_of (take i fields)) (content_of x ∷ [])))
        (runs_append blocks gives w _ v _ u k.runs (runs_step blocks gives v _ u level step));
  })

  pub in_line_all : {A : Type 0} (fields : List Content) (items : List (Field A)) (i : ℕ) (v : F) → contents_of items ≡ fields → length items ≤ i → InLine blocks gives w (contents_of (take i items)) v
      → WritesSteps blocks gives w (map field_step fields) v
  in_line_all fields items i v same all k =
      subst (λ l. WritesSteps blocks gives w (map field_step l) v) (ap contents_of (take_all i items all) ∙ same) k.runs
