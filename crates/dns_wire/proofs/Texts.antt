-- Texts of names, one label after another.
use Rattle.std.proofs.Common.{◌≡◌, ℕ, ◌<◌, List, [], ◌∷◌, ◌++◌, length, map, refl, sym, ap, ◌∙◌, arith, append_assoc}
use Rattle.std.specs.List.{join_with_byte}
use Rattle.std.proofs.lemmas.List.{map-append}
use Rattle.dns_wire.specs.Building.{closed}
use Rattle.dns_wire.specs.Wire.{EndsInRoot}
use Rattle.dns_wire.specs.Printed.{joined_by, dotted_by, undotted_by, without_root}

-- one piece more
join_more : (x : List ℕ) (xs : List (List ℕ)) (y : List ℕ) → join_with_byte 46 ((x ∷ xs) ++ y ∷ []) ≡ join_with_byte 46 (x ∷ xs) ++ 46 ∷ y
join_more x [] y = refl
join_more x (z ∷ xs) y =
    ap (λ t. x ++ 46 ∷ t) (join_more z xs y) ∙ sym (append_assoc x (46 ∷ join_with_byte 46 (z ∷ xs)) (46 ∷ y))

-- whatever a label prints
module _ (text : List ℕ → List ℕ) where
  pub joined_push : (labels : List (List ℕ)) (label : List ℕ) → 0 < length labels → joined_by text (labels ++ label ∷ []) ≡ joined_by text labels ++ 46 ∷ text label
  joined_push [] label h = absurd (omega arith)
  joined_push (l ∷ ls) label h = ap (join_with_byte 46) (map-append text (l ∷ ls) (label ∷ [])) ∙ join_more (text l) (map text ls) (text label)

  -- but for the lone root, a dot at the end is the empty text of the root
  pub dotted_joined : (labels : List (List ℕ)) → (labels ≡ [] ∷ [] → ⊥) → dotted_by text labels ≡ joined_by text labels
  dotted_joined [] h = refl
  dotted_joined ([] ∷ []) h = absurd (h refl)
  dotted_joined ((x ∷ xs) ∷ []) h = refl
  dotted_joined ([] ∷ b ∷ c) h = refl
  dotted_joined ((x ∷ xs) ∷ b ∷ c) h = refl

  pub undotted_joined : (labels : List (List ℕ)) → (labels ≡ [] ∷ [] → ⊥) → undotted_by text labels ≡ joined_by text (without_root labels)
  undotted_joined [] h = refl
  undotted_joined ([] ∷ []) h = absurd (h refl)
  undotted_joined ((x ∷ xs) ∷ []) h = refl
  undotted_joined ([] ∷ b ∷ c) h = refl
  undotted_joined ((x ∷ xs) ∷ b ∷ c) h = refl

-- the last label decides what remains without a root
pub without_root_push : (front : List (List ℕ)) (label : List ℕ) → without_root (front ++ label ∷ []) ≡ front ++ closed label
without_root_push [] label = refl
without_root_push (l ∷ []) label = refl
without_root_push (l ∷ k ∷ front) label = ap (λ x. l ∷ x) (without_root_push (k ∷ front) label)

closed_some : (label : List ℕ) → (label ≡ [] → ⊥) → closed label ≡ label ∷ []
closed_some [] h = absurd (h refl)
closed_some (x ∷ xs) h = refl

-- if the last label isn't the root, all labels are kept
pub none_left_out : (labels : List (List ℕ)) → (EndsInRoot labels → ⊥) → without_root labels ≡ labels
none_left_out [] h = refl
none_left_out (l ∷ []) h = closed_some l (λ e. h ([], ap (λ x. x ∷ []) e))
none_left_out (l ∷ k ∷ ls) h = ap (λ x. l ∷ x) (none_left_out (k ∷ ls) (λ e. h (l ∷ e.0, ap (λ x. l ∷ x) e.1)))
