-- Edits, one after another.
use Rattle.std.proofs.Common.{ℕ, suc, ◌≡◌, ◌<◌, ◌≤◌, ◌+◌, List, ◌∷◌, length, drop, get_or, sym, ap, subst, ◌∙◌}
use Rattle.std.proofs.lemmas.List.{drop_more}
use Rattle.zone_edit.specs.declared.edit.Edit.{Edit}
use Rattle.zone_edit.specs.Edits.{AreApart, EndWithin, IsAfter, IsFirstOutOfOrder, IsFirstPastEnd}

-- the rest of a list begins with the element that is next
pub rest_of : {X : Type 0} (xs : List X) (i : ℕ) (x d : X) → i < length xs → x ≡ get_or xs i d → drop i xs ≡ x ∷ drop (i + 1) xs
rest_of xs i x d lt is = drop_more xs i d lt ∙ ap (λ y. y ∷ drop (i + 1) xs) (sym is)

module _ {B : Type 0} (edits : List (Edit B)) (i : ℕ) (e : Edit B) (next : drop i edits ≡ e ∷ drop (i + 1) edits) where
  pub past_here : (count : ℕ) → count < e.end → IsFirstPastEnd count (drop i edits) 0
  past_here count lt = subst (λ l. IsFirstPastEnd count l 0) (sym next) lt

  pub past_next : (count k : ℕ) → e.end ≤ count → IsFirstPastEnd count (drop (i + 1) edits) k → IsFirstPastEnd count (drop i edits) (suc k)
  past_next count k le h = subst (λ l. IsFirstPastEnd count l (suc k)) (sym next) (le, h)

  pub within_next : (count : ℕ) → e.end ≤ count → EndWithin count (drop (i + 1) edits) → EndWithin count (drop i edits)
  within_next count le h = subst (EndWithin count) (sym next) (le, h)

  pub wrong_here : (at : ℕ) → (IsAfter at e → ⊥) → IsFirstOutOfOrder at (drop i edits) 0
  wrong_here at h = subst (λ l. IsFirstOutOfOrder at l 0) (sym next) h

  pub wrong_next : (at k : ℕ) → IsAfter at e → IsFirstOutOfOrder e.end (drop (i + 1) edits) k → IsFirstOutOfOrder at (drop i edits) (suc k)
  wrong_next at k after h = subst (λ l. IsFirstOutOfOrder at l (suc k)) (sym next) (after, h)

  pub ordered_next : (at : ℕ) → IsAfter at e → AreApart e.end (drop (i + 1) edits) → AreApart at (drop i edits)
  ordered_next at after h = subst (AreApart at) (sym next) (after, h)

  pub ordered_gives : (at : ℕ) → AreApart at (drop i edits) → IsAfter at e × AreApart e.end (drop (i + 1) edits)
  ordered_gives at h = subst (AreApart at) next h
