-- Comparisons of lists, and when they tie.
use Rattle.std.proofs.Common.{◌≡◌, ℕ, true, List, refl, sym, ap, ◌∙◌}
use Rattle.std.specs.Prelude.{nat_eq}
use Rattle.std.specs.Ordering.{nat_cmp, is_eq}
use Rattle.std.specs.Cmp.Lexicographic.{pointwise, slice_cmp, same_text, texts_ties}
use Rattle.std.specs.declared.cmp.Ordering.{Ordering}
use Rattle.std.specs.declared.cmp.Ordering.TheVariants.{Less, Equal, Greater}
use Rattle.std.proofs.lemmas.Cmp.{nat_list_eq_equiv}
use Rattle.dns_charstr.specs.Wire.{wire_of}

equal_is : (o : Ordering) → is_eq o ≡ true → o ≡ Equal
equal_is Less h = absurd (cc)
equal_is Equal h = refl
equal_is Greater h = absurd (cc)

pub tied_same : (a b : List ℕ) → slice_cmp nat_cmp a b ≡ Equal → pointwise nat_eq a b ≡ true
tied_same a b h = texts_ties a b ∙ ap is_eq h

pub same_tied : (a b : List ℕ) → pointwise nat_eq a b ≡ true → slice_cmp nat_cmp a b ≡ Equal
same_tied a b h = equal_is (slice_cmp nat_cmp a b) (sym (texts_ties a b) ∙ h)

-- two lists whose wire formats tie are the same list
pub wire_tied : (a b : List ℕ) → slice_cmp nat_cmp (wire_of a) (wire_of b) ≡ Equal → a ≡ b
wire_tied a b h =
    let same : wire_of a ≡ wire_of b = same_text (wire_of a) (wire_of b) (sym (tied_same (wire_of a) (wire_of b) h)) in cc

pub wire_ties : (a b : List ℕ) → a ≡ b → slice_cmp nat_cmp (wire_of a) (wire_of b) ≡ Equal
wire_ties a b h =
    same_tied (wire_of a) (wire_of b) (ap (λ x. pointwise nat_eq (wire_of a) (wire_of x)) (sym h) ∙ nat_list_eq_equiv.refl (wire_of a))
