-- The first line feed of octets.
use Rattle.std.proofs.Common.{◌≡◌, ℕ, ◌+◌, ◌<◌, List, ◌∷◌, ◌++◌, length, drop, get_or, refl, sym, ap, ◌∙◌, subst}
use Rattle.std.proofs.lemmas.Bool.{cond-false, ne_eqb}
use Rattle.std.proofs.lemmas.List.{drop_more}
use Rattle.std.specs.Io.BufRead.{drop_through}

module _ (octets more : List ℕ) (at : ℕ) (h : at < length octets) where
  here : drop at octets ++ more ≡ get_or octets at 0 ∷ (drop (at + 1) octets ++ more)
  here = ap (λ l. l ++ more) (drop_more octets at 0 h)

  pub feed_here : get_or octets at 0 ≡ 10 → drop_through 10 (drop at octets ++ more) ≡ drop (at + 1) octets ++ more
  feed_here feed =
      let tail : List ℕ = drop (at + 1) octets ++ more in
      ap (drop_through 10) here ∙ subst (λ n. drop_through 10 (n ∷ tail) ≡ tail) (sym feed) refl

  pub other_here : (get_or octets at 0 ≡ 10 → ⊥) → drop_through 10 (drop at octets ++ more) ≡ drop_through 10 (drop (at + 1) octets ++ more)
  other_here other = ap (drop_through 10) here ∙ cond-false _ _ _ (ne_eqb (get_or octets at 0) 10 other)
