-- Where lines begin.
use Rattle.std.proofs.Common.{◌≡◌, ℕ, ◌+◌, ◌≤◌, List, ◌∷◌, length, drop, refl, sym, ap, ◌∙◌, subst}
use Rattle.std.proofs.Math.Seq.{drop-length}
use Rattle.std.proofs.lemmas.Bool.{cond-false, ne_eqb}
use Rattle.std.proofs.lemmas.List.{drop_all}
use Rattle.std.specs.Io.BufRead.{drop_through}

module _ (octets : List ℕ) (place : ℕ) where
  pub feed_here : (c : ℕ) → drop place octets ≡ c ∷ drop (place + 1) octets → c ≡ 10 → drop (place + 1) octets ≡ drop_through 10 (drop place octets)
  feed_here c e feed = sym (ap (drop_through 10) e ∙ subst (λ n. drop_through 10 (n ∷ drop (place + 1) octets) ≡ drop (place + 1) octets) (sym feed) refl)

  pub other_here : (c : ℕ) → drop place octets ≡ c ∷ drop (place + 1) octets → (c ≡ 10 → ⊥) → drop_through 10 (drop (place + 1) octets) ≡ drop_through 10 (drop place octets)
  other_here c e other = sym (ap (drop_through 10) e ∙ cond-false _ _ _ (ne_eqb c 10 other))

  pub nothing_left : length octets ≤ place → drop (length octets) octets ≡ drop_through 10 (drop place octets)
  nothing_left h = drop-length octets ∙ sym (ap (drop_through 10) (drop_all place octets h))
