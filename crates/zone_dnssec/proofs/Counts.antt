-- A loop that counts records.
use Rattle.std.proofs.Common.{ℕ, ◌≡◌, ◌+◌, ◌<◌, Bool, true, false, Option, Some, None, List, length, take, refl, sym, ap, ◌∙◌}
use Rattle.std.specs.Prelude.{slice_get, is_some}
use Rattle.std.specs.List.{count_by}
use Rattle.std.specs.Option.{option_map_or}
use Rattle.std.proofs.lemmas.Bool.{false≢true}
use Rattle.std.proofs.lemmas.List.Sums.{count_by_more_no, count_by_more_yes}
use Rattle.std.proofs.lemmas.Option.{get_or_from_slice_get}
use Rattle.zone_dnssec.proofs.ChainLinks.{get_some}

module _ {X : Type 0} (p : X → Bool) (xs : List X) (i n : ℕ) (lt : i < length xs) (so_far : n ≡ count_by p (take i xs)) where
  pub one_more : option_map_or p (slice_get xs i) false ≡ true → n + 1 ≡ count_by p (take (i + 1) xs)
  one_more h = by (slice_get xs i) refl h
    where
      by : (o : Option X) → slice_get xs i ≡ o → option_map_or p o false ≡ true → n + 1 ≡ count_by p (take (i + 1) xs)
      by None q k = absurd (false≢true k)
      by (Some x) q k = ap (λ m. m + 1) so_far ∙ sym (count_by_more_yes p xs i x lt (ap p (get_or_from_slice_get xs i x x q) ∙ k))

  pub no_more : option_map_or p (slice_get xs i) false ≡ false → n ≡ count_by p (take (i + 1) xs)
  no_more h = by (slice_get xs i) refl h
    where
      by : (o : Option X) → slice_get xs i ≡ o → option_map_or p o false ≡ false → n ≡ count_by p (take (i + 1) xs)
      by None q k = absurd (false≢true (sym (ap is_some q) ∙ get_some xs i lt))
      by (Some x) q k = so_far ∙ sym (count_by_more_no p xs i x lt (ap p (get_or_from_slice_get xs i x x q) ∙ k))
