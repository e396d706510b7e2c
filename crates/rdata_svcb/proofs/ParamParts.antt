-- Parameters after other octets.
use Rattle.std.proofs.Common.{ℕ, ◌≡◌, ◌-◌, List, ◌++◌, length, take, drop, sym, ap, ◌∙◌, arith, append-nil}
use Rattle.std.proofs.lemmas.List.{take_at, drop_at, take_all, drop_all, length-append, length-drop}
use borrow.Rule.Slice.PartMut.{post_of}
use Rattle.dns_octets.specs.Octets.{written_over, written_over_whole}

-- what is written after others
pub put_behind : (old slice base octets new : List ℕ) (start : ℕ) → slice ≡ old → old ≡ base ++ octets → start ≡ length base → length new ≡ length octets
    → written_over old (take start slice ++ (new ++ post_of start (length slice - start) slice)) ≡ base ++ new
put_behind old slice base octets new start is split at size =
    let whole : take start slice ++ (new ++ post_of start (length slice - start) slice) ≡ base ++ new =
    ap (λ x. take start slice ++ (new ++ x)) (drop_all (length slice - start) (drop start slice) (omega (arith, length-drop start slice)))
    ∙ ap (λ x. take start slice ++ x) (append-nil new) ∙ ap (λ x. take start x ++ new) (is ∙ split) ∙ ap (λ x. x ++ new) (take_at base octets start (sym at)) in
    ap (written_over old) whole ∙ written_over_whole old (base ++ new) (omega (arith, length-append base new, length-append base octets, ap length split, size))

-- the part after them
pub part_behind : (old slice base octets : List ℕ) (start : ℕ) → slice ≡ old → old ≡ base ++ octets → start ≡ length base → take (length slice - start) (drop start slice) ≡ octets
part_behind old slice base octets start is split at =
    take_all (length slice - start) (drop start slice) (omega (arith, length-drop start slice)) ∙ ap (drop start) (is ∙ split) ∙ drop_at base octets start (sym at)
