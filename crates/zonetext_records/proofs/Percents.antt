-- A share of a number, by its hundreds and the rest.
use Rattle.std.proofs.Common.{◌≡◌, ◌∙◌, ℕ, ◌+◌, ◌*◌, ◌/◌, ◌%◌, ap, sym, arith, zero, ◌<◌}
use Rattle.std.proofs.Math.Nat.{mul-add-div_right}
use Rattle.std.proofs.lemmas.Nat.{div-add-mod'}

times_parts : (q r p : ℕ) → (q * 100 + r) * p ≡ q * p * 100 + r * p
times_parts q r p = grind arith

above_zero : zero < 100
above_zero = omega arith

pub percent_by_parts : (total percent : ℕ) → total / 100 * percent + total % 100 * percent / 100 ≡ total * percent / 100
percent_by_parts total percent =
    sym (ap (λ n. n * percent / 100) (sym (div-add-mod' total 100)) ∙ ap (λ n. n / 100) (times_parts (total / 100) (total % 100) percent) ∙ mul-add-div_right above_zero (total / 100 * percent) (total % 100 * percent))
