use Rattle.std.proofs.Common.{ℕ, ◌≡◌, ◌<◌, false, List, [], ◌∷◌, length, refl, ◌∙◌, arith}
use Rattle.std.specs.Prelude.{◌==◌}
use Rattle.std.proofs.lemmas.Bool.Decides.{nat_tests}
use Rattle.zone_rules.specs.Spf.{has_first_word, joined_strings}
use Rattle.zone_rules.proofs.spf.has_first_word.Goals as goal

some_length : (n : ℕ) → 0 < n → (n == 0) ≡ false
some_length n lt = grind (arith, nat_tests)

at_end : (word rest : List ℕ) (count : ℕ) → length rest < 1 → (length word == 0) ≡ has_first_word word (joined_strings count rest)
at_end [] [] count lt = refl
at_end (o ∷ word) [] count lt = some_length (length (o ∷ word)) (omega arith)
at_end word (o ∷ rest) count lt = absurd (omega (arith, lt))

pub returns : goal.returns
returns c = c.is_empty.ensures ∙ at_end c.loop-rest.wanted.now c.loop-rest.rest.now c.loop-rest.count c.in_default.len_below ∙ c.loop-rest.invariant
