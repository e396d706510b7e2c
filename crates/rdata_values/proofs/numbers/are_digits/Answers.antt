use Rattle.std.proofs.Common.{arith, rules, ⊎_elim}
use Rattle.std.proofs.lemmas.Int.Digits.{digits_more}
use Rattle.std.proofs.lemmas.Str.Parse.{digit_at}
use Rattle.rdata_values.proofs.numbers.are_digits.Goals as goal

pub returns-then-not-is_ascii_digit : goal.returns-then-not-is_ascii_digit
returns-then-not-is_ascii_digit c =
    let f = c.if-not-is_ascii_digit.ensures.cases in
    (λ h. search rules, λ h. let range = digit_at c.args.text.now c.loop-byte.byte-index h c.loop-byte-test.true in absurd (⊎_elim (λ low. omega (arith, low, range)) (λ high. omega (arith, high, range)) f))

pub loop-byte-preserved : goal.loop-byte-preserved
loop-byte-preserved c =
    digits_more 10 c.args.text.now c.loop-byte.byte-index c.loop-byte-test.true c.loop-byte.invariant c.if-not-is_ascii_digit.ensures.bound
