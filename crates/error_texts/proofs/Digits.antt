-- Numbers in decimal, digit by digit, in a text that is cut.
use Rattle.std.proofs.Common.{◌≡◌, ℕ, ◌<◌, ◌≤◌, ◌^◌, ◌+◌, ◌/◌, ◌%◌, List, [], ◌∷◌, ◌++◌, decimal, take, sym, ap, ◌∙◌, arith}
use Rattle.std.proofs.lemmas.Fmt.{decimal_digit, decimal_step}
use Rattle.error_texts.proofs.CutTexts.{cut_two}

pub one_digit_cut : (old new : List ℕ) (n : ℕ) → n < 10 → new ≡ take 255 (old ++ (48 + n) ∷ []) → new ≡ take 255 (old ++ decimal n)
one_digit_cut old new n less is = is ∙ ap (λ l. take 255 (old ++ l)) (sym (decimal_digit n less))

pub digit_more_cut : (old between new : List ℕ) (n : ℕ) → 10 ≤ n → n < 2 ^ 64 → between ≡ take 255 (old ++ decimal (n / 10)) → new ≡ take 255 (between ++ (48 + n % 10) ∷ []) → new ≡ take 255 (old ++ decimal n)
digit_more_cut old between new n more fits before is =
    cut_two 255 old (decimal (n / 10)) ((48 + n % 10) ∷ []) between new before is ∙ ap (λ l. take 255 (old ++ l)) (sym (decimal_step n more fits))
