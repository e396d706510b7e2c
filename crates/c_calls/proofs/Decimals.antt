-- Numbers in decimal, digit by digit.
use Rattle.std.proofs.Common.{◌≡◌, ◌+◌, ◌≤◌, ◌<◌, ◌^◌, ◌++◌, ◌/◌, ◌%◌, ℕ, List, [], ◌∷◌, length, decimal, sym, ap, ◌∙◌, arith, append_assoc, length-append, length-take, take}
use Rattle.std.proofs.lemmas.Fmt.{decimal_step, decimal_digit, decimal_nonempty, length-decimal-le}

pub some_digit : (n : ℕ) → n < 2 ^ 16 → 0 < length (decimal n)
some_digit n fits = decimal_nonempty n (omega (arith, fits))

pub five_digits : (n : ℕ) → n < 2 ^ 16 → length (decimal n) ≤ 5
five_digits n fits = length-decimal-le 5 n (omega arith) (omega (arith, fits)) (omega (arith, fits))

pub one_digit : (old new : List ℕ) (n : ℕ) → n < 10 → new ≡ old ++ (48 + n) ∷ [] → new ≡ old ++ decimal n
one_digit old new n less is = is ∙ ap (λ l. old ++ l) (sym (decimal_digit n less))

last_digit : (n : ℕ) → 10 ≤ n → n < 2 ^ 16 → decimal n ≡ decimal (n / 10) ++ (48 + n % 10) ∷ []
last_digit n more fits = decimal_step n more (omega (arith, fits))

pub digits_before : (n : ℕ) → 10 ≤ n → n < 2 ^ 16 → length (decimal n) ≡ length (decimal (n / 10)) + 1
digits_before n more fits = ap length (last_digit n more fits) ∙ length-append (decimal (n / 10)) ((48 + n % 10) ∷ [])

pub digit_more : (old between new : List ℕ) (n : ℕ) → 10 ≤ n → n < 2 ^ 16 → between ≡ old ++ decimal (n / 10) → new ≡ between ++ (48 + n % 10) ∷ [] → new ≡ old ++ decimal n
digit_more old between new n more fits before is =
    is ∙ ap (λ l. l ++ (48 + n % 10) ∷ []) before ∙ append_assoc old (decimal (n / 10)) ((48 + n % 10) ∷ []) ∙ ap (λ l. old ++ l) (sym (last_digit n more fits))

pub begun_prefix : (prefix items taken : List ℕ) (k : ℕ) → length prefix ≤ 5 → items ≡ prefix → taken ≡ take k items → length taken ≤ 5
begun_prefix prefix items taken k short same is = omega (arith, short, ap length same, ap length is, length-take k items)
