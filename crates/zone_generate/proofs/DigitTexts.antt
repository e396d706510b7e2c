-- Texts that are read octet by octet.
use Rattle.std.proofs.Common.{ℕ, suc, lit<, ◌≡◌, ◌<◌, ◌≤◌, ◌+◌, ◌*◌, ◌^◌, Bool, true, false, ◌&&◌, List, [], ◌∷◌, length, refl, sym, subst, ap, ◌∙◌, arith, get_or, drop}
use Rattle.std.specs.Prelude.{nat_le, not, ◌==◌, cond, Ok, Err}
use Rattle.std.proofs.lemmas.Bool.{and_parts, ltb-true, lt-leb}
use Rattle.std.specs.List.{list_all}
use Rattle.std.proofs.lemmas.List.{drop_more, drop_all}
use Rattle.std.specs.Char.{digit_value, is_digit}
use Rattle.std.specs.Str.Parse.{AllDigits, digits_value, digits_value_after}
use Rattle.zone_generate.specs.Numerals.{are_digits, numeral_of, octet_index}
use Rattle.zone_generate.specs.declared.error.GenerateErrorKind.{GenerateErrorKind}

abbrev pub decimal_digit : ℕ → Bool
decimal_digit c = is_digit c 10

-- whether octets are digits depends on those that are left, if the others are
pub digit_passed : (text : List ℕ) (i : ℕ) → i < length text → decimal_digit (get_or text i 0) ≡ true → list_all decimal_digit text ≡ list_all decimal_digit (drop i text)
    → list_all decimal_digit text ≡ list_all decimal_digit (drop (i + 1) text)
digit_passed text i lt is so = so ∙ ap (list_all decimal_digit) (drop_more text i 0 lt) ∙ ap (λ b. b && list_all decimal_digit (drop (i + 1) text)) is

pub digit_fails : (text : List ℕ) (i : ℕ) → i < length text → decimal_digit (get_or text i 0) ≡ false → list_all decimal_digit text ≡ list_all decimal_digit (drop i text)
    → list_all decimal_digit text ≡ false
digit_fails text i lt is so = so ∙ ap (list_all decimal_digit) (drop_more text i 0 lt) ∙ ap (λ b. b && list_all decimal_digit (drop (i + 1) text)) is

pub digits_passed : (text : List ℕ) (i : ℕ) → length text ≤ i → list_all decimal_digit text ≡ list_all decimal_digit (drop i text) → list_all decimal_digit text ≡ true
digits_passed text i le so = so ∙ ap (list_all decimal_digit) (drop_all i text le)

-- an octet that is another one is passed
pub index_passed : (octet : ℕ) (text : List ℕ) (i : ℕ) → i < length text → (get_or text i 0 == octet) ≡ false → octet_index octet text ≡ i + octet_index octet (drop i text)
    → octet_index octet text ≡ (i + 1) + octet_index octet (drop (i + 1) text)
index_passed octet text i lt is so =
    let step : octet_index octet (drop i text) ≡ suc (octet_index octet (drop (i + 1) text)) =
    ap (octet_index octet) (drop_more text i 0 lt) ∙ ap (λ b. cond b 0 (suc (octet_index octet (drop (i + 1) text)))) is in
    omega (arith, so, step)

pub index_found : (octet : ℕ) (text : List ℕ) (i : ℕ) → i < length text → (get_or text i 0 == octet) ≡ true → octet_index octet text ≡ i + octet_index octet (drop i text)
    → octet_index octet text ≡ i
index_found octet text i lt is so =
    let step : octet_index octet (drop i text) ≡ 0 =
    ap (octet_index octet) (drop_more text i 0 lt) ∙ ap (λ b. cond b 0 (suc (octet_index octet (drop (i + 1) text)))) is in
    omega (arith, so, step)

pub index_ended : (octet : ℕ) (text : List ℕ) (i : ℕ) → length text ≤ i → octet_index octet text ≡ i + octet_index octet (drop i text) → octet_index octet text ≡ i
index_ended octet text i le so =
    let none : octet_index octet (drop i text) ≡ 0 = ap (octet_index octet) (drop_all i text le) in
    omega (arith, so, none)

-- a text is a number so far, and these are its other characters
pub record DigitsLeft (text : List ℕ) (number : ℕ) (rest : List ℕ) : Type 0 where
  pub small : number < 2 ^ 32
  pub back : AllDigits 10 rest → AllDigits 10 text
  pub on : AllDigits 10 text → AllDigits 10 rest
  pub value : digits_value 10 text ≡ digits_value_after 10 number rest

pub digits_begin : (text : List ℕ) → DigitsLeft text 0 text
digits_begin text = record { small = lit< tt; back = λ h. h; on = λ h. h; value = refl }

pub digit_added : (text : List ℕ) (number i : ℕ) → i < length text → digit_value (get_or text i 0) < 10 → number * 10 + digit_value (get_or text i 0) < 2 ^ 32
    → DigitsLeft text number (drop i text) → DigitsLeft text (number * 10 + digit_value (get_or text i 0)) (drop (i + 1) text)
digit_added text number i here digit fits h =
    let c = get_or text i 0 in
    let cs = drop (i + 1) text in
    let h : DigitsLeft text number (c ∷ cs) = subst (DigitsLeft text number) (drop_more text i 0 here) h in
    record { small = fits; back = λ k. h.back (digit, k); on = λ k. (h.on k).1; value = h.value }

-- digits only add to a number
digits_add : (n : ℕ) (cs : List ℕ) → n ≤ digits_value_after 10 n cs
digits_add n [] = omega arith
digits_add n (c ∷ cs) = let more = digits_add (n * 10 + digit_value c) cs in omega (arith, more)

pub digits_refused : (text : List ℕ) (number i : ℕ) → i < length text → ((digit_value (get_or text i 0) < 10) × (number * 10 + digit_value (get_or text i 0) < 2 ^ 32) → ⊥)
    → DigitsLeft text number (drop i text) → AllDigits 10 text × (digits_value 10 text < 2 ^ 32) → ⊥
digits_refused text number i here none h is =
    let c = get_or text i 0 in
    let cs = drop (i + 1) text in
    let h : DigitsLeft text number (c ∷ cs) = subst (DigitsLeft text number) (drop_more text i 0 here) h in
    let digit = (h.on is.0).0 in
    let value = h.value in
    let most = digits_add (number * 10 + digit_value c) cs in
    let small = is.1 in
    none (digit, omega (arith, value, most, small))

pub digits_whole : (text : List ℕ) (number i : ℕ) → length text ≤ i → DigitsLeft text number (drop i text) → AllDigits 10 text × (number ≡ digits_value 10 text)
digits_whole text number i end h =
    let h : DigitsLeft text number [] = subst (DigitsLeft text number) (drop_all i text end) h in
    (h.back tt, sym h.value)

all_digits : (text : List ℕ) → list_all decimal_digit text ≡ true → AllDigits 10 text
all_digits [] h = tt
all_digits (c ∷ cs) h = let p = and_parts (decimal_digit c) (list_all decimal_digit cs) h in (ltb-true (digit_value c) 10 p.0, all_digits cs p.1)

-- digits that write no number below a limit write a greater one
pub numeral_overflows : (most : ℕ) (bad large : GenerateErrorKind) (text : List ℕ) → most < 2 ^ 32 → are_digits text ≡ true → (AllDigits 10 text × (digits_value 10 text < 2 ^ 32) → ⊥)
    → Err large ≡ numeral_of most bad large text
numeral_overflows most bad large text small is none =
    let digits = all_digits text (and_parts (list_all decimal_digit text) (not (length text == 0)) is).0 in
    let above : most < digits_value 10 text = (let no : digits_value 10 text < 2 ^ 32 → ⊥ = λ lt. none (digits, lt) in omega (arith, small, no)) in
    ap (λ b. cond b (Ok (digits_value 10 text)) (Err large)) (sym (lt-leb (digits_value 10 text) most above))
    ∙ ap (λ b. cond b (cond (nat_le (digits_value 10 text) most) (Ok (digits_value 10 text)) (Err large)) (Err bad)) (sym is)
