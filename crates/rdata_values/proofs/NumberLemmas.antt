-- The digits of a number that are unread.
use Rattle.std.proofs.Common.{ℕ, zero, suc, lit<, ◌-◌, ◌≡◌, ◌<◌, ◌≤◌, ◌+◌, ◌*◌, ◌^◌, List, [], ◌∷◌, length, refl, sym, subst, ap, arith, get_or, take, drop}
use Rattle.std.proofs.lemmas.List.{drop_more, drop_all, take_all}
use Rattle.std.proofs.Math.Nat.{pow-le-pow_right}
use Rattle.std.proofs.lemmas.Bool.Decides.{nat_tests}
use Rattle.std.proofs.lemmas.Int.Digits.{digits_value_more, digits_value-lt}
use Rattle.std.proofs.lemmas.Str.Parse.{digit_at, digits_value-take-le}
use Rattle.std.specs.Char.{digit_value}
use Rattle.std.specs.Str.Parse.{AllDigits, IsNumeral, digits_value, digits_value_after}

-- a text is a number so far, and these are its other characters
pub record Reading (text : List ℕ) (number : ℕ) (rest : List ℕ) : Type 0 where
  pub small : number < 2 ^ 32
  pub back : AllDigits 10 rest → AllDigits 10 text
  pub on : AllDigits 10 text → AllDigits 10 rest
  pub value : digits_value 10 text ≡ digits_value_after 10 number rest

pub begins : (text : List ℕ) → Reading text 0 text
begins text = record { small = lit< tt; back = λ h. h; on = λ h. h; value = refl }

pub goes_on : (text : List ℕ) (number c : ℕ) (cs : List ℕ) → digit_value c < 10 → number * 10 + digit_value c < 2 ^ 32 → Reading text number (c ∷ cs) → Reading text (number * 10 + digit_value c) cs
goes_on text number c cs digit fits h = record { small = fits; back = λ k. h.back (digit, k); on = λ k. (h.on k).1; value = h.value }

-- digits only add to a number
pub after_ge : (n : ℕ) (cs : List ℕ) → n ≤ digits_value_after 10 n cs
after_ge n [] = omega arith
after_ge n (c ∷ cs) = let more = after_ge (n * 10 + digit_value c) cs in omega (arith, more)

pub refused : (text : List ℕ) (number i : ℕ) → i < length text → ((digit_value (get_or text i 0) < 10) × (number * 10 + digit_value (get_or text i 0) < 2 ^ 32) → ⊥) → Reading text number (drop i text)
    → IsNumeral 10 text × (digits_value 10 text < 2 ^ 32) → ⊥
refused text number i here none h is =
    let c = get_or text i 0 in
    let cs = drop (i + 1) text in
    let h : Reading text number (c ∷ cs) = subst (Reading text number) (drop_more text i 0 here) h in
    let digit = (h.on is.0.1).0 in
    let value = h.value in
    let most = after_ge (number * 10 + digit_value c) cs in
    let small = is.1 in
    none (digit, omega (arith, value, most, small))

pub whole : (text : List ℕ) (number i : ℕ) → length text ≤ i → Reading text number (drop i text) → AllDigits 10 text × (number ≡ digits_value 10 text)
whole text number i end h =
    let h : Reading text number [] = subst (Reading text number) (drop_all i text end) h in
    (h.back tt, sym h.value)

pub digits_drop : (i : ℕ) (ds : List ℕ) → AllDigits 10 ds → AllDigits 10 (drop i ds)
digits_drop zero ds h = h
digits_drop (suc i) [] h = tt
digits_drop (suc i) (d ∷ ds) h = digits_drop i ds h.1

pub digits_take : (i : ℕ) (ds : List ℕ) → AllDigits 10 ds → AllDigits 10 (take i ds)
digits_take zero ds h = tt
digits_take (suc i) [] h = tt
digits_take (suc i) (d ∷ ds) h = (h.0, digits_take i ds h.1)

-- a digit more of at most four
pub record DigitMore (number d : ℕ) (ds : List ℕ) (i : ℕ) : Type 0 where
  pub low : 48 ≤ d
  pub high : d ≤ 57
  pub value : number * 10 + (d - 48) ≡ digits_value 10 (take (i + 1) ds)
  pub small : number * 10 + (d - 48) < 10000

digit_is : (c : ℕ) → 48 ≤ c → c ≤ 57 → digit_value c ≡ c - 48
digit_is c low high = Prim.grind (arith, nat_tests)

few : (n : ℕ) → n ≤ 4 → 10 ^ n ≤ 10000
few n h = pow-le-pow_right {n = 10} (lit< tt) h

pub digit_more : (ds : List ℕ) (i number : ℕ) → i < length ds → AllDigits 10 ds → length ds ≤ 4 → number ≡ digits_value 10 (take i ds) → DigitMore number (get_or ds i 0) ds i
digit_more ds i number here all short is =
    let d = get_or ds i 0 in
    let range = digit_at ds i all here in
    let value : digit_value d ≡ d - 48 = digit_is d range.0 range.1 in
    let more : digits_value 10 (take (i + 1) ds) ≡ digits_value 10 (take i ds) * 10 + digit_value d = digits_value_more 10 ds i here in
    let part = digits_value-take-le 10 ds (i + 1) (omega arith) in
    let most = digits_value-lt 10 ds all in
    let limit = few (length ds) short in
    record { low = range.0; high = omega (arith, range.1); value = omega (arith, more, is, value); small = omega (arith, more, is, value, part, most, limit) }

pub number_small : (ds : List ℕ) (i number : ℕ) → length ds ≤ i → AllDigits 10 ds → number ≡ digits_value 10 (take i ds) → number < 10 ^ length ds
number_small ds i number end all is =
    let most = digits_value-lt 10 ds all in
    let whole : digits_value 10 (take i ds) ≡ digits_value 10 ds = ap (digits_value 10) (take_all i ds end) in
    omega (arith, is, whole, most)
