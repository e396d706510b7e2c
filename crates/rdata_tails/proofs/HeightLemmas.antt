-- The words of an altitude and of sizes parse to one number.
use Rattle.std.proofs.Common.{ℕ, lit<, ◌≡◌, ◌<◌, ◌≤◌, ◌+◌, ◌-◌, ◌*◌, ◌/◌, ◌^◌, ◌⊎◌, Option, Some, None, List, [], ◌∷◌, length, get_or, take, drop, refl, sym, subst, arith, ap, ◌∙◌, inl, inr, append-nil, add-one, ⊎_elim}
use Rattle.std.proofs.Math.Nat.{pow-le-pow_right, pow-suc, mul-le-mul_right}
use Rattle.std.proofs.lemmas.Bool.{cases_lt}
use Rattle.std.proofs.lemmas.List.{take_all}
use Rattle.std.specs.Char.{digit_value}
use Rattle.rdata_tails.specs.Decimals.{SpellsLength}
use Rattle.rdata_tails.specs.Locations.{SpellsHeight, SpellsDepth, SpellsAltitude, HasFirstDigit, IsSizeOctet, SpellsSize, Finds, FindsBelow}
use Rattle.rdata_tails.proofs.DecimalLemmas.{one_length}
use Rattle.rdata_tails.proofs.AngleLemmas.{BeginsWithDigit, decimal_digit}

-- ---- altitudes

pub no_height : (text : List ℕ) → ((n : ℕ) → n < 2 ^ 32 * 10 ^ 2 → SpellsLength text n → ⊥) → (n : ℕ) → n < 2 ^ 32 → SpellsHeight text n → ⊥
no_height text none n few h = none h.0 (omega (arith, few, h.2)) h.1

pub too_high : (text : List ℕ) (above : ℕ) → SpellsLength text above → 2 ^ 32 ≤ 10000000 + above → (n : ℕ) → n < 2 ^ 32 → SpellsHeight text n → ⊥
too_high text above own many n few h = let same = one_length text h.0 above h.1 own in omega (arith, few, many, h.2, same)

pub no_depth : (text : List ℕ) → ((n : ℕ) → n < 2 ^ 32 * 10 ^ 2 → SpellsLength text n → ⊥) → (n : ℕ) → n < 2 ^ 32 → SpellsDepth text n → ⊥
no_depth text none n few h = none h.0 (omega (arith, h.2)) h.1

pub too_deep : (text : List ℕ) (below : ℕ) → SpellsLength text below → 10000000 < below → (n : ℕ) → n < 2 ^ 32 → SpellsDepth text n → ⊥
too_deep text below own many n few h = let same = one_length text h.0 below h.1 own in omega (arith, many, h.2, same)

pub length_digit : (text : List ℕ) (n : ℕ) → SpellsLength text n → BeginsWithDigit text
length_digit text n (inl h) = subst BeginsWithDigit (append-nil text) (decimal_digit 2 text n [] h)
length_digit text n (inr h) = subst BeginsWithDigit (sym h.1) (decimal_digit 2 h.0 n (109 ∷ []) h.2)

-- a length begins with no sign
no_sign : (sign : ℕ) → 10 ≤ digit_value sign → (text : List ℕ) (n : ℕ) → get_or text 0 0 ≡ sign → SpellsLength text n → ⊥
no_sign sign other text n is h = let digit = length_digit text n h in let same : digit_value (get_or text 0 0) ≡ digit_value sign = ap digit_value is in omega (arith, digit, same, other)

pub no_altitude : (text : List ℕ) → length text ≡ 0 → (n : ℕ) → SpellsAltitude text n → ⊥
no_altitude [] none n (few, inl h) = let digit = length_digit [] h.0 h.1 in omega (arith, digit)
no_altitude [] none n (few, inr (rest, inl h)) = let same : 0 ≡ length (43 ∷ rest) = ap length h.0 in omega (arith, same)
no_altitude [] none n (few, inr (rest, inr h)) = let same : 0 ≡ length (45 ∷ rest) = ap length h.0 in omega (arith, same)
no_altitude (c ∷ cs) none n h = omega (arith, none)

first : (sign : ℕ) (text rest : List ℕ) → text ≡ sign ∷ rest → get_or text 0 0 ≡ sign
first sign text rest is = ap (λ t. get_or t 0 0) is

pub behind_sign : (sign : ℕ) (text : List ℕ) → 0 < length text → get_or text 0 0 ≡ sign → text ≡ sign ∷ take (length text - 1) (drop 1 text)
behind_sign sign [] some is = absurd (omega (arith, some))
behind_sign sign (c ∷ cs) some is = let all : take (length (c ∷ cs) - 1) cs ≡ cs = take_all (length (c ∷ cs) - 1) cs (omega arith) in λ i. is i ∷ sym all i

pub with_plus : (text rest : List ℕ) (r : Option ℕ) → text ≡ 43 ∷ rest → FindsBelow SpellsHeight rest r → Finds SpellsAltitude text r
with_plus text rest (Some n) is h = (h.0, inr (rest, inl (is, h.1)))
with_plus text rest None is none = by
  where
    by : (n : ℕ) → SpellsAltitude text n → ⊥
    by n (few, inl h) = no_sign 43 (omega arith) text h.0 (first 43 text rest is) h.1
    by n (few, inr (other, inl h)) = none n few (subst (λ t. SpellsHeight t n) (ap (drop 1) (sym h.0 ∙ is)) h.1)
    by n (few, inr (other, inr h)) = let same : 43 ≡ 45 = sym (first 43 text rest is) ∙ first 45 text other h.0 in omega (arith, same)

pub with_minus : (text rest : List ℕ) (r : Option ℕ) → text ≡ 45 ∷ rest → FindsBelow SpellsDepth rest r → Finds SpellsAltitude text r
with_minus text rest (Some n) is h = (h.0, inr (rest, inr (is, h.1)))
with_minus text rest None is none = by
  where
    by : (n : ℕ) → SpellsAltitude text n → ⊥
    by n (few, inl h) = no_sign 45 (omega arith) text h.0 (first 45 text rest is) h.1
    by n (few, inr (other, inl h)) = let same : 45 ≡ 43 = sym (first 45 text rest is) ∙ first 43 text other h.0 in omega (arith, same)
    by n (few, inr (other, inr h)) = none n few (subst (λ t. SpellsDepth t n) (ap (drop 1) (sym h.0 ∙ is)) h.1)

pub without_sign : (text : List ℕ) (r : Option ℕ) → (get_or text 0 0 ≡ 43 → ⊥) → (get_or text 0 0 ≡ 45 → ⊥) → FindsBelow SpellsHeight text r → Finds SpellsAltitude text r
without_sign text (Some n) no_plus no_minus h = (h.0, inl h.1)
without_sign text None no_plus no_minus none = by
  where
    by : (n : ℕ) → SpellsAltitude text n → ⊥
    by n (few, inl h) = none n few h
    by n (few, inr (other, inl h)) = no_plus (first 43 text other h.0)
    by n (few, inr (other, inr h)) = no_minus (first 45 text other h.0)

one_height : (text : List ℕ) (n m : ℕ) → SpellsHeight text n → SpellsHeight text m → n ≡ m
one_height text n m h k = let same = one_length text h.0 k.0 h.1 k.1 in omega (arith, h.2, k.2, same)

one_depth : (text : List ℕ) (n m : ℕ) → SpellsDepth text n → SpellsDepth text m → n ≡ m
one_depth text n m h k = let same = one_length text h.0 k.0 h.1 k.1 in omega (arith, h.2, k.2, same)

-- a text spells one altitude
pub one_altitude : (text : List ℕ) (n m : ℕ) → SpellsAltitude text n → SpellsAltitude text m → n ≡ m
one_altitude text n m h (small, inl k) = signless h
  where
    signless : SpellsAltitude text n → n ≡ m
    signless (few, inl h) = one_height text n m h k
    signless (few, inr (rest, inl h)) = absurd (no_sign 43 (omega arith) text k.0 (first 43 text rest h.0) k.1)
    signless (few, inr (rest, inr h)) = absurd (no_sign 45 (omega arith) text k.0 (first 45 text rest h.0) k.1)
one_altitude text n m h (small, inr (rest, inl k)) =
    let own : SpellsAltitude text n = h in
    signed own
  where
    signed : SpellsAltitude text n → n ≡ m
    signed (few, inl h) = absurd (no_sign 43 (omega arith) text h.0 (first 43 text rest k.0) h.1)
    signed (few, inr (other, inl h)) = one_height rest n m (subst (λ t. SpellsHeight t n) (ap (drop 1) (sym h.0 ∙ k.0)) h.1) k.1
    signed (few, inr (other, inr h)) = let same : 45 ≡ 43 = sym (first 45 text other h.0) ∙ first 43 text rest k.0 in absurd (omega (arith, same))
one_altitude text n m h (small, inr (rest, inr k)) = signed h
  where
    signed : SpellsAltitude text n → n ≡ m
    signed (few, inl h) = absurd (no_sign 45 (omega arith) text h.0 (first 45 text rest k.0) h.1)
    signed (few, inr (other, inl h)) = let same : 43 ≡ 45 = sym (first 43 text other h.0) ∙ first 45 text rest k.0 in absurd (omega (arith, same))
    signed (few, inr (other, inr h)) = one_depth rest n m (subst (λ t. SpellsDepth t n) (ap (drop 1) (sym h.0 ∙ k.0)) h.1) k.1

-- ---- sizes

-- `digits` are those of a number without its last `behind` digits
pub record FirstDigits (number digits behind : ℕ) : Type 0 where
  pub least : digits * 10 ^ behind ≤ number
  pub most : number < (digits + 1) * 10 ^ behind
  pub some : (behind ≡ 0) ⊎ (1 ≤ digits)
  pub short : behind ≤ 9

pub all_digits : (number : ℕ) → FirstDigits number number 0
all_digits number = record { least = omega arith; most = omega arith; some = inl refl; short = omega arith }

few_digits : (number digits behind : ℕ) → number < 9000000100 → 10 ≤ digits → digits * 10 ^ behind ≤ number → behind < 9
few_digits number digits behind small many least =
    elim (cases_lt behind 9) [
      | inl h ↦ h
      | inr h ↦ let unit : 10 ^ 9 ≤ 10 ^ behind = pow-le-pow_right {n = 10} (lit< tt) h in let product : 10 * 10 ^ behind ≤ digits * 10 ^ behind = mul-le-mul_right (10 ^ behind) many in absurd (omega (arith, unit, product, least, small))
    ]

pub one_less : (number digits behind : ℕ) → number < 9000000100 → 10 ≤ digits → FirstDigits number digits behind → FirstDigits number (digits / 10) (behind + 1)
one_less number digits behind small many h =
    let short = few_digits number digits behind small many h.least in
    let tens : 10 ^ (behind + 1) ≡ 10 ^ behind * 10 = ap (λ n. 10 ^ n) (add-one behind) ∙ pow-suc 10 behind in
    let low : digits / 10 * 10 * 10 ^ behind ≤ digits * 10 ^ behind = mul-le-mul_right (10 ^ behind) (omega arith) in
    let high : (digits + 1) * 10 ^ behind ≤ (digits / 10 + 1) * 10 * 10 ^ behind = mul-le-mul_right (10 ^ behind) (omega arith) in
    record {
      least = rw tens (omega (arith, low, h.least));
      most = rw tens (omega (arith, high, h.most));
      some = inr (omega (arith, many));
      short = omega (arith, short);
    }

pub first_digit : (number digit behind octet : ℕ) → digit < 10 → octet ≡ digit * 16 + behind → FirstDigits number digit behind → IsSizeOctet number octet
first_digit number digit behind octet small is h =
    (digit, behind, record { is_digit = omega (arith, small); least = h.least; most = h.most; zero = λ none. ⊎_elim (λ e. e) (λ some. absurd (omega (arith, some, none))) h.some }, is)

pub octet_fits : (number digit behind : ℕ) → digit < 10 → FirstDigits number digit behind → digit * 16 + behind < 256
octet_fits number digit behind small h = omega (arith, small, h.short)

pub no_size : (text : List ℕ) → ((n : ℕ) → n < 2 ^ 32 * 10 ^ 2 → SpellsLength text n → ⊥) → (octet : ℕ) → SpellsSize text octet → ⊥
no_size text none octet h = none h.0 (omega (arith, h.2)) h.1

pub too_large : (text : List ℕ) (n : ℕ) → SpellsLength text n → 9000000100 ≤ n → (octet : ℕ) → SpellsSize text octet → ⊥
too_large text n own many octet h = let same = one_length text h.0 n h.1 own in omega (arith, many, h.2, same)

-- a number has one first digit
more_behind : (number digit behind d b : ℕ) → HasFirstDigit number digit behind → HasFirstDigit number d b → behind < b → ⊥
more_behind number digit behind d b h k more =
    let unit : 10 ^ (behind + 1) ≤ 10 ^ b = pow-le-pow_right {n = 10} (lit< tt) (omega (arith, more)) in
    let tens : 10 ^ (behind + 1) ≡ 10 ^ behind * 10 = ap (λ n. 10 ^ n) (add-one behind) ∙ pow-suc 10 behind in
    let some : 1 ≤ d = ⊎_elim (λ none. let zero = k.zero (omega (arith, none)) in absurd (omega (arith, zero, more))) (λ h. h) (cases_lt d 1) in
    let product : 1 * 10 ^ b ≤ d * 10 ^ b = mul-le-mul_right (10 ^ b) some in
    let least : (digit + 1) * 10 ^ behind ≤ 10 * 10 ^ behind = mul-le-mul_right (10 ^ behind) (omega (arith, h.is_digit)) in
    omega (arith, unit, tens, product, least, h.most, k.least)

same_digit : (number digit d unit : ℕ) → digit * unit ≤ number → number < (d + 1) * unit → digit ≤ d
same_digit number digit d unit least most =
    elim (cases_lt d digit) [
      | inl h ↦ let product : (d + 1) * unit ≤ digit * unit = mul-le-mul_right unit (omega (arith, h)) in absurd (omega (arith, product, least, most))
      | inr h ↦ h
    ]

one_first_digit : (number digit behind d b : ℕ) → HasFirstDigit number digit behind → HasFirstDigit number d b → (digit ≡ d) × (behind ≡ b)
one_first_digit number digit behind d b h k = (omega (arith, low, high), same)
  where
    same : behind ≡ b
    same = ⊎_elim (λ less. absurd (more_behind number digit behind d b h k less)) (λ le. ⊎_elim (λ less. absurd (more_behind number d b digit behind k h less)) (λ ge. omega (arith, le, ge)) (cases_lt b behind)) (cases_lt behind b)

    low : digit ≤ d
    low = same_digit number digit d (10 ^ b) (subst (λ n. digit * 10 ^ n ≤ number) same h.least) k.most

    high : d ≤ digit
    high = same_digit number d digit (10 ^ b) k.least (subst (λ n. number < (digit + 1) * 10 ^ n) same h.most)

-- a text spells one size
pub one_size : (text : List ℕ) (n m : ℕ) → SpellsSize text n → SpellsSize text m → n ≡ m
one_size text n m h k =
    let same = one_length text h.0 k.0 h.1 k.1 in
    let own = subst (λ number. HasFirstDigit number h.3.0 h.3.1) same h.3.2 in
    let one = one_first_digit k.0 h.3.0 h.3.1 k.3.0 k.3.1 own k.3.2 in
    omega (arith, h.3.3, k.3.3, one.0, one.1)

-- at most nine digits follow the first
pub behind_short : (n digit behind : ℕ) → n < 9000000100 → HasFirstDigit n digit behind → behind ≤ 9
behind_short n digit behind small h = elim (cases_lt behind 10) [
  | inl few ↦ omega (arith, few)
  | inr many ↦
      let some : 1 ≤ digit = ⊎_elim (λ none. let zero = h.zero (omega (arith, none)) in absurd (omega (arith, zero, many))) (λ h. h) (cases_lt digit 1) in
      let unit : 10 ^ 10 ≤ 10 ^ behind = pow-le-pow_right {n = 10} (lit< tt) many in
      let product : 1 * 10 ^ behind ≤ digit * 10 ^ behind = mul-le-mul_right (10 ^ behind) some in
      absurd (omega (arith, unit, product, h.least, small))
]

-- a size is one octet
pub size_few : (text : List ℕ) (octet : ℕ) → SpellsSize text octet → octet < 256
size_few text octet h = let short = behind_short h.0 h.3.0 h.3.1 h.2 h.3.2 in omega (arith, short, h.3.2.is_digit, h.3.3)

pub zeros_fit : (digit zeros a b : ℕ) → digit < 256 → zeros ≤ 15 → a ≡ digit → b ≡ 10 ^ zeros → a * b < 2 ^ 64
zeros_fit digit zeros a b small few is unit =
    let most : 10 ^ zeros ≤ 10 ^ 15 = pow-le-pow_right {n = 10} (lit< tt) few in
    let first : digit * 10 ^ zeros ≤ 255 * 10 ^ zeros = mul-le-mul_right (10 ^ zeros) (omega (arith, small)) in
    let product : a * b ≡ digit * 10 ^ zeros = λ i. is i * unit i in
    omega (arith, most, first, product)
