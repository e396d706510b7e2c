-- What a text writes as seconds: its number, or its periods, and in one way.
use Rattle.std.proofs.Common.{ℕ, ◌≡◌, ◌<◌, ◌≤◌, ◌^◌, true, false, List, [], ◌∷◌, length, sym, subst, arith, ◌∙◌, inl, inr, ⊎_elim, Option, Some, None, decimal}
use Rattle.std.specs.Prelude.{slice_get}
use Rattle.std.specs.Char.{digit_value, is_ascii_digit}
use Rattle.std.specs.Str.Parse.{IsNumeral, digits_value}
use Rattle.std.proofs.lemmas.Bool.Decides.{nat_tests}
use Rattle.std.proofs.lemmas.Fmt.{decimal_is_IsNumeral}
use Rattle.std.proofs.lemmas.Str.Parse.{digit_from_value}
use Rattle.rdata_values.specs.Ttl.{IsSeconds, ReadsPeriods, ReadsSeconds, SpellsTtl, SpellsInterval, TtlsAreKind, IntervalsAreKind}
use Rattle.rdata_values.proofs.ReadBack.{is_kind}
use Rattle.rdata_values.proofs.Periods.{after_periods, after_once, numeral_no_periods}

pub reads_periods : (text : List ℕ) (r : Option ℕ) → 0 < length text → (IsNumeral 10 text × (digits_value 10 text < 2 ^ 32) → ⊥) → ReadsPeriods text r → ReadsSeconds text r
reads_periods text None some h k = λ n small w. ⊎_elim (λ is. h (is.0, omega (arith, is.1, small))) (k n small) w.1
reads_periods text (Some n) some h k = (k.0, (some, inr k.1))

pub seconds_once : (text : List ℕ) (n m : ℕ) → IsSeconds text n → IsSeconds text m → n ≡ m
seconds_once text n m (e, inl h) (f, inl k) = h.1 ∙ sym k.1
seconds_once text n m (e, inl h) (f, inr k) = absurd (numeral_no_periods text m h.0 k)
seconds_once text n m (e, inr h) (f, inl k) = absurd (numeral_no_periods text n k.0 h)
seconds_once text n m (e, inr h) (f, inr k) = after_once None text n m (after_periods text n h) (after_periods text m k)

-- 2^31 seconds or more are not a TTL
pub too_many : (text : List ℕ) (n m : ℕ) → IsSeconds text n → 2 ^ 31 ≤ n → SpellsTtl text m → ⊥
too_many text n m h many k = let same = seconds_once text n m h k.0 in omega (arith, same, many, k.1)

decimal_seconds : (n : ℕ) → n < 2 ^ 32 → IsSeconds (decimal n) n
decimal_seconds n small = let d = decimal_is_IsNumeral n (omega arith) in (d.0.0, inl (d.0, sym d.1))

pub ttls_are_kind : TtlsAreKind
ttls_are_kind = is_kind (λ n. n < 2 ^ 31) SpellsTtl decimal (λ n small. (decimal_seconds n (omega (arith, small)), small)) (λ text n m h k. seconds_once text n m h.0 k.0)

pub intervals_are_kind : IntervalsAreKind
intervals_are_kind = is_kind (λ n. n < 2 ^ 32) SpellsInterval decimal (λ n small. (decimal_seconds n small, small)) (λ text n m h k. seconds_once text n m h.0 k.0)

-- seconds begin with a digit
is_digit : (c : ℕ) → 48 ≤ c → c ≤ 57 → is_ascii_digit c ≡ true
is_digit c low high = Prim.grind (arith, nat_tests)

no_digit : (c : ℕ) → is_ascii_digit c ≡ false → digit_value c < 10 → ⊥
no_digit c none d =
    let range = digit_from_value c d in
    let digit : is_ascii_digit c ≡ true = is_digit c range.0 range.1 in
    let wrong : true ≡ false = sym digit ∙ none in cc

pub first_seconds : (text : List ℕ) (c n : ℕ) → slice_get text 0 ≡ Some c → is_ascii_digit c ≡ false → IsSeconds text n → ⊥
first_seconds [] c n e none h = cc
first_seconds (d ∷ ds) c n e none h =
    let same : d ≡ c = cc in
    by (subst (λ x. is_ascii_digit x ≡ false) (sym same) none) h
  where
    by : is_ascii_digit d ≡ false → IsSeconds (d ∷ ds) n → ⊥
    by none (some, inl is) = no_digit d none is.0.1.0
    by none (some, inr is) = no_digit d none (after_periods (d ∷ ds) n is).1
