-- Periods, parsed from their beginning, after a number that has begun.
use Rattle.std.proofs.Common.{ℕ, ◌≡◌, ◌<◌, ◌≤◌, ◌+◌, ◌*◌, List, [], ◌∷◌, ◌++◌, refl, sym, subst, arith, ◌∙◌, ap, ◌⊎◌, inl, inr, Option, Some, None, append_assoc, mul-le-mul_left}
use Rattle.std.specs.Prelude.{sum_by, All}
use Rattle.std.specs.List.{flat_map}
use Rattle.std.specs.Char.{digit_value}
use Rattle.std.specs.Str.Parse.{AllDigits, IsNumeral, digits_value, digits_value_after}
use Rattle.std.proofs.lemmas.Bool.Decides.{nat_tests}
use Rattle.std.proofs.lemmas.List.Elements.{All-nil, All-cons, All-head, All-tail}
use Rattle.std.proofs.lemmas.List.Sums.{sum_by-cons}
use Rattle.rdata_values.specs.Ttl.{unit_seconds, Period, IsPeriod, period_text, period_seconds, IsPeriods}

-- the seconds of a text in which this number has begun, if any has
abbrev pub After : Option ℕ → List ℕ → ℕ → Type 0
After None [] n = n ≡ 0
After (Some k) [] n = ⊥
After None (c ∷ cs) n = (unit_seconds c ≡ None) × (digit_value c < 10) × After (Some (0 * 10 + digit_value c)) cs n
After (Some k) (c ∷ cs) n =
    ((u : ℕ) × (m : ℕ) × (unit_seconds c ≡ Some u) × (n ≡ k * u + m) × After None cs m) ⊎ ((unit_seconds c ≡ None) × (digit_value c < 10) × After (Some (k * 10 + digit_value c)) cs n)

-- the other digits of that number, its unit, and more periods
record Ends (k : ℕ) (text : List ℕ) (n : ℕ) : Type 0 where
  digits : List ℕ
  letter : ℕ
  unit : ℕ
  rest : List ℕ
  more : ℕ
  are : AllDigits 10 digits
  is : unit_seconds letter ≡ Some unit
  written : text ≡ digits ++ letter ∷ rest
  value : n ≡ digits_value_after 10 k digits * unit + more
  others : IsPeriods rest more

abbrev Means : Option ℕ → List ℕ → ℕ → Type 0
Means None text n = IsPeriods text n
Means (Some k) text n = Ends k text n

first : (c : ℕ) (cs : List ℕ) (n : ℕ) → digit_value c < 10 → Ends (0 * 10 + digit_value c) cs n → IsPeriods (c ∷ cs) n
first c cs n digit e =
    let p : Period = record { digits = c ∷ e.digits; letter = e.letter; unit = e.unit } in
    let others = e.others in
    record {
      periods = p ∷ others.periods;
      each = All-cons IsPeriod p others.periods ((omega arith, (digit, e.are)), e.is) others.each;
      written = ap (λ l. c ∷ l) (e.written ∙ ap (λ l. e.digits ++ e.letter ∷ l) others.written ∙ sym (append_assoc e.digits (e.letter ∷ []) (flat_map period_text others.periods)));
      value = e.value ∙ ap (λ m. period_seconds p + m) others.value ∙ sym (sum_by-cons period_seconds p others.periods);
    }

means : (count : Option ℕ) (text : List ℕ) (n : ℕ) → After count text n → Means count text n
means None [] n h = record { periods = []; each = All-nil IsPeriod; written = refl; value = h }
means (Some k) [] n h = absurd h
means None (c ∷ cs) n h = first c cs n h.1 (means (Some (0 * 10 + digit_value c)) cs n h.2)
means (Some k) (c ∷ cs) n (inl h) = record { digits = []; letter = c; unit = h.0; rest = cs; more = h.1; are = tt; is = h.2; written = refl; value = h.3; others = means None cs h.1 h.4 }
means (Some k) (c ∷ cs) n (inr h) =
    let e = means (Some (k * 10 + digit_value c)) cs n h.2 in
    record { digits = c ∷ e.digits; letter = e.letter; unit = e.unit; rest = e.rest; more = e.more; are = (h.1, e.are); is = e.is; written = ap (λ l. c ∷ l) e.written; value = e.value; others = e.others }

pub periods_of : (text : List ℕ) (n : ℕ) → After None text n → IsPeriods text n
periods_of text n h = means None text n h

no_unit : (c : ℕ) → digit_value c < 10 → unit_seconds c ≡ None
no_unit c h = Prim.grind (arith, nat_tests)

digits_after : (k : ℕ) (ds : List ℕ) (c u : ℕ) (rest : List ℕ) (m : ℕ) → AllDigits 10 ds → unit_seconds c ≡ Some u → After None rest m → After (Some k) (ds ++ c ∷ rest) (digits_value_after 10 k ds * u + m)
digits_after k [] c u rest m h is more = inl (u, m, is, refl, more)
digits_after k (d ∷ ds) c u rest m h is more = inr (no_unit d h.0, h.0, digits_after (k * 10 + digit_value d) ds c u rest m h.1 is more)

period_after : (ds : List ℕ) (c u : ℕ) (rest : List ℕ) (m : ℕ) → IsNumeral 10 ds → unit_seconds c ≡ Some u → After None rest m → After None ((ds ++ c ∷ []) ++ rest) (digits_value 10 ds * u + m)
period_after [] c u rest m h is more = absurd (omega (arith, h.0))
period_after (d ∷ ds) c u rest m h is more =
    subst (λ l. After None l (digits_value 10 (d ∷ ds) * u + m)) (sym (append_assoc (d ∷ ds) (c ∷ []) rest))
    (no_unit d h.1.0, h.1.0, digits_after (0 * 10 + digit_value d) ds c u rest m h.1.1 is more)

all_after : (ps : List Period) → All IsPeriod ps → After None (flat_map period_text ps) (sum_by period_seconds ps)
all_after [] h = refl
all_after (p ∷ ps) h =
    let is = All-head IsPeriod p ps h in
    rw sum_by-cons (period_after p.digits p.letter p.unit (flat_map period_text ps) (sum_by period_seconds ps) is.0 is.1 (all_after ps (All-tail IsPeriod p ps h)))

pub after_periods : (text : List ℕ) (n : ℕ) → IsPeriods text n → After None text n
after_periods text n h =
    subst (λ t. After None t n) (sym h.written) (subst (λ v. After None (flat_map period_text h.periods) v) (sym h.value) (all_after h.periods h.each))

-- they parse to one number of seconds
pub after_once : (count : Option ℕ) (text : List ℕ) (n m : ℕ) → After count text n → After count text m → n ≡ m
after_once None [] n m h k = h ∙ sym k
after_once (Some v) [] n m h k = absurd h
after_once None (c ∷ cs) n m h k = after_once (Some (0 * 10 + digit_value c)) cs n m h.2 k.2
after_once (Some v) (c ∷ cs) n m (inl h) (inl k) =
    let unit : h.0 ≡ k.0 = cc (h.2, k.2) in
    let rest : h.1 ≡ k.1 = after_once None cs h.1 k.1 h.4 k.4 in
    cc (h.3, k.3, unit, rest)
after_once (Some v) (c ∷ cs) n m (inl h) (inr k) = cc (h.2, k.0)
after_once (Some v) (c ∷ cs) n m (inr h) (inl k) = cc (h.0, k.2)
after_once (Some v) (c ∷ cs) n m (inr h) (inr k) = after_once (Some (v * 10 + digit_value c)) cs n m h.2 k.2

unit_some : (c u : ℕ) → unit_seconds c ≡ Some u → 1 ≤ u
unit_some c u h = Prim.grind (arith, nat_tests)

-- the number that has begun is at most what comes of it
pub after_ge : (k : ℕ) (text : List ℕ) (n : ℕ) → After (Some k) text n → k ≤ n
after_ge k [] n h = absurd h
after_ge k (c ∷ cs) n (inl h) =
    let one = unit_some c h.0 h.2 in
    let more = mul-le-mul_left k one in
    omega (arith, h.3, more)
after_ge k (c ∷ cs) n (inr h) = let more = after_ge (k * 10 + digit_value c) cs n h.2 in omega (arith, more)

numeral_not : (k : ℕ) (ds : List ℕ) (n : ℕ) → AllDigits 10 ds → After (Some k) ds n → ⊥
numeral_not k [] n h is = is
numeral_not k (d ∷ ds) n h (inl is) = let none = no_unit d h.0 in cc (is.2, none)
numeral_not k (d ∷ ds) n h (inr is) = numeral_not (k * 10 + digit_value d) ds n h.1 is.2

-- a number alone is not periods
pub numeral_no_periods : (text : List ℕ) (n : ℕ) → IsNumeral 10 text → IsPeriods text n → ⊥
numeral_no_periods text n is h = by text is (after_periods text n h)
  where
    by : (text : List ℕ) → IsNumeral 10 text → After None text n → ⊥
    by [] is h = absurd (omega (arith, is.0))
    by (d ∷ ds) is h = numeral_not (0 * 10 + digit_value d) ds n is.1.1 h.2
