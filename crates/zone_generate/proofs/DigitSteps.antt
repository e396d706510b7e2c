-- Digits that are written one by one.
use Rattle.std.proofs.Common.{lit<, ℕ, zero, suc, ◌-◌, ◌≡◌, ◌<◌, ◌≤◌, ◌+◌, ◌/◌, ◌%◌, Bool, true, false, List, [], ◌∷◌, ◌++◌, length, refl, sym, ap, ◌∙◌, arith, drop}
use Rattle.std.specs.Prelude.{◌==◌, cond, replicate}
use Rattle.std.proofs.lemmas.Bool.{eq-eqb, ne_eqb}
use Rattle.std.proofs.Math.ListN.{set}
use Rattle.std.specs.Fmt.{digit_glyph, digits, digits_onto}
use Rattle.std.proofs.lemmas.List.{append_assoc, drop-set, drop_all, length-append, length-replicate}
use Rattle.dns_symbol.specs.Characters.{dot}
use Rattle.zone_generate.specs.NumberTexts.{dotted_nibbles}
use Rattle.zone_generate.proofs.Appends.{lacks}

-- the digit of a number, and those before it, if there are any
module _ (base : ℕ) (upper : Bool) (n : ℕ) (acc : List ℕ) where
  digits_onto_suc : (k : ℕ) (t : Bool) → (n / base == 0) ≡ t
      → digits_onto (suc k) base upper n acc ≡ cond t (digit_glyph upper (n % base) ∷ acc) (digits_onto k base upper (n / base) (digit_glyph upper (n % base) ∷ acc))
  digits_onto_suc k t e = ap (λ b. cond b (digit_glyph upper (n % base) ∷ acc) (digits_onto k base upper (n / base) (digit_glyph upper (n % base) ∷ acc))) e

  digits_onto_last : (i : ℕ) → 0 < i → n / base ≡ 0 → digits_onto i base upper n acc ≡ digit_glyph upper (n % base) ∷ acc
  digits_onto_last zero h e = absurd (omega arith)
  digits_onto_last (suc k) h e = digits_onto_suc k true (eq-eqb _ 0 e)

  digits_onto_one : digits_onto 1 base upper n acc ≡ digit_glyph upper (n % base) ∷ acc
  digits_onto_one = go (n / base == 0) refl
    where
      go : (t : Bool) → (n / base == 0) ≡ t → digits_onto 1 base upper n acc ≡ digit_glyph upper (n % base) ∷ acc
      go true e = digits_onto_suc zero true e
      go false e = digits_onto_suc zero false e

  digits_onto_step : (i : ℕ) → 0 < i → (n / base ≡ 0 → ⊥) → digits_onto i base upper n acc ≡ digits_onto (i - 1) base upper (n / base) (digit_glyph upper (n % base) ∷ acc)
  digits_onto_step zero h e = absurd (omega arith)
  digits_onto_step (suc k) h e = digits_onto_suc k false (ne_eqb _ 0 e) ∙ ap (λ j. digits_onto j base upper (n / base) (digit_glyph upper (n % base) ∷ acc)) {x = k} {y = suc k - 1} (omega arith)

-- some digits are written at the end of a buffer of 64 octets, and the others are those of the rest
pub record DigitsDone (base : ℕ) (upper : Bool) (number start rest : ℕ) (buffer : List ℕ) : Type 0 where
  pub size : length buffer ≡ 64
  pub some : 0 < start
  pub within : start ≤ 64
  pub value : digits_onto start base upper rest (drop start buffer) ≡ digits base upper number

pub digits_none : (base : ℕ) (upper : Bool) (number : ℕ) (buffer : List ℕ) → length buffer ≡ 64 → DigitsDone base upper number 64 number buffer
unfolding digits
digits_none base upper number buffer size =
    let none : drop 64 buffer ≡ [] = drop_all 64 buffer (omega (arith, size)) in
    record { size = size; some = lit< tt; within = omega arith; value = ap (digits_onto 64 base upper number) none }

-- the buffer with one digit more
digit_set : (g start : ℕ) (buffer new : List ℕ) → 0 < start → start ≤ length buffer → new ≡ set buffer (start - 1) g → drop (start - 1) new ≡ g ∷ drop start buffer
digit_set g zero buffer new some within is = absurd (omega (arith, some))
digit_set g (suc k) buffer new some within is =
    let before : suc k - 1 ≡ k = omega arith in
    let after : k + 1 ≡ suc k = omega arith in
    ap (λ n. drop n new) before ∙ ap (drop k) (is ∙ ap (λ n. set buffer n g) before) ∙ drop-set buffer k g (omega (arith, within)) ∙ ap (λ n. g ∷ drop n buffer) after

module _ (base : ℕ) (upper : Bool) (number start rest : ℕ) (buffer new : List ℕ) (h : DigitsDone base upper number start rest buffer) (is : new ≡ set buffer (start - 1) (digit_glyph upper (rest % base))) where
  written : drop (start - 1) new ≡ digit_glyph upper (rest % base) ∷ drop start buffer
  written = digit_set (digit_glyph upper (rest % base)) start buffer new h.some (omega (arith, h.within, h.size)) is

  pub digit_written : 1 < start → (rest / base ≡ 0 → ⊥) → length new ≡ length buffer → DigitsDone base upper number (start - 1) (rest / base) new
  digit_written many more size = record {
    size = size ∙ h.size;
    some = omega (arith, many);
    within = omega (arith, h.within);
    value = ap (digits_onto (start - 1) base upper (rest / base)) written ∙ sym (digits_onto_step base upper rest (drop start buffer) start h.some more) ∙ h.value;
  }

  pub last_written : rest / base ≡ 0 → drop (start - 1) new ≡ digits base upper number
  last_written last = written ∙ sym (digits_onto_last base upper rest (drop start buffer) start h.some last) ∙ h.value

-- the first octet of the buffer has the digit that is left
pub first_written : (base : ℕ) (upper : Bool) (number start rest : ℕ) (buffer new : List ℕ) → DigitsDone base upper number start rest buffer → start ≤ 1 → new ≡ set buffer 0 (digit_glyph upper (rest % base))
    → drop 0 new ≡ digits base upper number
first_written base upper number zero rest buffer new h one is = absurd (omega (arith, h.some))
first_written base upper number (suc zero) rest buffer new h one is =
    digit_set (digit_glyph upper (rest % base)) 1 buffer new h.some (omega (arith, h.within, h.size)) is ∙ sym (digits_onto_one base upper rest (drop 1 buffer)) ∙ h.value
first_written base upper number (suc (suc k)) rest buffer new h one is = absurd (omega (arith, one))

-- digits that are counted, but not written
pub record DigitsPassed (number left rest : ℕ) : Type 0 where
  pub passed : List ℕ
  pub counted : length passed + left ≡ 64
  pub value : digits_onto left 16 false rest passed ≡ digits 16 false number

pub none_passed : (number : ℕ) → DigitsPassed number 64 number
unfolding digits
none_passed number = record { passed = []; counted = refl; value = refl }

module _ (number left rest : ℕ) (h : DigitsPassed number left rest) (some : 0 < left) where
  pub digit_passed_by : (rest / 16 ≡ 0 → ⊥) → DigitsPassed number (left - 1) (rest / 16)
  digit_passed_by more = record {
    passed = digit_glyph false (rest % 16) ∷ h.passed;
    counted = omega (arith, h.counted, some);
    value = sym (digits_onto_step 16 false rest h.passed left some more) ∙ h.value;
  }

  pub last_passed : rest / 16 ≡ 0 → 64 - (left - 1) ≡ length (digits 16 false number)
  last_passed last =
      let len : length (digits 16 false number) ≡ suc (length h.passed) = ap length (sym h.value ∙ digits_onto_last 16 false rest h.passed left some last) in
      omega (arith, len, h.counted, some)

pub all_passed : (number left rest : ℕ) → DigitsPassed number left rest → left ≤ 0 → 64 ≡ length (digits 16 false number)
all_passed number zero rest h le = let len : length (digits 16 false number) ≡ length h.passed = ap length (sym h.value) in omega (arith, len, h.counted)
all_passed number (suc left) rest h le = absurd (omega (arith, le))

-- zeros before digits
pub zeros_more : (left : ℕ) (out one all : List ℕ) → 0 < left → one ≡ out ++ (48 ∷ []) → out ++ replicate left 48 ≡ all → one ++ replicate (left - 1) 48 ≡ all
zeros_more zero out one all some is so = absurd (omega (arith, some))
zeros_more (suc left) out one all some is so =
    ap (λ l. l ++ replicate (suc left - 1) 48) is ∙ append_assoc out (48 ∷ []) (replicate (suc left - 1) 48) ∙ ap (λ n. out ++ (48 ∷ replicate n 48)) {x = suc left - 1} {y = left} (omega arith) ∙ so

pub zeros_lack : (fits left count : ℕ) (old out : List ℕ) → 0 < left → out ++ replicate left 48 ≡ old ++ replicate count 48 → fits < length out + 1 → fits < length old + count
zeros_lack fits left count old out some is h =
    let n = ap length is in
    omega (arith, some, n, h, length-append out (replicate left 48), length-append old (replicate count 48), length-replicate {A = ℕ} left 48, length-replicate {A = ℕ} count 48)

-- two characters of the nibbles
pub dotted_more : (upper : Bool) (left rest : ℕ) → 1 < left → dotted_nibbles upper left rest ≡ digit_glyph upper (rest % 16) ∷ dot ∷ dotted_nibbles upper (left - 1) (rest / 16)
dotted_more upper zero rest lt = absurd (omega (arith, lt))
dotted_more upper (suc zero) rest lt = absurd (omega (arith, lt))
dotted_more upper (suc (suc left)) rest lt = ap (λ k. digit_glyph upper (rest % 16) ∷ dot ∷ dotted_nibbles upper k (rest / 16)) {x = suc left} {y = suc (suc left) - 1} (omega arith)

pub dotted_last : (upper : Bool) (left rest : ℕ) → 0 < left → left ≤ 1 → dotted_nibbles upper left rest ≡ digit_glyph upper (rest % 16) ∷ []
dotted_last upper zero rest lt le = absurd (omega (arith, lt))
dotted_last upper (suc zero) rest lt le = refl
dotted_last upper (suc (suc left)) rest lt le = absurd (omega (arith, le))

module _ (upper : Bool) (left rest : ℕ) (out : List ℕ) where
  pub dotted_next : (new all : List ℕ) → 1 < left → new ≡ out ++ (digit_glyph upper (rest % 16) ∷ dot ∷ []) → out ++ dotted_nibbles upper left rest ≡ all → new ++ dotted_nibbles upper (left - 1) (rest / 16) ≡ all
  dotted_next new all lt made is =
      let more = dotted_nibbles upper (left - 1) (rest / 16) in
      let two = digit_glyph upper (rest % 16) ∷ dot ∷ [] in
      ap (λ l. l ++ more) made ∙ append_assoc out two more ∙ ap (λ l. out ++ l) (sym (dotted_more upper left rest lt)) ∙ is

  pub dotted_ended : (new all : List ℕ) → 0 < left → left ≤ 1 → new ≡ out ++ (digit_glyph upper (rest % 16) ∷ []) → out ++ dotted_nibbles upper left rest ≡ all → new ≡ all
  dotted_ended new all some le made is = made ∙ ap (λ l. out ++ l) (sym (dotted_last upper left rest some le)) ∙ is

  -- and if they don't fit
  pub dotted_lacks : (fits : ℕ) (old text : List ℕ) → 1 < left → out ++ dotted_nibbles upper left rest ≡ old ++ text → fits < length out + 2 → fits < length old + length text
  dotted_lacks fits old text lt is h =
      lacks fits old text out (digit_glyph upper (rest % 16) ∷ dot ∷ []) (dotted_nibbles upper (left - 1) (rest / 16)) (ap (λ l. out ++ l) (sym (dotted_more upper left rest lt)) ∙ is) h

  pub dotted_last_lacks : (fits : ℕ) (old text : List ℕ) → 0 < left → left ≤ 1 → out ++ dotted_nibbles upper left rest ≡ old ++ text → fits < length out + 1 → fits < length old + length text
  dotted_last_lacks fits old text some le is h =
      lacks fits old text out (digit_glyph upper (rest % 16) ∷ []) [] (ap (λ l. out ++ l) (sym (dotted_last upper left rest some le)) ∙ is) h
