-- Decimals parse to one number.
use Rattle.std.proofs.Common.{ℕ, zero, suc, Option, Some, None, lit<, ◌≡◌, ◌<◌, ◌≤◌, ◌+◌, ◌-◌, ◌*◌, ◌^◌, List, [], ◌∷◌, ◌++◌, length, refl, sym, subst, arith, ap, ◌∙◌, inl, inr}
use Rattle.std.proofs.Math.Nat.{lt_of_mul-lt-mul_right, pow-le-pow_right}
use Rattle.std.proofs.lemmas.Int.Digits.{digits_value-lt}
use Rattle.rdata_values.specs.Numbers.{SpellsNumber}
use Rattle.rdata_tails.specs.Marks.{LacksMark}
use Rattle.rdata_tails.specs.Decimals.{SpellsDecimal, FindsDecimal, SpellsLength, FindsLength}
use Rattle.rdata_tails.proofs.MarkLemmas.{digits_lack, one_first, at_mark}

whole_small : (whole unit more n : ℕ) → n < 2 ^ 32 * unit → n ≡ whole * unit + more → whole < 2 ^ 32
whole_small whole unit more n few is = lt_of_mul-lt-mul_right unit (omega (arith, few, is))

-- at most three digits write less than 1000
pub part_small : (text : List ℕ) (places part : ℕ) → places ≤ 3 → length text ≤ places → SpellsNumber text part → part < 2 ^ 32
part_small text places part three few h =
    let most = digits_value-lt 10 text h.0.1 in
    let limit = pow-le-pow_right {n = 10} (lit< tt) {i = length text} {j = 3} (omega (arith, three, few)) in
    omega (arith, most, limit, h.1)

number_lacks : (text : List ℕ) (n : ℕ) → SpellsNumber text n → LacksMark 46 text
number_lacks text n h = digits_lack text 46 (omega arith) h.0.1

-- ---- a text without a point

pub plain_none : (places : ℕ) (text : List ℕ) → LacksMark 46 text → ((n : ℕ) → n < 2 ^ 32 → SpellsNumber text n → ⊥) → (n : ℕ) → n < 2 ^ 32 * 10 ^ places → SpellsDecimal places text n → ⊥
plain_none places text lacks none n few (inl h) = none h.0 (whole_small h.0 (10 ^ places) 0 n few (omega (arith, h.2))) h.1
plain_none places text lacks none n few (inr h) = at_mark h.before h.after 46 (subst (LacksMark 46) h.written lacks)

-- ---- a text with one

-- the parts around the first point
pub record HasPartsAround (places : ℕ) (before after : List ℕ) (n : ℕ) : Type 0 where
  pub few : length after ≤ places
  pub whole : ℕ
  pub part : ℕ
  pub whole_is : SpellsNumber before whole
  pub part_is : SpellsNumber after part
  pub value : n ≡ whole * 10 ^ places + part * 10 ^ (places - length after)

pub around : (places : ℕ) (text before after : List ℕ) (n : ℕ) → text ≡ before ++ 46 ∷ after → LacksMark 46 before → SpellsDecimal places text n → HasPartsAround places before after n
around places text before after n is lacks (inl h) = absurd (at_mark before after 46 (subst (LacksMark 46) is (number_lacks text h.0 h.1)))
around places text before after n is lacks (inr h) =
    let same = one_first h.before h.after before after 46 (number_lacks h.before h.whole h.whole_is) lacks (sym h.written ∙ is) in
    subst (λ t. HasPartsAround places before t n) same.1 (subst (λ t. HasPartsAround places t h.after n) same.0
    (record { few = h.few; whole = h.whole; part = h.part; whole_is = h.whole_is; part_is = h.part_is; value = h.value }))

pub around_whole : (places : ℕ) (text before after : List ℕ) → text ≡ before ++ 46 ∷ after → LacksMark 46 before → ((n : ℕ) → n < 2 ^ 32 → SpellsNumber before n → ⊥) → (n : ℕ) → n < 2 ^ 32 * 10 ^ places → SpellsDecimal places text n → ⊥
around_whole places text before after is lacks none n few h =
    let p = around places text before after n is lacks h in
    none p.whole (whole_small p.whole (10 ^ places) (p.part * 10 ^ (places - length after)) n few p.value) p.whole_is

pub around_part : (places : ℕ) (text before after : List ℕ) → text ≡ before ++ 46 ∷ after → LacksMark 46 before → ((part : ℕ) → length after ≤ places → SpellsNumber after part → ⊥) → (n : ℕ) → SpellsDecimal places text n → ⊥
around_part places text before after is lacks none n h = let p = around places text before after n is lacks h in none p.part p.few p.part_is

-- a text spells one decimal
pub one_decimal : (places : ℕ) (text : List ℕ) (n m : ℕ) → SpellsDecimal places text n → SpellsDecimal places text m → n ≡ m
one_decimal places text n m (inl h) (inl k) = h.2 ∙ ap (λ w. w * 10 ^ places) (h.1.1 ∙ sym k.1.1) ∙ sym k.2
one_decimal places text n m (inl h) (inr k) = absurd (at_mark k.before k.after 46 (subst (LacksMark 46) k.written (number_lacks text h.0 h.1)))
one_decimal places text n m (inr h) k =
    let p = around places text h.before h.after m h.written (number_lacks h.before h.whole h.whole_is) k in
    h.value ∙ (λ i. (h.whole_is.1 ∙ sym p.whole_is.1) i * 10 ^ places + (h.part_is.1 ∙ sym p.part_is.1) i * 10 ^ (places - length h.after)) ∙ sym p.value

-- ---- lengths

lacks_more : (c mark : ℕ) (cs : List ℕ) → (c ≡ mark → ⊥) → LacksMark mark cs → LacksMark mark (c ∷ cs)
lacks_more c mark cs other h zero here = other
lacks_more c mark cs other h (suc k) here = h k (omega (arith, here))

lacks_joined : (c mark : ℕ) → (c ≡ mark → ⊥) → (before after : List ℕ) → LacksMark mark before → LacksMark mark after → LacksMark mark (before ++ c ∷ after)
lacks_joined c mark other [] after h k = lacks_more c mark after other k
lacks_joined c mark other (b ∷ bs) after h k =
    lacks_more b mark (bs ++ c ∷ after) (h 0 (omega arith)) (lacks_joined c mark other bs after (λ i here. h (suc i) (omega (arith, here))) k)

-- a decimal has no `m`
decimal_lacks : (places : ℕ) (text : List ℕ) (n : ℕ) → SpellsDecimal places text n → LacksMark 109 text
decimal_lacks places text n (inl h) = digits_lack text 109 (omega arith) h.1.0.1
decimal_lacks places text n (inr h) =
    subst (LacksMark 109) (sym h.written) (lacks_joined 46 109 (λ e. omega (arith, e)) h.before h.after (digits_lack h.before 109 (omega arith) h.whole_is.0.1) (digits_lack h.after 109 (omega arith) h.part_is.0.1))

no_unit : (text before after : List ℕ) (n : ℕ) → text ≡ before ++ 109 ∷ after → SpellsDecimal 2 text n → ⊥
no_unit text before after n is h = at_mark before after 109 (subst (LacksMark 109) is (decimal_lacks 2 text n h))

pub empty : (text : List ℕ) → length text ≡ 0 → text ≡ []
empty [] none = refl
empty (c ∷ cs) none = absurd (omega (arith, none))

pub length_plain : (text : List ℕ) (r : Option ℕ) → LacksMark 109 text → FindsDecimal 2 text r → FindsLength text r
length_plain text (Some n) lacks h = inl h
length_plain text None lacks h = λ n few k. by n few k
  where
    by : (n : ℕ) → n < 2 ^ 32 * 10 ^ 2 → SpellsLength text n → ⊥
    by n few (inl k) = h n few k
    by n few (inr k) = at_mark k.0 [] 109 (subst (LacksMark 109) k.1 lacks)

pub length_marked : (text before after : List ℕ) (r : Option ℕ) → text ≡ before ++ 109 ∷ after → LacksMark 109 before → after ≡ [] → FindsDecimal 2 before r → FindsLength text r
length_marked text before after (Some n) is lacks end h = inr (before, is ∙ ap (λ t. before ++ 109 ∷ t) end, h)
length_marked text before after None is lacks end h = λ n few k. by n few k
  where
    by : (n : ℕ) → n < 2 ^ 32 * 10 ^ 2 → SpellsLength text n → ⊥
    by n few (inl k) = no_unit text before after n is k
    by n few (inr k) =
        let same = one_first k.0 [] before after 109 (decimal_lacks 2 k.0 n k.2) lacks (sym k.1 ∙ is) in
        h n few (subst (λ t. SpellsDecimal 2 t n) same.0 k.2)

pub length_trailing : (text before after : List ℕ) (n : ℕ) → text ≡ before ++ 109 ∷ after → LacksMark 109 before → 0 < length after → SpellsLength text n → ⊥
length_trailing text before after n is lacks some (inl h) = no_unit text before after n is h
length_trailing text before after n is lacks some (inr h) =
    let same = one_first h.0 [] before after 109 (decimal_lacks 2 h.0 n h.2) lacks (sym h.1 ∙ is) in
    let none : 0 ≡ length after = ap length same.1 in
    omega (arith, some, none)

-- a text spells one length
pub one_length : (text : List ℕ) (n m : ℕ) → SpellsLength text n → SpellsLength text m → n ≡ m
one_length text n m (inl h) (inl k) = one_decimal 2 text n m h k
one_length text n m (inl h) (inr k) = absurd (no_unit text k.0 [] n k.1 h)
one_length text n m (inr h) (inl k) = absurd (no_unit text h.0 [] m h.1 k)
one_length text n m (inr h) (inr k) =
    let same = one_first h.0 [] k.0 [] 109 (decimal_lacks 2 h.0 n h.2) (decimal_lacks 2 k.0 m k.2) (sym h.1 ∙ k.1) in
    one_decimal 2 k.0 n m (subst (λ t. SpellsDecimal 2 t n) same.0 h.2) k.2
