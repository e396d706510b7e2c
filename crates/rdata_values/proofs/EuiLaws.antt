-- EUI-48 and EUI-64 addresses parse as they print, and to one value.
use Rattle.std.proofs.Common.{ℕ, zero, suc, ◌≡◌, ◌<◌, ◌+◌, ◌-◌, ◌*◌, List, [], ◌∷◌, length, get_or, refl, sym, subst, arith, ap, ◌∙◌}
use Rattle.std.specs.Prelude.{All}
use Rattle.std.specs.Char.{digit_value}
use Rattle.std.proofs.lemmas.Bool.Decides.{nat_tests}
use Rattle.std.proofs.lemmas.List.Elements.{All-head, All-tail}
use Rattle.rdata_values.specs.Hex.{IsPair, pair_digit}
use Rattle.rdata_values.specs.Eui.{IsDashed, AreDashes, AreEuiOctets, dashed_text, SpellsEui48, SpellsEui64, EuisAreKind}
use Rattle.rdata_values.specs.declared.eui.Eui48.{Eui48}
use Rattle.rdata_values.specs.declared.eui.Eui64.{Eui64}
use Rattle.rdata_values.proofs.HexLaws.{one_way, pair_behind, written_pair}
use Rattle.rdata_values.proofs.ReadBack.{is_kind}

pub lower : (n : ℕ) → n < 16 → digit_value (pair_digit 97 n) ≡ n
lower n small = Prim.grind (arith, nat_tests)

dashed_pairs : (os : List ℕ) → All (λ o. o < 256) os → (k : ℕ) → k < length os → IsPair (dashed_text os) (3 * k) (get_or os k 0)
dashed_pairs [] h k here = absurd (omega (arith, here))
dashed_pairs (o ∷ []) h zero here = written_pair 97 lower o [] (All-head (λ o. o < 256) o [] h)
dashed_pairs (o ∷ []) h (suc k) here = absurd (omega (arith, here))
dashed_pairs (o ∷ p ∷ os) h zero here = written_pair 97 lower o (45 ∷ dashed_text (p ∷ os)) (All-head (λ o. o < 256) o (p ∷ os) h)
dashed_pairs (o ∷ p ∷ os) h (suc k) here =
    let e : 3 * suc k ≡ suc (suc (suc (3 * k))) = omega arith in
    subst (λ at. IsPair (dashed_text (o ∷ p ∷ os)) at (get_or (p ∷ os) k 0)) (sym e)
    (pair_behind _ _ _ _ (pair_behind _ _ _ _ (pair_behind _ (dashed_text (p ∷ os)) (3 * k) (get_or (p ∷ os) k 0) (dashed_pairs (p ∷ os) (All-tail (λ o. o < 256) o (p ∷ os) h) k (omega (arith, here))))))

dashes : (os : List ℕ) → AreDashes (dashed_text os) (length os)
dashes [] k some here = absurd (omega (arith, here))
dashes (o ∷ []) k some here = absurd (omega (arith, some, here))
dashes (o ∷ p ∷ os) zero some here = absurd (omega (arith, some))
dashes (o ∷ p ∷ os) (suc zero) some here = refl
dashes (o ∷ p ∷ os) (suc (suc k)) some here =
    let e : 3 * suc (suc k) - 1 ≡ suc (suc (suc (3 * suc k - 1))) = omega arith in
    ap (λ at. get_or (dashed_text (o ∷ p ∷ os)) at 0) e ∙ dashes (p ∷ os) (suc k) (omega arith) (omega (arith, here))

dashed_length : (os : List ℕ) → 0 < length os → length (dashed_text os) + 1 ≡ 3 * length os
dashed_length [] some = absurd (omega (arith, some))
dashed_length (o ∷ []) some = refl
dashed_length (o ∷ p ∷ os) some = let more = dashed_length (p ∷ os) (omega arith) in omega (arith, more)

is_dashed : (os : List ℕ) → All (λ o. o < 256) os → 0 < length os → IsDashed (dashed_text os) os
is_dashed os h some = record { whole = dashed_length os some; pairs = dashed_pairs os h; dashes = dashes os }

one : (text os ps : List ℕ) → length os ≡ length ps → IsDashed text os → IsDashed text ps → os ≡ ps
one text os ps same h k = one_way 3 text os ps same h.pairs k.pairs

pub euis_are_kind : EuisAreKind
euis_are_kind = (
  is_kind (λ e. AreEuiOctets 6 e.0) SpellsEui48 (λ e. dashed_text e.0) (λ e h. (h.0, is_dashed e.0 h.1 (omega (arith, h.0)))) once48,
  is_kind (λ e. AreEuiOctets 8 e.0) SpellsEui64 (λ e. dashed_text e.0) (λ e h. (h.0, is_dashed e.0 h.1 (omega (arith, h.0)))) once64,
)
  where
    once48 : (text : List ℕ) (d e : Eui48) → SpellsEui48 text d → SpellsEui48 text e → d ≡ e
    once48 text d e h k = let same = one text d.0 e.0 (h.0 ∙ sym k.0) h.1 k.1 in λ i. record { 0 = same i }

    once64 : (text : List ℕ) (d e : Eui64) → SpellsEui64 text d → SpellsEui64 text e → d ≡ e
    once64 text d e h k = let same = one text d.0 e.0 (h.0 ∙ sym k.0) h.1 k.1 in λ i. record { 0 = same i }
