-- Each character is shown as one.
use Rattle.std.proofs.Common.{◌≡◌, ℕ, ◌+◌, ◌<◌, ◌==◌, Bool, true, false, cond, List, [], ◌∷◌, refl, sym, ap, ◌∙◌, arith, inl, inr}
use Rattle.std.specs.Prelude.{◌||◌, nat_lt, nat_le}
use Rattle.std.proofs.lemmas.Bool.{lt-ltb, eqb-true, ltb-true, or_cases}
use Rattle.std.proofs.lemmas.List.Sums.{sum_by-append, sum_by-cons}
use Rattle.std.proofs.lemmas.List.Concat.{flat_map-cons}
use Rattle.zone_format.specs.Place.{begins_character}
use Rattle.zone_format.specs.Columns.{width_of}
use Rattle.finding_formats.specs.Shown.{is_control, shown_text, shown_octet}

low_begins : (c : ℕ) → c < 128 → begins_character c ≡ true
low_begins c h = ap (λ b. b || nat_le 192 c) (lt-ltb c 128 h)

tab_begins : (c : ℕ) → (c == 9) ≡ true → begins_character c ≡ true
tab_begins c e = low_begins c (omega (arith, eqb-true c 9 e))

control_begins : (c : ℕ) → is_control c ≡ true → begins_character c ≡ true
control_begins c e = elim (or_cases (nat_lt c 32) (c == 127) e) [ inl low ↦ low_begins c (omega (arith, ltb-true c 32 low)) | inr del ↦ low_begins c (omega (arith, eqb-true c 127 del)) ]

alone : (c : ℕ) → width_of (c ∷ []) ≡ cond (begins_character c) 1 0
alone c = omega (arith, sum_by-cons (λ x. cond (begins_character x) 1 0) c [])

-- how an octet is shown, by the tests on which it depends
abbrev shown_by : (tab control stays begins : Bool) → ℕ → List ℕ
shown_by t u v w c = cond t (32 ∷ []) (cond u (63 ∷ []) (cond v (c ∷ []) (cond w (63 ∷ []) [])))

by_tests : (t u v w : Bool) (c : ℕ) → w ≡ begins_character c → (t ≡ true → w ≡ true) → (u ≡ true → w ≡ true) → width_of (shown_by t u v w c) ≡ cond w 1 0
by_tests true u v w c e f g = sym (ap (λ b. cond b 1 0) (f refl))
by_tests false true v w c e f g = sym (ap (λ b. cond b 1 0) (g refl))
by_tests false false true w c e f g = alone c ∙ ap (λ b. cond b 1 0) (sym e)
by_tests false false false true c e f g = refl
by_tests false false false false c e f g = refl

shown_one : (k : Bool) (c : ℕ) → width_of (shown_octet k c) ≡ cond (begins_character c) 1 0
shown_one k c = by_tests (c == 9) (is_control c) (nat_lt c 128 || k) (begins_character c) c refl (tab_begins c) (control_begins c)

pub each_shown : (k : Bool) (octets : List ℕ) → width_of (shown_text k octets) ≡ width_of octets
each_shown k [] = refl
each_shown k (c ∷ cs) =
    let parts : width_of (shown_text k (c ∷ cs)) ≡ width_of (shown_octet k c) + width_of (shown_text k cs) =
    ap width_of (flat_map-cons (shown_octet k) c cs) ∙ sum_by-append (λ x. cond (begins_character x) 1 0) (shown_octet k c) (shown_text k cs) in
    omega (arith, parts, shown_one k c, each_shown k cs, sum_by-cons (λ x. cond (begins_character x) 1 0) c cs)
