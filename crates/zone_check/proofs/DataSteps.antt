-- Names and service parameters in RDATA, part by part.
use Rattle.std.proofs.Common.{◌≡◌, ◌==◌, ℕ, zero, suc, ◌+◌, ◌-◌, ◌*◌, ◌<◌, ◌≤◌, Bool, true, false, List, [], ◌∷◌, length, get_or, drop, take, refl, sym, ap, ◌∙◌, arith, ne_eqb, take_all}
use Rattle.std.specs.Prelude.{if◌then◌else◌}
use Rattle.zone_check.specs.Data.{after_labels, has_ohttp, is_ohttp_with}

pub after_label : (most count : ℕ) (labels : List ℕ) → 0 < most → after_labels most (count ∷ labels) ≡ (if count == 0 then labels else after_labels (most - 1) (drop count labels))
after_label zero count labels lt = absurd (omega (arith, lt))
after_label (suc most) count labels lt =
    let same : most ≡ suc most - 1 = omega arith in
    ap (λ n. if count == 0 then labels else after_labels n (drop count labels)) same

pub no_label : (most : ℕ) → after_labels most [] ≡ []
no_label zero = refl
no_label (suc most) = refl

pub parameter : (most high low more less : ℕ) (values : List ℕ) → 0 < most
    → has_ohttp most (high ∷ low ∷ more ∷ less ∷ values) ≡ (if is_ohttp_with high low (256 * more + less) then true else has_ohttp (most - 1) (drop (256 * more + less) values))
parameter zero high low more less values lt = absurd (omega (arith, lt))
parameter (suc most) high low more less values lt =
    let same : most ≡ suc most - 1 = omega arith in
    ap (λ n. if is_ohttp_with high low (256 * more + less) then true else has_ohttp n (drop (256 * more + less) values)) same

pub no_parameter : (most : ℕ) (octets : List ℕ) → length octets < 4 → has_ohttp most octets ≡ false
no_parameter zero octets lt = refl
no_parameter (suc most) [] lt = refl
no_parameter (suc most) (a ∷ []) lt = refl
no_parameter (suc most) (a ∷ b ∷ []) lt = refl
no_parameter (suc most) (a ∷ b ∷ c ∷ []) lt = refl
no_parameter (suc most) (a ∷ b ∷ c ∷ d ∷ octets) lt = absurd (omega (arith, lt))

-- ---- the step of a loop

pub next_label : (most : ℕ) (xs rest : List ℕ) (n : ℕ) → 0 < most → 1 ≤ length xs → (get_or xs 0 0 ≡ 0 → ⊥) → n ≡ get_or xs 0 0 → rest ≡ drop n (take (length xs - 1) (drop 1 xs))
    → after_labels (most - 1) rest ≡ after_labels most xs
next_label most [] rest n lt some other same is = absurd (omega (arith, some))
next_label most (count ∷ labels) rest n lt some other same is =
    ap (after_labels (most - 1)) (is ∙ ap (λ k. drop k (take (length (count ∷ labels) - 1) labels)) same ∙ ap (drop count) (take_all (length (count ∷ labels) - 1) labels (omega arith)))
    ∙ sym (after_label most count labels lt ∙ ap (λ b. if b then labels else after_labels (most - 1) (drop count labels)) (ne_eqb count 0 other))

pub next_parameter : (most : ℕ) (xs rest : List ℕ) (m l : ℕ) (b : Bool) → 0 < most → 4 ≤ length xs → m ≡ get_or xs 2 0 → l ≡ get_or xs 3 0
    → b ≡ is_ohttp_with (get_or xs 0 0) (get_or xs 1 0) (256 * m + l) → b ≡ false → rest ≡ drop (256 * m + l) (take (length xs - 4) (drop 4 xs)) → has_ohttp (most - 1) rest ≡ has_ohttp most xs
next_parameter most [] rest m l b lt long e1 e2 e3 none is = absurd (omega (arith, long))
next_parameter most (h ∷ []) rest m l b lt long e1 e2 e3 none is = absurd (omega (arith, long))
next_parameter most (h ∷ w ∷ []) rest m l b lt long e1 e2 e3 none is = absurd (omega (arith, long))
next_parameter most (h ∷ w ∷ more ∷ []) rest m l b lt long e1 e2 e3 none is = absurd (omega (arith, long))
next_parameter most (h ∷ w ∷ more ∷ less ∷ values) rest m l b lt long e1 e2 e3 none is =
    let xs : List ℕ = h ∷ w ∷ more ∷ less ∷ values in
    let count : 256 * m + l ≡ 256 * more + less = ap (λ n. 256 * n + l) e1 ∙ ap (λ n. 256 * more + n) e2 in
    let other : is_ohttp_with h w (256 * more + less) ≡ false = sym (ap (λ n. is_ohttp_with h w n) count) ∙ sym e3 ∙ none in
    ap (has_ohttp (most - 1)) (is ∙ ap (λ n. drop n (take (length xs - 4) values)) count ∙ ap (drop (256 * more + less)) (take_all (length xs - 4) values (omega arith)))
    ∙ sym (parameter most h w more less values lt ∙ ap (λ c. if c then true else has_ohttp (most - 1) (drop (256 * more + less) values)) other)
