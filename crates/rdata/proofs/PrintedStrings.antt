-- Character strings in octets, one after another.
use Rattle.std.proofs.Common.{ℕ, zero, suc, ◌≡◌, ◌+◌, ◌-◌, ◌<◌, ◌≤◌, true, None, List, [], ◌∷◌, length, take, drop, get_or, map, min, refl, sym, ap, ◌∙◌, arith}
use Rattle.std.proofs.lemmas.List.{take_all, length-drop}
use Rattle.rdata_tokens.specs.Shown.{text_in_quotes}
use Rattle.rdata.specs.RestKinds.{strings_in, strings_in_octets, strings_form}
use Rattle.rdata.specs.Rests.{PrintedToken}

parts_enough : (k m : ℕ) (xs : List ℕ) → length xs ≤ k → length xs ≤ m → strings_in k xs ≡ strings_in m xs
parts_enough zero zero xs h g = refl
parts_enough zero (suc m) [] h g = refl
parts_enough zero (suc m) (x ∷ xs) h g = absurd (omega arith)
parts_enough (suc k) zero [] h g = refl
parts_enough (suc k) zero (x ∷ xs) h g = absurd (omega arith)
parts_enough (suc k) (suc m) [] h g = refl
parts_enough (suc k) (suc m) (x ∷ xs) h g =
    ap (λ ls. take x xs ∷ ls) (parts_enough k m (drop x xs) (omega (arith, length-drop x xs)) (omega (arith, length-drop x xs)))

-- the first string, and those after it
pub front_string : (x : ℕ) (xs : List ℕ) → strings_in_octets (x ∷ xs) ≡ take x xs ∷ strings_in_octets (drop x xs)
front_string x xs = ap (λ ls. take x xs ∷ ls) (parts_enough (length xs) (length (drop x xs)) (drop x xs) (omega (arith, length-drop x xs)) (omega arith))

abbrev pub quoted_token : List ℕ → PrintedToken
quoted_token octets = record { is_quoted = true; text = text_in_quotes octets }

least_front : (x count : ℕ) (xs : List ℕ) → count ≡ min x (length xs) → (take count xs ≡ take x xs) × (drop count xs ≡ drop x xs)
least_front zero count xs h = let z : count ≡ 0 = omega (arith, h) in (ap (λ m. take m xs) z, ap (λ m. drop m xs) z)
least_front (suc x) count [] h = let z : count ≡ 0 = omega (arith, h) in (ap (λ m. take m []) z, ap (λ m. drop m []) z)
least_front (suc x) zero (y ∷ ys) h = absurd (omega (arith, h))
least_front (suc x) (suc count) (y ∷ ys) h =
    let more = least_front x count ys (omega (arith, h)) in (ap (λ r. y ∷ r) more.0, more.1)

-- the same as slices are cut
pub next_string : (rest : List ℕ) (count place left : ℕ) → 0 < length rest → count ≡ min (get_or rest 0 0) (length rest - 1) → place ≡ count → left ≡ length rest - (1 + count)
    → (strings_form None).printed rest ≡ quoted_token (take place (drop 1 rest)) ∷ (strings_form None).printed (take left (drop (1 + count) rest))
next_string [] count place left some h p l = absurd (omega arith)
next_string (x ∷ xs) count place left some h p l =
    let size : count ≡ min x (length xs) = h ∙ ap (min x) (let n : suc (length xs) - 1 ≡ length xs = omega arith in n) in
    let least = least_front x count xs size in
    let behind : take left (drop count xs) ≡ drop x xs = take_all left (drop count xs) (omega (arith, l, length-drop count xs)) ∙ least.1 in
    let first : take place xs ≡ take x xs = ap (λ n. take n xs) p ∙ least.0 in
    let one : suc count ≡ 1 + count = omega arith in
    ap (map quoted_token) (front_string x xs) ∙ ap (λ s. quoted_token s ∷ (strings_form None).printed (drop x xs)) (sym first)
    ∙ ap (λ r. quoted_token (take place xs) ∷ (strings_form None).printed r) (sym behind)
    ∙ ap (λ n. quoted_token (take place xs) ∷ (strings_form None).printed (take left (drop n (x ∷ xs)))) one

pub no_string : (rest : List ℕ) → rest ≡ [] → (strings_form None).printed rest ≡ []
no_string rest none = ap (strings_form None).printed none
