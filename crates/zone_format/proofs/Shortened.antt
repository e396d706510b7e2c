-- Comments without the blanks at their end.
use Rattle.std.proofs.Common.{◌≡◌, ℕ, suc, ◌+◌, ◌<◌, Bool, true, false, ◌&&◌, List, [], ◌∷◌, ◌++◌, length, take, get_or, refl, sym, ap, ◌∙◌, arith}
use Rattle.std.specs.Prelude.{if◌then◌else◌}
use Rattle.std.proofs.Math.Seq.{take-suc}
use Rattle.dns_lexer.specs.Run.{is_blank}
use Rattle.zone_format.specs.Marks.{is_none, shortened}

abbrev short_step : Bool → ℕ → List ℕ → List ℕ
short_step blank c r = if blank && is_none r then [] else c ∷ r

short_blank : (xs : List ℕ) (b : ℕ) → is_blank b ≡ true → shortened (xs ++ b ∷ []) ≡ shortened xs
short_blank [] b h = ap (λ x. short_step x b []) h
short_blank (x ∷ xs) b h = ap (short_step (is_blank x) x) (short_blank xs b h)

stays : (blank : Bool) (x : ℕ) (r : List ℕ) → is_none r ≡ false → short_step blank x r ≡ x ∷ r
stays true x r h = ap (λ n. if n then [] else x ∷ r) h
stays false x r h = refl

some_last : (xs : List ℕ) (b : ℕ) → is_none (xs ++ b ∷ []) ≡ false
some_last [] b = refl
some_last (x ∷ xs) b = refl

short_full : (xs : List ℕ) (b : ℕ) → is_blank b ≡ false → shortened (xs ++ b ∷ []) ≡ xs ++ b ∷ []
short_full [] b h = ap (λ x. short_step x b []) h
short_full (x ∷ xs) b h = ap (short_step (is_blank x) x) (short_full xs b h) ∙ stays (is_blank x) x (xs ++ b ∷ []) (some_last xs b)

next : (i : ℕ) → i + 1 ≡ suc i
next i = omega arith

pub shorter : (xs : List ℕ) (n i : ℕ) → n ≡ i + 1 → i < length xs → is_blank (get_or xs i 0) ≡ true → shortened (take n xs) ≡ shortened (take i xs)
shorter xs n i e w h = ap (λ k. shortened (take k xs)) (e ∙ next i) ∙ ap shortened (take-suc xs i 0 w) ∙ short_blank (take i xs) (get_or xs i 0) h

pub full : (xs : List ℕ) (n i : ℕ) → n ≡ i + 1 → i < length xs → is_blank (get_or xs i 0) ≡ false → shortened (take n xs) ≡ take n xs
full xs n i e w h = ap (λ k. shortened (take k xs)) (e ∙ next i) ∙ ap shortened (take-suc xs i 0 w) ∙ short_full (take i xs) (get_or xs i 0) h ∙ sym (take-suc xs i 0 w) ∙ ap (λ k. take k xs) (sym (e ∙ next i))
