-- Marks with runs of line ends shortened are those of the lines.
use Rattle.std.proofs.Common.{◌≡◌, Bool, true, false, ◌||◌, List, [], ◌∷◌, ◌++◌, refl, sym, ap, ◌∙◌}
use Rattle.std.specs.Prelude.{if◌then◌else◌}
use Rattle.zone_format.specs.declared.line_state.Above.{Above}
use Rattle.zone_format.specs.declared.line_state.Above.TheVariants.{Nothing, Line, Gap}
use Rattle.zone_format.specs.Form.{blank_below, gap, is_blank_line, lines}
use Rattle.zone_format.specs.Marks.{Mark, Token, Note, Open, Close, Feed, Lead, lead}
use Rattle.zone_format.specs.Squeezed.{begins_led, squeezed, squeezed_lines, things}
use Rattle.zone_format.proofs.Formed.{first_line, lines_are, more_lines}
use Rattle.zone_format.proofs.Respelling.{lead_in, sq}

or_true : (l : Bool) → (l || true) ≡ true
or_true true = refl
or_true false = refl

put : (a : Above) (l : Bool) (m : Mark) (xs ys tail : List Mark) → xs ≡ ys ++ tail → lead_in a false l ++ (m ∷ xs) ≡ gap Feed a ++ ((lead (l || false) ++ (m ∷ ys)) ++ tail)
put Nothing true m xs ys tail e = ap (λ k. Lead ∷ m ∷ k) e
put Nothing false m xs ys tail e = ap (λ k. m ∷ k) e
put Line true m xs ys tail e = ap (λ k. Lead ∷ m ∷ k) e
put Line false m xs ys tail e = ap (λ k. m ∷ k) e
put Gap true m xs ys tail e = ap (λ k. Feed ∷ Lead ∷ m ∷ k) e
put Gap false m xs ys tail e = ap (λ k. Feed ∷ m ∷ k) e

abbrev tail_of : List Mark → List Mark
tail_of ms = Feed ∷ squeezed_lines Line (more_lines ms)

abbrev line_of : Bool → Above → Bool → List Mark → List (List Mark) → List Mark
line_of blank a b l ls = if blank then squeezed_lines (blank_below a) ls else gap Feed a ++ ((lead b ++ things l) ++ (Feed ∷ squeezed_lines Line ls))

abbrev Within : List Mark → Type 0
Within ms = (a : Above) (l : Bool) → sq a true l ms ≡ things (first_line ms) ++ tail_of ms

abbrev Starts : List Mark → Type 0
Starts ms = (a : Above) (l : Bool) → sq a false l ms ≡ line_of (is_blank_line (first_line ms)) a (l || begins_led (first_line ms)) (first_line ms) (more_lines ms)

from_start : (ms : List Mark) → Starts ms → (a : Above) → sq a false false ms ≡ squeezed_lines a (lines ms)
from_start ms h a = h a false ∙ ap (squeezed_lines a) (sym (lines_are ms))

both : (ms : List Mark) → Within ms × Starts ms
both [] = (λ a l. refl, λ a l. refl)
both (Feed ∷ ms) = (λ a l. ap (λ k. Feed ∷ k) (from_start ms (both ms).1 Line), λ a l. from_start ms (both ms).1 (blank_below a))
both (Lead ∷ ms) = (λ a l. (both ms).0 a true, λ a l. (both ms).1 a true ∙ ap (λ b. line_of (is_blank_line (first_line ms)) a b (first_line ms) (more_lines ms)) (sym (or_true l)))
both (Token g x ∷ ms) = (λ a l. ap (λ k. Token g x ∷ k) ((both ms).0 a false), λ a l. put a l (Token g x) _ _ _ ((both ms).0 a false))
both (Note x ∷ ms) = (λ a l. ap (λ k. Note x ∷ k) ((both ms).0 a false), λ a l. put a l (Note x) _ _ _ ((both ms).0 a false))
both (Open ∷ ms) = (λ a l. ap (λ k. Open ∷ k) ((both ms).0 a false), λ a l. put a l Open _ _ _ ((both ms).0 a false))
both (Close ∷ ms) = (λ a l. ap (λ k. Close ∷ k) ((both ms).0 a false), λ a l. put a l Close _ _ _ ((both ms).0 a false))

pub sq_is_squeezed : (ms : List Mark) → sq Nothing false false ms ≡ squeezed ms
sq_is_squeezed ms = from_start ms (both ms).1 Nothing
