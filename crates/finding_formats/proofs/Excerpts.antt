-- The parts of an excerpt.
use Rattle.std.proofs.Common.{◌≡◌, ℕ, ◌-◌, Bool, List, [], ◌∷◌, ◌++◌, length, take, drop, ap, ◌∙◌, subst, arith, length-drop, ap₂, ◌+◌, ◌≤◌}
use Rattle.std.specs.Prelude.{Result, Ok, Err, OnOk, IsTrue, ◌↔◌, min}
use Rattle.std.proofs.Math.Nat.{min-eq_left}
use Rattle.dns_lexer.specs.Pieces.{between}
use Rattle.std.proofs.lemmas.List.{take_all}
use Rattle.std.proofs.lemmas.List.Sums.{count_by-le-length}
use Rattle.zone_format.specs.Place.{begins_character}
use Rattle.finding_formats.specs.Excerpt.{HasExcerpt, HasPlace, caret_line, characters_before, first_shown, mark_width, near_part}
use Rattle.zone_format.specs.Columns.{width_of}
use Rattle.finding_formats.specs.Shown.{IsShowable, shown_text}

-- the rest of a line, as a slice
pub rest_is : (line : List ℕ) (start : ℕ) → take (length line - start) (drop start line) ≡ drop start line
rest_is line start = take_all (length line - start) (drop start line) (omega (arith, length-drop start line))

made : (is_coloured keeps : Bool) (line rest : List ℕ) (column end_column start size first before width : ℕ) (old mid fed new : List ℕ) → rest ≡ drop start line → first ≡ first_shown line column
    → before ≡ characters_before line column - first → HasPlace line first start → HasPlace rest 200 size → IsTrue keeps ↔ IsShowable (take size rest) → mid ≡ old ++ shown_text keeps (take size rest) → fed ≡ mid ++ 10 ∷ []
    → width ≡ mark_width (end_column - column) before (width_of (take size rest)) → new ≡ fed ++ caret_line is_coloured before width → HasExcerpt is_coloured line column end_column old new
made is_coloured keeps line rest column end_column start size first before width old mid fed new r f b starts ends kept m n w e =
    let ahead : ℕ = characters_before line column - first_shown line column in
    let before_is : before ≡ ahead = b ∙ ap (λ x. characters_before line column - x) f in
    let width_is : width ≡ mark_width (end_column - column) ahead (width_of (take size (drop start line))) =
    w ∙ ap (λ x. mark_width (end_column - column) x (width_of (take size rest))) before_is ∙ ap (λ l. mark_width (end_column - column) ahead (width_of (take size l))) r in
    record {
      start = start;
      size = size;
      keeps_high = keeps;
      starts = subst (λ (x : ℕ). HasPlace line x start) f starts;
      ends = subst (λ (l : List ℕ). HasPlace l 200 size) r ends;
      kept = subst (λ (l : List ℕ). IsTrue keeps ↔ IsShowable (take size l)) r kept;
      is =
          e ∙ ap (λ l. l ++ caret_line is_coloured before width) (n ∙ ap (λ l. l ++ 10 ∷ []) (m ∙ ap (λ l. old ++ shown_text keeps (take size l)) r))
          ∙ ap (λ x. ((old ++ shown_text keeps (take size (drop start line))) ++ 10 ∷ []) ++ caret_line is_coloured x width) before_is
          ∙ ap (λ x. ((old ++ shown_text keeps (take size (drop start line))) ++ 10 ∷ []) ++ caret_line is_coloured ahead x) width_is;
    }

pub excerpt_made : {T E : Type 0} (r : Result T E) (is_coloured keeps : Bool) (line rest : List ℕ) (column end_column start size first before width : ℕ) (old mid fed new : List ℕ) → rest ≡ drop start line → first ≡ first_shown line column
    → before ≡ characters_before line column - first → HasPlace line first start → HasPlace rest 200 size → IsTrue keeps ↔ IsShowable (take size rest) → mid ≡ old ++ shown_text keeps (take size rest) → fed ≡ mid ++ 10 ∷ []
    → width ≡ mark_width (end_column - column) before (width_of (take size rest)) → OnOk r (new ≡ fed ++ caret_line is_coloured before width) → OnOk r (HasExcerpt is_coloured line column end_column old new)
excerpt_made (Ok u) is_coloured keeps line rest column end_column start size first before width old mid fed new a f b starts ends kept m n w e =
    made is_coloured keeps line rest column end_column start size first before width old mid fed new a f b starts ends kept m n w e
excerpt_made (Err u) is_coloured keeps line rest column end_column start size first before width old mid fed new a f b starts ends kept m n w e = tt

-- a short line is kept whole
pub whole_near : (line : List ℕ) (at : ℕ) → at ≤ length line → length line ≤ 800 → near_part line at ≡ line
whole_near line at h k =
    let start : at - 800 ≡ 0 = omega (arith, h, k) in
    let end : at + min (length line - at) 800 ≡ length line = ap (λ n. at + n) (min-eq_left (omega (arith, h, k))) ∙ omega (arith, h) in
    ap₂ (λ s e. between line s e) start end ∙ rest_is line 0

pub short_width : (octets : List ℕ) → width_of octets ≤ length octets
short_width octets = count_by-le-length begins_character octets
