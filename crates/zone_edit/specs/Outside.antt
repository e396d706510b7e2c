-- The octets in spans of a text, and those outside of them.
use Rattle.std.specs.Prelude.{ℕ, ◌+◌, ◌-◌, List, [], ◌∷◌, ◌++◌, length, take, drop}
use Rattle.dns_lexer.specs.Pieces.{between}
use Rattle.dns_lexer.specs.declared.pieces.Span.{Span}
use Rattle.zone_edit.specs.declared.edit.Edit.{Edit}
use Rattle.zone_edit.specs.Tokens.{span_between}

-- of octets that begin at an offset: those before the first span, and those after it that are outside of the other spans
abbrev pub outside_from : ℕ → List Span → List ℕ → List ℕ
outside_from at [] octets = octets
outside_from at (s ∷ spans) octets = take (s.start - at) octets ++ outside_from s.end spans (drop (s.end - at) octets)

-- the octets in each span
abbrev pub inside_from : ℕ → List Span → List ℕ → List (List ℕ)
inside_from at [] octets = []
inside_from at (s ∷ spans) octets = between octets (s.start - at) (s.end - at) ∷ inside_from s.end spans (drop (s.end - at) octets)

-- the spans of the replacements in an edited text, where the octets at an offset of the old text are at another of the new one
abbrev pub moved_from : {B : Type 0} → ℕ → ℕ → List (Edit B) → List Span
moved_from at to [] = []
moved_from at to (e ∷ edits) = span_between (to + (e.start - at)) (to + (e.start - at) + length e.text.items) ∷ moved_from e.end (to + (e.start - at) + length e.text.items) edits

-- octets of a text outside of its spans
abbrev pub outside : List Span → List ℕ → List ℕ
outside spans octets = outside_from 0 spans octets

-- octets of a text in its spans
abbrev pub inside : List Span → List ℕ → List (List ℕ)
inside spans octets = inside_from 0 spans octets

-- the spans of the replacements in an edited text
abbrev pub moved_spans : {B : Type 0} → List (Edit B) → List Span
moved_spans edits = moved_from 0 0 edits
