-- Texts that are made of pieces.
use Rattle.std.specs.Prelude.{ℕ, List, [], ◌∷◌, ◌++◌, codes, Option, Some, None}
use Rattle.std.specs.Borrow.{Bor}
use Rattle.std.specs.Fmt.{decimal}
use Rattle.dns_lexer.specs.declared.position.Position.{Position}
use Rattle.finding_formats.specs.Escape.{escaped}
use Rattle.finding_formats.specs.declared.escape.Context.{Context}
use Rattle.finding_formats.specs.declared.piece.Piece.{Piece}
use Rattle.finding_formats.specs.declared.piece.Piece.TheVariants.{Plain, Text, TextIn, Number, TextIf, NumberIf, Opened, About}

-- the parts one after another
abbrev pub parts_text : List (List ℕ) → List ℕ
parts_text [] = []
parts_text (part ∷ parts) = part ++ parts_text parts

-- escaped octets between a beginning and an end, if there are any
abbrev pub text_if : Context → (before : List ℕ) → Option (Bor (List ℕ)) → (after : List ℕ) → List ℕ
text_if context before None after = []
text_if context before (Some octets) after = before ++ (escaped context octets.now ++ after)

abbrev pub number_if : (before : List ℕ) → Option ℕ → List ℕ
number_if before None = []
number_if before (Some n) = before ++ decimal n

abbrev pub opening_text : (before_line before_column : List ℕ) → Option Position → List ℕ
opening_text before_line before_column None = []
opening_text before_line before_column (Some p) = (before_line ++ decimal p.line) ++ (before_column ++ decimal p.column)

-- `OWNER TYPE: `, `OWNER: `, `TYPE: `, or nothing
abbrev pub about_text : Context → (owner rtype : Option (Bor (List ℕ))) → List ℕ
about_text context owner None = text_if context [] owner (codes ": ")
about_text context owner (Some rtype) = text_if context [] owner (codes " ") ++ (escaped context rtype.now ++ codes ": ")

abbrev pub piece_text : Context → Piece → List ℕ
piece_text context (Plain octets) = octets.now
piece_text context (Text octets) = escaped context octets.now
piece_text context (TextIn other octets) = escaped other octets.now
piece_text context (Number n) = decimal n
piece_text context (TextIf before octets after) = text_if context before.now octets after.now
piece_text context (NumberIf before n) = number_if before.now n
piece_text context (Opened line column opened) = opening_text line.now column.now opened
piece_text context (About owner rtype) = about_text context owner rtype
