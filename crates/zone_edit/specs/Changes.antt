-- Lists of tokens, each replaced by one token.
use Rattle.std.specs.Prelude.{⊤, ◌≡◌, ◌≤◌, ℕ, Bool, true, ◌==◌, if◌then◌else◌, nat_eq, List, [], ◌∷◌, ◌++◌, length}
use Rattle.std.specs.Cmp.Lexicographic.{pointwise}
use Rattle.std.specs.Fmt.{decimal}
use Rattle.dns_codec.specs.Base.{base16, encoded}
use Rattle.dns_lexer.specs.Pieces.{between}
use Rattle.dns_lexer.specs.declared.pieces.Span.{Span}
use Rattle.zone_edit.specs.declared.edit.Edit.{Edit}
use Rattle.zone_edit.specs.Tokens.{AreAfterTokens, Continues, first_only, is_space, spans_of, stretches, texts_of}

-- tokens, and the text of the one that replaces them
pub record Change : Type 0 where
  pub tokens : List Span
  pub text : List ℕ

abbrev pub change : List Span → List ℕ → Change
change tokens text = record { tokens = tokens; text = text }

-- the spans that changes replace, and the text of each
abbrev pub change_spans : List ℕ → List Change → List Span
change_spans octets [] = []
change_spans octets (c ∷ changes) = stretches octets c.tokens ++ change_spans octets changes

abbrev pub change_texts : List ℕ → List Change → List (List ℕ)
change_texts octets [] = []
change_texts octets (c ∷ changes) = first_only c.text (stretches octets c.tokens) ++ change_texts octets changes

-- the tokens of all changes
abbrev pub changed_tokens : List Change → List Span
changed_tokens [] = []
changed_tokens (c ∷ changes) = c.tokens ++ changed_tokens changes

-- the tokens of each change are in order
abbrev pub HaveTokensInOrder : ℕ → List Change → Type 0
HaveTokensInOrder count [] = ⊤
HaveTokensInOrder count (c ∷ changes) = AreAfterTokens count 0 c.tokens × HaveTokensInOrder count changes

-- the edits of changes are pushed after the old ones, and no others
pub record PushesChanges {B : Type 0} (octets : List ℕ) (changes : List Change) (old new : List (Edit B)) : Type 0 where
  pub spans : spans_of new ≡ spans_of old ++ change_spans octets changes
  pub texts : texts_of new ≡ texts_of old ++ change_texts octets changes
  pub continues : Continues old new
  pub ordered : HaveTokensInOrder (length octets) changes

-- the same octets
abbrev pub are_same : List ℕ → List ℕ → Bool
are_same left right = pointwise nat_eq left right

-- a token that is a number is replaced if the number changes
abbrev pub number_changes : Span → ℕ → ℕ → List Change
number_changes token old new = if old == new then [] else change (token ∷ []) (decimal new) ∷ []

-- tokens that are hexadecimal digits are replaced by one if the octets change
abbrev pub hex_changes : List Span → List ℕ → List ℕ → List Change
hex_changes tokens old new = if are_same old new then [] else change tokens (encoded base16 new) ∷ []

-- octets that are blanks or parts of line ends
abbrev pub AreSpaces : List ℕ → Type 0
AreSpaces [] = ⊤
AreSpaces (octet ∷ octets) = (is_space octet ≡ true) × AreSpaces octets

-- a span is that of a token, with blanks and line ends before it
abbrev pub IsTokenSpan : List ℕ → Span → Span → Type 0
IsTokenSpan octets t s = (s.end ≡ t.end) × (s.start ≤ t.start) × AreSpaces (between octets s.start t.start)

-- each span is that of the token at the same index
abbrev pub AreTokenSpans : List ℕ → List Span → List Span → Type 0
AreTokenSpans octets [] [] = ⊤
AreTokenSpans octets (t ∷ tokens) [] = ⊥
AreTokenSpans octets [] (s ∷ spans) = ⊥
AreTokenSpans octets (t ∷ tokens) (s ∷ spans) = IsTokenSpan octets t s × AreTokenSpans octets tokens spans
