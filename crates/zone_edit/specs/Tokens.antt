-- Tokens that are replaced by one.
use Rattle.std.specs.Prelude.{⊤, ◌≡◌, ◌≤◌, ℕ, zero, suc, ◌+◌, Bool, true, false, not, ◌||◌, ◌==◌, List, [], ◌∷◌, ◌++◌, map}
use Rattle.dns_lexer.specs.Pieces.{between}
use Rattle.dns_lexer.specs.declared.pieces.Span.{Span}
use Rattle.zone_edit.specs.declared.edit.Edit.{Edit}
use Rattle.zone_edit.specs.declared.tokens.TokenError.{TokenError}
use Rattle.zone_edit.specs.declared.tokens.TokenError.TheVariants.{OutOfMemory, OutOfOrder, TooFew}

-- a blank, or a part of a line's end
abbrev pub is_space : ℕ → Bool
is_space octet = (octet == 32) || (octet == 9) || (octet == 13) || (octet == 10)

-- whether a comment is open after an octet: an open one continues up to LF, and `;` begins one
abbrev pub comment_continues : Bool → ℕ → Bool
comment_continues true octet = not (octet == 10)
comment_continues false octet = octet == 59

-- the number of octets kept of an octet and those after it: it is kept for its own sake, or if one after it is kept
abbrev pub kept_with : Bool → ℕ → ℕ
kept_with true more = suc more
kept_with false zero = zero
kept_with false (suc more) = suc (suc more)

-- an octet between two tokens is kept if it belongs to a comment, isn't a blank and ends no line, or if a later one is kept
abbrev pub kept_len : Bool → List ℕ → ℕ
kept_len is_comment [] = 0
kept_len is_comment (octet ∷ gap) = kept_with (is_comment || not (is_space octet)) (kept_len (comment_continues is_comment octet) gap)

-- a token is after an offset, in a text of `count` octets
abbrev pub IsAfterToken : ℕ → ℕ → Span → Type 0
IsAfterToken count at t = (at ≤ t.start) × (t.start ≤ t.end) × (t.end ≤ count)

abbrev pub AreAfterTokens : ℕ → ℕ → List Span → Type 0
AreAfterTokens count at [] = ⊤
AreAfterTokens count at (t ∷ tokens) = IsAfterToken count at t × AreAfterTokens count t.end tokens

-- tokens are removed, each with what isn't kept between it and the one before
abbrev pub removed_spans : List ℕ → ℕ → List Span → List Span
removed_spans octets at [] = []
removed_spans octets at (t ∷ tokens) = record { start = at + kept_len false (between octets at t.start); end = t.end } ∷ removed_spans octets t.end tokens

-- the first of them remains a token, with another text
abbrev pub stretches : List ℕ → List Span → List Span
stretches octets [] = []
stretches octets (t ∷ tokens) = t ∷ removed_spans octets t.end tokens

-- an allocation failed, or tokens aren't in order
abbrev pub IsTokenError : ℕ → ℕ → List Span → TokenError → Type 0
IsTokenError count at tokens OutOfMemory = ⊤
IsTokenError count at tokens OutOfOrder = AreAfterTokens count at tokens → ⊥
IsTokenError count at tokens TooFew = ⊥

-- a part between two offsets
abbrev pub span_between : ℕ → ℕ → Span
span_between start end = record { start = start; end = end }

-- the spans of edits, and their texts
abbrev pub spans_of : {B : Type 0} → List (Edit B) → List Span
spans_of edits = map (λ e. span_between e.start e.end) edits

abbrev pub texts_of : {B : Type 0} → List (Edit B) → List (List ℕ)
texts_of edits = map (λ e. e.text.items) edits

-- no octets
abbrev pub no_text : Span → List ℕ
no_text t = []

-- one text for the first span, and none for the others
abbrev pub first_only : List ℕ → List Span → List (List ℕ)
first_only text [] = []
first_only text (s ∷ spans) = text ∷ map no_text spans

-- an edit is pushed, with this span and this text
abbrev pub PushesEdit : {B : Type 0} → Span → List ℕ → List (Edit B) → List (Edit B) → Type 0
PushesEdit {B} span text old new = (e : Edit B) × (new ≡ old ++ e ∷ []) × (span_between e.start e.end ≡ span) × (e.text.items ≡ text)

-- the old edits, followed by any others
abbrev pub Continues : {B : Type 0} → List (Edit B) → List (Edit B) → Type 0
Continues {B} old new = (more : List (Edit B)) × (new ≡ old ++ more)
