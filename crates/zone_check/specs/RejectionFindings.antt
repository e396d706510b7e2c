-- Where an entry is rejected.
use Rattle.std.specs.Prelude.{ℕ, ◌≡◌, ◌↔◌, ◌+◌, ◌-◌, ◌^◌, ◌==◌, min, find, slice_get, length, List, Option, Some, None, IfSome, IsSome, unwrap_or, encode_utf8_all}
use Rattle.dns_lexer.specs.EntryTokens.{TokenSeen}
use Rattle.dns_lexer.specs.Pieces.{place_of}
use Rattle.dns_lexer.specs.Unclosed.{IsOpener, LacksClosing}
use Rattle.dns_lexer.specs.declared.pieces.Fault.{Fault}
use Rattle.dns_lexer.specs.declared.pieces.Wrong.{Wrong}
use Rattle.dns_lexer.specs.declared.pieces.Wrong.TheVariants.{OpenParenthesis}
use Rattle.finding_codes.specs.declared.code.Code.{Code}
use Rattle.zone_check.specs.declared.finding.About.TheVariants.{Rejection, SyntaxError}
use Rattle.zone_check.specs.declared.finding.EntryFinding.{EntryFinding}
use Rattle.zone_check.specs.Codes.{code_of_fault}
use Rattle.zone_check.specs.FindingSpans.{finding_at, finding_of_token, token_width}

-- the offset after a token, with its double quotes, among offsets of 64 bits
abbrev pub end_of_token : Option TokenSeen → ℕ
end_of_token None = 0
end_of_token (Some t) = min (t.at + token_width t) (2 ^ 64 - 1)

-- the offset after the last token
abbrev pub end_of_last : List TokenSeen → ℕ
end_of_last tokens = end_of_token (slice_get tokens (length tokens - 1))

-- a token is rejected, or the entry where a token is missing: after the last one
abbrev pub rejected_at : Code → Option TokenSeen → List TokenSeen → EntryFinding
rejected_at code (Some t) tokens = finding_of_token code Rejection t
rejected_at code None tokens = finding_at code (end_of_last tokens) 1 Rejection

-- the token that begins at the offset of an error is rejected
abbrev pub rejected_finding : Code → (at : ℕ) → List TokenSeen → EntryFinding
rejected_finding code at tokens = rejected_at code (find (λ t. t.at == at) tokens) tokens

-- the outermost parenthesis that is left open, if closing parentheses alone would complete the text
abbrev pub IsUnclosedAt : List ℕ → Option ℕ → Type 0
IsUnclosedAt octets opened = IfSome opened (λ i. IsOpener (encode_utf8_all octets) (place_of octets i)) × (IsSome opened ↔ LacksClosing (encode_utf8_all octets))

abbrev pub IsOpenedBy : Wrong → List ℕ → Option ℕ → Type 0
IsOpenedBy OpenParenthesis octets opened = IsUnclosedAt octets opened
IsOpenedBy _ octets opened = opened ≡ None

-- at the parenthesis that is left open, or at the octet that is wrong
abbrev pub IsFaultFinding : List ℕ → (offset : ℕ) → Fault → EntryFinding → Type 0
IsFaultFinding octets offset fault r =
    (opened : Option ℕ) × IsOpenedBy fault.wrong octets opened × (r ≡ finding_at (code_of_fault fault.wrong) (unwrap_or opened (fault.at - offset)) 1 SyntaxError)
