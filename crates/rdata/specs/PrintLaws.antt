-- What RDATA prints as spells the RDATA again, and each of its tokens is one of a zone file.
use Rattle.std.specs.Prelude.{ℕ, ◌≡◌, true, false, Option, List}
use Rattle.std.specs.List.{AllByRecursion}
use Rattle.rdata_tokens.specs.NameSpelling.{IsOrigin}
use Rattle.dns_lexer.specs.EntryTokens.{TokenSeen}
use Rattle.dns_lexer.specs.Token.{IsQuote, IsToken, IsWord}
use Rattle.rdata.specs.Data.{IsDataOf, IsTextData, SpellsData}
use Rattle.rdata.specs.Generic.{generic_form}
use Rattle.rdata.specs.Printing.{printed_data, token_bytes}
use Rattle.rdata.specs.Rests.{ArePrinted, PrintedToken}
use Rattle.rdata.specs.declared.shape.Shape.{Shape}

-- whatever the origin is, the tokens that RDATA in the text form prints as spell it
abbrev pub IsDataReadBack : Type 0
IsDataReadBack = (origin : Option (List (List ℕ))) (shape : Shape) (octets : List ℕ) (tokens : List TokenSeen) → IsOrigin origin → IsTextData shape octets
    → ArePrinted (printed_data shape octets) tokens → SpellsData origin shape tokens octets

-- RDATA without a text form prints in the generic form
abbrev pub IsPrintedGeneric : Type 0
IsPrintedGeneric = (shape : Shape) (octets : List ℕ) → IsDataOf shape octets → (IsTextData shape octets → ⊥) → printed_data shape octets ≡ generic_form.printed octets

-- a token that prints as a quoted string is one of a zone file
abbrev pub IsQuotedWell : PrintedToken → Type 0
IsQuotedWell t = t.is_quoted ≡ true → IsQuote (token_bytes t)

abbrev pub IsDataQuotedWell : Type 0
IsDataQuotedWell = (shape : Shape) (octets : List ℕ) → IsDataOf shape octets → AllByRecursion IsQuotedWell (printed_data shape octets)

-- a token that prints without quotes is a word
abbrev pub IsWordWell : PrintedToken → Type 0
IsWordWell t = t.is_quoted ≡ false → IsWord (token_bytes t)

abbrev pub IsDataWordedWell : Type 0
IsDataWordedWell = (shape : Shape) (octets : List ℕ) → IsDataOf shape octets → AllByRecursion IsWordWell (printed_data shape octets)

-- so each is a token of a zone file
abbrev pub IsDataOfTokens : Type 0
IsDataOfTokens = (shape : Shape) (octets : List ℕ) → IsDataOf shape octets → AllByRecursion (λ t. IsToken (token_bytes t)) (printed_data shape octets)
