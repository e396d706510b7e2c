-- Escapes among octets (RFC 1035 section 5.1), and octets that a text spells with them.
use Rattle.std.specs.Prelude.{◌≡◌, ◌≢◌, ℕ, ◌==◌, Bool, true, not, if◌then◌else◌, List, ◌++◌, length, drop, Result, Ok, Err}
use Rattle.dns_symbol.specs.Characters.{backslash}
use Rattle.dns_symbol.specs.Symbol.{spell, is_escape_by}
use Rattle.dns_symbol.specs.Text.{chars_error}
use Rattle.dns_symbol.specs.declared.escape.EscapeRule.{EscapeRule}
use Rattle.dns_symbol.specs.declared.escape.EscapeRule.TheVariants.{AnyOctet}
use Rattle.dns_symbol.specs.declared.escape.EscapedOctet.{EscapedOctet}
use Rattle.dns_symbol.specs.declared.symbol.Symbol.{Symbol}
use Rattle.dns_symbol.specs.declared.symbol.Symbol.TheVariants.{Char, SimpleEscape, DecimalEscape}
use Rattle.dns_symbol.specs.declared.error.SymbolCharsError.{SymbolCharsError}

-- the symbol that an escaped octet is written as
abbrev pub escape_symbol : EscapedOctet → Symbol
escape_symbol e = if e.is_decimal then DecimalEscape e.octet else SimpleEscape e.octet

-- a text begins with no escape
abbrev pub BeginsNoEscape : EscapeRule → List ℕ → Type 0
BeginsNoEscape rule text = (s : Symbol) (rest : List ℕ) → is_escape_by rule s ≡ true → text ≢ spell s ++ rest

-- the escape that a text begins with, or the error
abbrev pub ReadsEscape : EscapeRule → List ℕ → Result EscapedOctet SymbolCharsError → Type 0
ReadsEscape rule text (Ok e) = (is_escape_by rule (escape_symbol e) ≡ true) × (text ≡ spell (escape_symbol e) ++ drop (length (spell (escape_symbol e))) text)
ReadsEscape rule text (Err e) = BeginsNoEscape rule text × (e ≡ chars_error text)

-- the octet of a symbol among octets
abbrev pub octet_for : Symbol → ℕ
octet_for (Char o) = o
octet_for (SimpleEscape o) = o
octet_for (DecimalEscape o) = o

-- an octet is spelled by itself, except the backslash, or by an escape, which may be of any octet
abbrev pub is_spelling : Symbol → Bool
is_spelling (Char o) = not (o == backslash)
is_spelling (SimpleEscape o) = is_escape_by AnyOctet (SimpleEscape o)
is_spelling (DecimalEscape o) = is_escape_by AnyOctet (DecimalEscape o)
