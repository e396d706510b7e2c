-- What makes a text spell an octet first, or none.
use Rattle.std.proofs.Common.{◌≡◌, ℕ, ◌<◌, List, length, drop, refl, sym, arith, Ok, Err}
use Rattle.std.specs.Prelude.{slice_index}
use Rattle.std.proofs.lemmas.Bool.Decides.{nat_tests}
use Rattle.std.proofs.lemmas.List.{drop_more}
use Rattle.dns_symbol.specs.Escape.{ReadsEscape, escape_symbol}
use Rattle.dns_symbol.specs.Symbol.{spell}
use Rattle.dns_symbol.specs.declared.escape.EscapedOctet.{EscapedOctet}
use Rattle.dns_symbol.specs.declared.escape.EscapeRule.TheVariants.{AnyOctet}
use Rattle.dns_symbol.specs.declared.symbol.Symbol.TheVariants.{Char}
use Rattle.dns_symbol.specs.declared.error.SymbolCharsError.{SymbolCharsError}
use Rattle.dns_symbol.proofs.Spelled.{escape_spelling, escaped_octet_is, no_spelling}
use Rattle.dns_charstr.specs.OctetText.{SpellsOctet, SpellsNone}

-- an octet other than the backslash
pub spells_plain : (text : List ℕ) → 0 < length text → (slice_index text 0 ≡ 92 → ⊥) → SpellsOctet text (slice_index text 0) (drop 1 text)
spells_plain text some isnt = record { symbol = Char (slice_index text 0); spelling = grind (arith, nat_tests); whole = drop_more text 0 0 some; stands_for = refl }

-- an escape, or none
pub spells_escape : (text : List ℕ) (e : EscapedOctet) → ReadsEscape AnyOctet text (Ok e) → SpellsOctet text e.octet (drop (length (spell (escape_symbol e))) text)
spells_escape text e h = record { symbol = escape_symbol e; spelling = escape_spelling (escape_symbol e) h.0; whole = h.1; stands_for = sym (escaped_octet_is e) }

pub spells_no_escape : (text : List ℕ) (e : SymbolCharsError) → 0 < length text → slice_index text 0 ≡ 92 → ReadsEscape AnyOctet text (Err e) → SpellsNone text e
spells_no_escape text e some lead h = record { some = some; none = λ o rest s. no_spelling text lead h.0 s.symbol rest s.spelling s.whole; why = h.1 }
