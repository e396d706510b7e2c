-- The texts of the errors.
use Rattle.std.specs.Prelude.{ℕ, List, codes}
use Rattle.dns_symbol.specs.Symbol.{chars_error_text, bad_symbol_text}
use Rattle.dns_charstr.specs.declared.charstr.error.PresentationError.{PresentationError}
use Rattle.dns_charstr.specs.declared.charstr.error.PresentationError.TheVariants.{LongString, SymbolChars, BadSymbol}
use Rattle.dns_charstr.specs.declared.charstr.error.FromStrError.{FromStrError}
use Rattle.dns_charstr.specs.declared.charstr.error.FromStrError.TheVariants.{Presentation, ShortBuf}

-- a symbol's error has its own text
abbrev pub presentation_text : PresentationError → List ℕ
presentation_text LongString = codes "character string with more than 255 octets"
presentation_text (SymbolChars e) = chars_error_text e
presentation_text (BadSymbol e) = bad_symbol_text e

abbrev pub from_str_text : FromStrError → List ℕ
from_str_text (Presentation e) = presentation_text e
from_str_text ShortBuf = codes "buffer size exceeded"
