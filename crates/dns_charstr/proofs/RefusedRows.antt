-- Computed examples: texts that are rejected.
use Rattle.std.proofs.Common.{[], ◌∷◌, ◌++◌, replicate, arith, refl, None, Err}
use Rattle.std.specs.Prelude.{codes}
use Rattle.std.specs.Char.{encode_utf8}
use Rattle.dns_octets.specs.Room.{exactly}
use Rattle.dns_symbol.specs.declared.symbol.Symbol.TheVariants.{Char}
use Rattle.dns_symbol.specs.declared.error.SymbolCharsError.TheVariants.{BadEscape, ShortInput}
use Rattle.dns_symbol.specs.declared.error.BadSymbol.TheVariants.{NonAscii}
use Rattle.dns_symbol.proofs.Escapes.{escape_short, escape_value}
use Rattle.dns_charstr.specs.Reading.{ReadsText}
use Rattle.dns_charstr.specs.declared.charstr.error.FromStrError.TheVariants.{Presentation}
use Rattle.dns_charstr.specs.declared.charstr.error.PresentationError.TheVariants.{LongString, SymbolChars, BadSymbol}

-- an escape that is cut off
cut_off : ReadsText (exactly 255) (codes "ab\\2") (Err (Presentation (SymbolChars ShortInput)))
unfolding encode_utf8
cut_off = (
  codes "ab",
  record {
    symbols = Char 97 ∷ Char 98 ∷ [];
    read = record {
      rest = codes "\\2";
      readable = refl;
      spelled = refl;
      ends = (omega arith, (escape_short (codes "\\2") refl (omega arith) (omega arith) (λ _. refl) (λ h. absurd (omega (arith, h)))).0, refl);
    };
    octets_are = refl;
  },
  omega arith,
  omega arith,
)

-- an escape of too great a value
too_great : ReadsText (exactly 255) (codes "ab\\999") (Err (Presentation (SymbolChars BadEscape)))
unfolding encode_utf8
too_great = (
  codes "ab",
  record {
    symbols = Char 97 ∷ Char 98 ∷ [];
    read = record {
      rest = codes "\\999";
      readable = refl;
      spelled = refl;
      ends = (omega arith, (escape_value (codes "\\999") refl (omega arith) refl (omega arith)).0, refl);
    };
    octets_are = refl;
  },
  omega arith,
  omega arith,
)

-- a character that has no octet
no_octet : ReadsText (exactly 255) (0xC3 ∷ 0xB6 ∷ []) (Err (Presentation (BadSymbol NonAscii)))
unfolding encode_utf8
no_octet = (
  [],
  Char 0xF6,
  record {
    front = [];
    octets_are = refl;
    others = [];
    error = None;
    read = record { rest = []; readable = refl; spelled = refl; ends = refl };
  },
  omega arith,
  omega arith,
  refl,
)

-- the same after 255 octets
no_octet_after_all : ReadsText (exactly 255) (replicate 255 97 ++ 0xC3 ∷ 0xB6 ∷ []) (Err (Presentation LongString))
unfolding encode_utf8
no_octet_after_all = (
  replicate 255 97,
  Char 0xF6,
  record {
    front = replicate 255 (Char 97);
    octets_are = refl;
    others = [];
    error = None;
    read = record { rest = []; readable = refl; spelled = refl; ends = refl };
  },
  refl,
  omega arith,
)
