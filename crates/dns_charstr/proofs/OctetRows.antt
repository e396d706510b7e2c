-- Computed examples: texts of octets that are parsed and rejected.
use Rattle.std.proofs.Common.{◌≡◌, ℕ, ◌<◌, false, [], ◌∷◌, ◌++◌, List, arith, refl, Err}
use Rattle.std.specs.Prelude.{codes}
use Rattle.std.proofs.lemmas.Bool.Decides.{nat_tests}
use Rattle.dns_octets.specs.Room.{exactly}
use Rattle.dns_symbol.specs.Symbol.{spell, is_digit}
use Rattle.dns_symbol.specs.declared.escape.EscapeRule.TheVariants.{AnyOctet}
use Rattle.dns_symbol.specs.declared.symbol.Symbol.TheVariants.{Char, SimpleEscape, DecimalEscape}
use Rattle.dns_symbol.specs.declared.error.SymbolCharsError.TheVariants.{BadEscape, ShortInput}
use Rattle.dns_symbol.proofs.Escapes.{cut_escape, great_number}
use Rattle.dns_charstr.specs.OctetText.{SpellsOctet, SpellsOctets, ReadsOctetText}
use Rattle.dns_charstr.specs.declared.charstr.error.FromStrError.TheVariants.{Presentation, ShortBuf}
use Rattle.dns_charstr.specs.declared.charstr.error.PresentationError.TheVariants.{SymbolChars}
use Rattle.dns_charstr.proofs.OctetEscapes.{spells_no_escape}

itself : (o : ℕ) (rest : List ℕ) → (o ≡ 92 → ⊥) → SpellsOctet (o ∷ rest) o rest
itself o rest isnt = record { symbol = Char o; spelling = grind (arith, nat_tests); whole = refl; stands_for = refl }

escaped : (o : ℕ) (rest : List ℕ) → is_digit o ≡ false → SpellsOctet (92 ∷ o ∷ rest) o rest
escaped o rest isnt = record { symbol = SimpleEscape o; spelling = rw isnt refl; whole = refl; stands_for = refl }

numbered : (o : ℕ) (rest : List ℕ) → o < 256 → SpellsOctet (spell (DecimalEscape o) ++ rest) o rest
numbered o rest low = record { symbol = DecimalEscape o; spelling = grind (arith, nat_tests); whole = refl; stands_for = refl }

-- a tab, and octets above 127
as_themselves : SpellsOctets (9 ∷ 128 ∷ 255 ∷ []) (9 ∷ 128 ∷ 255 ∷ []) []
as_themselves = (_, itself 9 _ (λ e. omega (arith, e)), (_, itself 128 _ (λ e. omega (arith, e)), (_, itself 255 _ (λ e. omega (arith, e)), refl)))

-- after a backslash: a letter, a tab, an octet above 127, a backslash
after_a_backslash : SpellsOctets (codes "\\a\\" ++ 9 ∷ codes "\\" ++ 255 ∷ codes "\\\\") (97 ∷ 9 ∷ 255 ∷ 92 ∷ []) []
after_a_backslash = (_, escaped 97 _ refl, (_, escaped 9 _ refl, (_, escaped 255 _ refl, (_, escaped 92 _ refl, refl))))

-- by its number, of which three digits are parsed
by_its_number : SpellsOctets (codes "\\0097") (9 ∷ 55 ∷ []) []
by_its_number = (_, numbered 9 _ (omega arith), (_, itself 55 _ (λ e. omega (arith, e)), refl))

-- a number that is cut short, and one that is too great
cut_off : ReadsOctetText (exactly 255) (255 ∷ codes "\\25") (Err (Presentation (SymbolChars ShortInput)))
cut_off = (
  255 ∷ [],
  record {
    rest = codes "\\25";
    front = (_, itself 255 _ (λ e. omega (arith, e)), refl);
    stops = spells_no_escape (codes "\\25") ShortInput (omega arith) refl (cut_escape AnyOctet (codes "\\25") refl (omega arith) (λ h. refl) (λ h. refl));
  },
  omega arith,
  omega arith,
)

above_255 : ReadsOctetText (exactly 255) (codes "\\256") (Err (Presentation (SymbolChars BadEscape)))
above_255 = ([], record { rest = codes "\\256"; front = refl; stops = spells_no_escape (codes "\\256") BadEscape (omega arith) refl (great_number AnyOctet (codes "\\256") refl (omega arith) refl (omega arith)) }, omega arith, omega arith)

-- the second octet doesn't fit
no_room : ReadsOctetText (exactly 1) (9 ∷ 10 ∷ []) (Err ShortBuf)
no_room = (
  9 ∷ [],
  record {
    rest = 10 ∷ [];
    front = (_, itself 9 _ (λ e. omega (arith, e)), refl);
    next = 10;
    after = [];
    goes_on = itself 10 [] (λ e. omega (arith, e));
  },
  omega arith,
  omega arith,
  omega arith,
)
