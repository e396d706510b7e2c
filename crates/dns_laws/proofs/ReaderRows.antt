-- Computed examples: tokens that one parser accepts, and the other rejects or parses differently.
use Rattle.std.proofs.Common.{ℕ, ◌≡◌, ◌^◌, ◌<◌, true, false, List, [], ◌∷◌, length, arith, refl, ap, sym, ◌∙◌, inl, inr, Some, None, Ok, Err, get_or}
use Rattle.std.specs.Prelude.{codes}
use Rattle.std.specs.Char.{encode_utf8}
use Rattle.std.proofs.lemmas.List.Elements.{All-nil, All-cons}
use Rattle.dns_octets.specs.Room.{exactly}
use Rattle.dns_symbol.specs.declared.symbol.Symbol.TheVariants.{Char, SimpleEscape}
use Rattle.dns_symbol.specs.declared.error.BadSymbol.TheVariants.{NonAscii}
use Rattle.dns_charstr.specs.Reading.{ReadsText}
use Rattle.dns_charstr.specs.declared.charstr.error.FromStrError.TheVariants.{Presentation}
use Rattle.dns_charstr.specs.declared.charstr.error.PresentationError.TheVariants.{BadSymbol}
use Rattle.dns_codec.specs.Bits.{bits, joined, digits_from_bits, filled, digits, whole}
use Rattle.dns_codec.specs.Base.{base16, base64, digit_char, value, padded, encoded}
use Rattle.dns_codec.specs.Grammar.{IsEncodingOf}
use Rattle.rdata_tokens.specs.Spelled.{SpellsDigits}
use Rattle.rdata_tokens.proofs.Spelling.{spelled_decodes}
use Rattle.rdata_fields.specs.Words.{NumberReason}
use Rattle.rdata_values.specs.declared.error.ErrorKind.TheVariants.{ExpectedNumber, EmptyLabel}
use Rattle.dns_name.specs.Reading.{Names, ReadsAs, ReadsName}
use Rattle.dns_name.specs.declared.name.UncertainName.TheVariants.{Relative}
use Rattle.dns_name.specs.declared.name.error.FromStrError.TheVariants.{BadOctet, BinaryLabel}
use Rattle.dns_name.proofs.Naming.{named_none, spelling_none}
use Rattle.dns_scan.specs.Reads.{NumberReads}
use Rattle.rdata_tokens.specs.NameSpelling.{IsLabelPart, SpellsLabels, WhyNoName, origin_alone, absolute}
use Rattle.rdata_tokens.specs.Spelling.{SpellsOctetList}
use Rattle.dns_laws.proofs.ReaderDigits.{digits_same, decoded_plain}
use Rattle.dns_laws.proofs.ReaderNumbers.{nothing_read}

-- ---- octets: a tab, and an octet above 126

tab_refused : ReadsText (exactly 255) (9 ∷ []) (Err (Presentation (BadSymbol NonAscii)))
unfolding encode_utf8
tab_refused = (
  [],
  Char 9,
  record { front = []; octets_are = refl; others = []; error = None; read = record { rest = []; readable = refl; spelled = refl; ends = refl } },
  omega arith,
  omega arith,
  refl,
)

tab_spelled : SpellsOctetList (9 ∷ []) (9 ∷ [])
tab_spelled = record { symbols = Char 9 ∷ []; each = refl; whole = refl; octets_are = refl }

high_refused : ReadsText (exactly 255) (0xC3 ∷ 0xB6 ∷ []) (Err (Presentation (BadSymbol NonAscii)))
unfolding encode_utf8
high_refused = (
  [],
  Char 0xF6,
  record { front = []; octets_are = refl; others = []; error = None; read = record { rest = []; readable = refl; spelled = refl; ends = refl } },
  omega arith,
  omega arith,
  refl,
)

high_spelled : SpellsOctetList (0xC3 ∷ 0xB6 ∷ []) (0xC3 ∷ 0xB6 ∷ [])
high_spelled = record { symbols = Char 0xC3 ∷ Char 0xB6 ∷ []; each = refl; whole = refl; octets_are = refl }

no_names : Names [] [] []
no_names = record { spellings = []; last = []; joined = refl; finished = tt; opened = spelling_none; some = All-nil (λ label. 0 < length label); fits = omega arith }

-- ---- names: `@` is a label for scanners, and the origin in record data

module _ (O : Type 0) where
  at_read : ReadsAs {O = O} (codes "@") (Relative (codes "@" ∷ []))
  unfolding encode_utf8
  at_read = (
    [],
    codes "@",
    record {
      symbols = Char 64 ∷ [];
      readable = refl;
      spelled = refl;
      names = record {
        spellings = [];
        last = Char 64 ∷ [];
        joined = refl;
        finished = tt;
        opened = record { octets_are = refl; no_dot = refl; no_binary = λ more e. cc; short = omega arith };
        some = All-nil (λ label. 0 < length label);
        fits = omega arith;
      };
    },
    refl,
    λ e. cc,
  )

  -- the empty text is the empty relative name, and isn't a name in RDATA
  nothing_named : ReadsAs {O = O} [] (Relative [])
  nothing_named = ([], [], named_none, refl, λ _. refl)

  -- a label that begins with an escaped bracket
  bracket_refused : ReadsName {O = O} (exactly 255) (codes "\\[.") (Err BinaryLabel)
  unfolding encode_utf8
  bracket_refused = ([], record { rest = codes "."; named = record { symbols = []; readable = refl; spelled = refl; names = no_names }; readable = refl; no_dot = refl }, omega arith)

  -- an octet above 126
  high_label_refused : ReadsName {O = O} (exactly 255) (0xC3 ∷ 0xB6 ∷ 46 ∷ []) (Err BadOctet)
  unfolding encode_utf8
  high_label_refused = (
    [],
    [],
    Char 0xF6,
    NonAscii,
    record { rest = codes "."; named = record { symbols = []; readable = refl; spelled = refl; names = no_names }; readable = refl; no_dot = refl },
    refl,
    omega arith,
  )

at_spelled : (origin : List (List ℕ)) → SpellsLabels (Some origin) (codes "@") origin
at_spelled origin = origin_alone refl refl

nothing_is_no_name : WhyNoName None [] EmptyLabel
nothing_is_no_name = (
  record { parts = []; rest = []; front = record { each = All-nil IsLabelPart; whole = refl }; fits = omega arith; no_end = λ _. refl; refused = inl refl },
  λ e. cc,
)

bracket_spelled : SpellsLabels None (codes "\\[.") (codes "[" ∷ [] ∷ [])
bracket_spelled = absolute ((SimpleEscape 91 ∷ []) ∷ []) (omega arith) (record {
  front = record { each = All-cons IsLabelPart (SimpleEscape 91 ∷ []) [] (record { each = refl; some = omega arith; short = omega arith }) (All-nil IsLabelPart); whole = refl };
  last_each = refl;
  last_short = omega arith;
}) refl

high_label_spelled : SpellsLabels None (0xC3 ∷ 0xB6 ∷ 46 ∷ []) ((0xC3 ∷ 0xB6 ∷ []) ∷ [] ∷ [])
high_label_spelled = absolute ((Char 0xC3 ∷ Char 0xB6 ∷ []) ∷ []) (omega arith) (record {
  front = record { each = All-cons IsLabelPart (Char 0xC3 ∷ Char 0xB6 ∷ []) [] (record { each = refl; some = omega arith; short = omega arith }) (All-nil IsLabelPart); whole = refl };
  last_each = refl;
  last_short = omega arith;
}) refl

-- ---- numbers: no digit is 0 for scanners

nothing_is_zero : NumberReads 255 [] (Ok 0)
nothing_is_zero = nothing_read 255

nothing_is_no_number : NumberReason (2 ^ 8) [] ExpectedNumber
nothing_is_no_number = inl (refl, λ h. omega (arith, h.0))

-- ---- digits: spare bits that aren't zero, and escapes

spare_read : IsEncodingOf base64 (codes "AR==") (1 ∷ [])
unfolding encode_utf8 value bits joined digits_from_bits whole
spare_read = record {
  symbols = Char 65 ∷ Char 82 ∷ Char 61 ∷ Char 61 ∷ [];
  read = record { rest = []; readable = refl; spelled = refl; ends = refl };
  text = codes "AR==";
  chars = refl;
  decodes = record { chars = codes "AR"; digits = 0 ∷ 17 ∷ []; valued = (refl, (refl, tt)); count = refl; spelled = refl; value_is = refl };
}

spare_is_none : (octets : List ℕ) → SpellsDigits base64 (codes "AR==") octets → ⊥
unfolding bits joined digits_from_bits filled digits digit_char padded encoded
spare_is_none octets h =
    let same : 1 ∷ [] ≡ octets = digits_same base64 (inr (inr refl)) (codes "AR==") (1 ∷ []) octets spare_read h in
    let printed : codes "AR==" ≡ codes "AQ==" = h.text_is ∙ ap (encoded base64) (sym same) in
    let bad : 82 ≡ 81 = ap (λ t. get_or t 1 0) printed in
    absurd (omega (arith, bad))

escape_read : IsEncodingOf base16 (codes "\\F\\F") (255 ∷ [])
unfolding encode_utf8 value bits joined digits_from_bits whole
escape_read = record {
  symbols = SimpleEscape 70 ∷ SimpleEscape 70 ∷ [];
  read = record { rest = []; readable = refl; spelled = refl; ends = refl };
  text = codes "FF";
  chars = refl;
  decodes = record { chars = codes "FF"; digits = 15 ∷ 15 ∷ []; valued = (refl, (refl, tt)); count = refl; spelled = refl; value_is = refl };
}

escape_is_none : (octets : List ℕ) → SpellsDigits base16 (codes "\\F\\F") octets → ⊥
escape_is_none octets h =
    let bad : false ≡ true = decoded_plain base16 (inl refl) (codes "\\F\\F") octets (spelled_decodes base16 (inl refl) (codes "\\F\\F") octets h) in
    cc bad
