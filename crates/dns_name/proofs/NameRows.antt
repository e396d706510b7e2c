-- Computed examples: texts of names, and texts that are rejected.
use Rattle.std.proofs.Common.{[], ◌∷◌, ◌<◌, length, arith, refl, inl, inr, Err}
use Rattle.std.specs.Prelude.{codes}
use Rattle.std.specs.Char.{encode_utf8}
use Rattle.std.proofs.lemmas.List.Elements.{All-cons, All-nil}
use Rattle.dns_octets.specs.Room.{exactly}
use Rattle.dns_symbol.specs.declared.symbol.Symbol.TheVariants.{Char, SimpleEscape, DecimalEscape}
use Rattle.dns_symbol.specs.declared.error.SymbolCharsError.TheVariants.{ShortInput}
use Rattle.dns_symbol.proofs.Escapes.{escape_short}
use Rattle.dns_name.specs.Reading.{Names, ReadsAs, ReadsName}
use Rattle.dns_name.specs.declared.name.UncertainName.TheVariants.{Absolute, Relative}
use Rattle.dns_name.specs.declared.name.error.FromStrError.TheVariants.{Symbol, BinaryLabel, EmptyLabel}
use Rattle.dns_name.proofs.Naming.{named_none, spelling_none}

names_none : Names [] [] []
names_none = record { spellings = []; last = []; joined = refl; finished = tt; opened = spelling_none; some = All-nil (λ label. 0 < length label); fits = omega arith }

module _ (O : Type 0) where
  pub no_text : ReadsAs {O = O} [] (Relative [])
  no_text = ([], [], named_none, refl, λ _. refl)

  pub one_dot : ReadsAs {O = O} (codes ".") (Absolute ([] ∷ []))
  one_dot = inl (refl, refl)

  -- two labels, and no dot at the end
  pub relative : ReadsAs {O = O} (codes "w.c") (Relative (codes "w" ∷ codes "c" ∷ []))
  unfolding encode_utf8
  relative = (
    codes "w" ∷ [],
    codes "c",
    record {
      symbols = Char 119 ∷ Char 46 ∷ Char 99 ∷ [];
      readable = refl;
      spelled = refl;
      names = record {
        spellings = (Char 119 ∷ []) ∷ [];
        last = Char 99 ∷ [];
        joined = refl;
        finished = (record { octets_are = refl; no_dot = refl; no_binary = λ more e. cc; short = omega arith }, tt);
        opened = record { octets_are = refl; no_dot = refl; no_binary = λ more e. cc; short = omega arith };
        some = All-cons (λ label. 0 < length label) (codes "w") [] (omega arith) (All-nil (λ label. 0 < length label));
        fits = omega arith;
      };
    },
    refl,
    λ e. cc,
  )

  -- a decimal escape, and a dot at the end
  pub absolute : ReadsAs {O = O} (codes "w\\119w.") (Absolute (codes "www" ∷ [] ∷ []))
  unfolding encode_utf8
  absolute = inr (
    codes "www" ∷ [],
    record {
      symbols = Char 119 ∷ DecimalEscape 119 ∷ Char 119 ∷ Char 46 ∷ [];
      readable = refl;
      spelled = refl;
      names = record {
        spellings = (Char 119 ∷ DecimalEscape 119 ∷ Char 119 ∷ []) ∷ [];
        last = [];
        joined = refl;
        finished = (record { octets_are = refl; no_dot = refl; no_binary = λ more e. cc; short = omega arith }, tt);
        opened = spelling_none;
        some = All-cons (λ label. 0 < length label) (codes "www") [] (omega arith) (All-nil (λ label. 0 < length label));
        fits = omega arith;
      };
    },
    λ e. cc,
    refl,
  )

  -- a dot that ends no label
  pub escaped_dot : ReadsAs {O = O} (codes "a\\.b") (Relative (codes "a.b" ∷ []))
  unfolding encode_utf8
  escaped_dot = (
    [],
    codes "a.b",
    record {
      symbols = Char 97 ∷ SimpleEscape 46 ∷ Char 98 ∷ [];
      readable = refl;
      spelled = refl;
      names = record {
        spellings = [];
        last = Char 97 ∷ SimpleEscape 46 ∷ Char 98 ∷ [];
        joined = refl;
        finished = tt;
        opened = record { octets_are = refl; no_dot = refl; no_binary = λ more e. cc; short = omega arith };
        some = All-nil (λ label. 0 < length label);
        fits = omega arith;
      };
    },
    refl,
    λ e. cc,
  )

  -- a dot after no octet of a label
  two_dots : ReadsName {O = O} (exactly 255) (codes "..") (Err EmptyLabel)
  two_dots = (
    [],
    codes ".",
    record {
      symbols = [];
      readable = refl;
      spelled = refl;
      names = names_none;
    },
    λ _ e. cc,
    omega arith,
  )

  -- a label that begins with an escaped bracket
  binary_label : ReadsName {O = O} (exactly 255) (codes "\\[") (Err BinaryLabel)
  unfolding encode_utf8
  binary_label = ([], record { rest = []; named = record { symbols = []; readable = refl; spelled = refl; names = names_none }; readable = refl; no_dot = refl }, omega arith)

  -- an escape that is cut off, in a label
  cut_escape : ReadsName {O = O} (exactly 255) (codes "w\\01") (Err (Symbol ShortInput))
  unfolding encode_utf8
  cut_escape = (
    [],
    codes "w",
    codes "\\01",
    record {
      symbols = Char 119 ∷ [];
      readable = refl;
      spelled = refl;
      names = record {
        spellings = [];
        last = Char 119 ∷ [];
        joined = refl;
        finished = tt;
        opened = record { octets_are = refl; no_dot = refl; no_binary = λ more e. cc; short = omega arith };
        some = All-nil (λ label. 0 < length label);
        fits = omega arith;
      };
    },
    (omega arith, (escape_short (codes "\\01") refl (omega arith) (omega arith) (λ _. refl) (λ _. refl)).0, refl),
    omega arith,
  )
