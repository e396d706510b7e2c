-- A text that has been parsed in part.
use Rattle.std.proofs.Common.{◌≡◌, ℕ, true, List, [], ◌∷◌, ◌++◌, length, map, refl, ap, ◌∙◌, arith, Option, Some, None, Ok}
use Rattle.std.specs.List.{flat_map, list_all}
use Rattle.std.specs.Str.{IsUtf8}
use Rattle.std.proofs.lemmas.Grind.{common_steps, flat_map-append}
use Rattle.std.proofs.lemmas.List.{map-append}
use Rattle.std.proofs.lemmas.List.Folds.{list_all-append}
use Rattle.dns_symbol.specs.Symbol.{bytes, spell, is_readable, octet_of}
use Rattle.dns_symbol.specs.Index.{BeginsWith}
use Rattle.dns_symbol.specs.Text.{SymbolsOf, EndsAs}
use Rattle.dns_symbol.specs.declared.symbol.Symbol.{Symbol}
use Rattle.dns_symbol.specs.declared.error.SymbolCharsError.{SymbolCharsError}
use Rattle.dns_symbol.proofs.Texts.{symbols_exist, rest_utf8}
use Rattle.dns_symbol.proofs.Unique.{symbols_more}
use Rattle.dns_charstr.specs.Reading.{HasOctets, BreaksOff, NextSymbolIs}

-- the symbols before the rest have these octets
pub record HasRead (text octets rest : List ℕ) : Type 0 where
  pub front : List Symbol
  pub readable : list_all is_readable front ≡ true
  pub octets_are : map octet_of front ≡ map Ok octets
  pub spelled : text ≡ flat_map bytes front ++ rest
  pub characters : IsUtf8 rest

pub read_none : (text : List ℕ) → IsUtf8 text → HasRead text [] text
read_none text u = record { front = []; readable = refl; octets_are = refl; spelled = refl; characters = u }

-- one symbol more
pub read_more : (text octets rest after : List ℕ) (x : Symbol) (octet : ℕ) → HasRead text octets rest → BeginsWith rest x after → octet_of x ≡ Ok octet
    → HasRead text (octets ++ octet ∷ []) after
read_more text octets rest after x octet read begins is = record {
  front = read.front ++ x ∷ [];
  readable = list_all-append is_readable read.front (x ∷ []) ∙ rw (read.readable, begins.readable) refl;
  octets_are = simp map-append (cc);
  spelled = read.spelled ∙ ap (λ t. flat_map bytes read.front ++ t) begins.spelled ∙ joined;
  characters = rest_utf8 (spell x) rest after read.characters begins.spelled;
}
  where
    joined : flat_map bytes read.front ++ (bytes x ++ after) ≡ flat_map bytes (read.front ++ x ∷ []) ++ after
    joined = Prim.grind (arith, common_steps, flat_map-append)

-- the rest's symbols are the text's last ones
pub read_on : (text octets rest : List ℕ) (symbols : List Symbol) (e : Option SymbolCharsError) → (read : HasRead text octets rest) → SymbolsOf rest symbols e
    → SymbolsOf text (read.front ++ symbols) e
read_on text octets rest symbols e read more = record {
  rest = more.rest;
  readable = list_all-append is_readable read.front symbols ∙ rw (read.readable, more.readable) refl;
  spelled = read.spelled ∙ ap (λ t. flat_map bytes read.front ++ t) more.spelled ∙ joined;
  ends = more.ends;
}
  where
    joined : flat_map bytes read.front ++ (flat_map bytes symbols ++ more.rest) ≡ flat_map bytes (read.front ++ symbols) ++ more.rest
    joined = Prim.grind (arith, common_steps, flat_map-append)

ends_here : (text octets rest : List ℕ) (e : Option SymbolCharsError) → (read : HasRead text octets rest) → EndsAs rest e → SymbolsOf text read.front e
ends_here text octets rest e read h =
    record { rest = rest; readable = read.readable; spelled = read.spelled; ends = h }

-- at the end of the text
pub read_all : (text octets rest : List ℕ) → HasRead text octets rest → rest ≡ [] → HasOctets text octets
read_all text octets rest read h =
    record { symbols = read.front; read = ends_here text octets rest None read h; octets_are = read.octets_are }

-- if no symbol follows
pub read_broken : (text octets rest : List ℕ) (e : SymbolCharsError) → HasRead text octets rest → EndsAs rest (Some e) → BreaksOff text octets e
read_broken text octets rest e read h =
    record { symbols = read.front; read = ends_here text octets rest (Some e) read h; octets_are = read.octets_are }

-- if one follows
pub read_next : (text octets rest after : List ℕ) (x : Symbol) → HasRead text octets rest → BeginsWith rest x after → NextSymbolIs text octets x
read_next text octets rest after x read begins =
    let more = symbols_exist (length after) after (omega arith) (rest_utf8 (spell x) rest after read.characters begins.spelled) in
    record {
      front = read.front;
      octets_are = read.octets_are;
      others = more.0;
      error = more.1;
      read = read_on text octets rest (x ∷ more.0) more.1 read (symbols_more rest after x more.0 more.1 begins more.2);
    }
