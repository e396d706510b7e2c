-- The symbols before an offset.
use Rattle.std.proofs.Common.{◌≡◌, ◌≤◌, ℕ, ◌+◌, List, [], ◌∷◌, ◌++◌, length, drop, refl, ap, ◌∙◌, arith, Some, Ok}
use Rattle.std.specs.List.{flat_map}
use Rattle.std.proofs.lemmas.Grind.{common_steps, flat_map-append}
use Rattle.std.proofs.lemmas.List.{map-append}
use Rattle.std.proofs.lemmas.List.Folds.{list_all-append}
use Rattle.dns_symbol.specs.Symbol.{bytes, is_readable, octet_of}
use Rattle.dns_symbol.specs.Index.{ReadsAt}
use Rattle.dns_symbol.specs.declared.symbol.Symbol.{Symbol}
use Rattle.dns_charstr.specs.Reading.{HasOctets}
use Rattle.c_calls.specs.Strings.{HasOctetsBefore}

pub before_none : (text : List ℕ) → HasOctetsBefore text [] 0
before_none text = record { symbols = []; readable = refl; octets_are = refl; spelled = refl; place_is = refl }

-- one more symbol
pub before_more : (text octets : List ℕ) (place after octet : ℕ) (x : Symbol) → HasOctetsBefore text octets place → ReadsAt text place (Ok (Some (x, after)))
    → octet_of x ≡ Ok octet → HasOctetsBefore text (octets ++ octet ∷ []) after
before_more text octets place after octet x read next is = record {
  symbols = read.symbols ++ x ∷ [];
  readable = list_all-append is_readable read.symbols (x ∷ []) ∙ rw (read.readable, next.0.readable) refl;
  octets_are = simp map-append (cc);
  spelled = read.spelled ∙ ap (λ t. flat_map bytes read.symbols ++ t) next.0.spelled ∙ joined;
  place_is = next.1 ∙ ap (λ n. n + length (bytes x)) read.place_is ∙ counted;
}
  where
    joined : flat_map bytes read.symbols ++ (bytes x ++ drop after text) ≡ flat_map bytes (read.symbols ++ x ∷ []) ++ drop after text
    joined = Prim.grind (arith, common_steps, flat_map-append)

    counted : length (flat_map bytes read.symbols) + length (bytes x) ≡ length (flat_map bytes (read.symbols ++ x ∷ []))
    counted = Prim.grind (arith, common_steps, flat_map-append)

pub nothing_left : (text : List ℕ) (place : ℕ) → length text ≤ place → drop place text ≡ []
nothing_left text place h = Prim.grind (arith, common_steps)

-- at the end of the text
pub before_end : (text octets : List ℕ) (place : ℕ) → HasOctetsBefore text octets place → length text ≤ place → HasOctets text octets
before_end text octets place read h = record {
  symbols = read.symbols;
  read = record { rest = drop place text; readable = read.readable; spelled = read.spelled; ends = nothing_left text place h };
  octets_are = read.octets_are;
}
