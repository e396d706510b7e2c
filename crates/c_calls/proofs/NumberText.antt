-- A number's text that has been parsed in part.
use Rattle.std.proofs.Common.{◌≡◌, ◌≤◌, ◌+◌, ℕ, List, [], ◌∷◌, ◌++◌, length, drop, refl, sym, ap, subst, ◌∙◌, arith, Some, None, Ok, Err, inr}
use Rattle.std.specs.List.{flat_map}
use Rattle.std.proofs.lemmas.Grind.{common_steps, flat_map-append}
use Rattle.std.proofs.lemmas.List.Folds.{list_all-append}
use Rattle.dns_symbol.specs.Symbol.{bytes, is_readable}
use Rattle.dns_symbol.specs.Index.{ReadsAt}
use Rattle.dns_symbol.specs.declared.symbol.Symbol.{Symbol}
use Rattle.dns_symbol.specs.declared.error.SymbolOctetsError.{SymbolOctetsError}
use Rattle.dns_scan.specs.Numbers.{IsNumber}
use Rattle.dns_scan.specs.Reads.{NumberReads}
use Rattle.dns_scan.proofs.Numbers.{number_none, number_more}
use Rattle.c_calls.specs.Numbers.{AppendsDigit, HasSymbolsBefore, HasNumberBefore, ReadsTextAsNumber}
use Rattle.c_calls.specs.Strings.{refusal_of}
use Rattle.c_calls.specs.declared.outcome.Fault.{Fault}
use Rattle.c_calls.proofs.Leading.{nothing_left}

pub number_before_none : (most : ℕ) (text : List ℕ) → HasNumberBefore most text 0 0
number_before_none most text =
    record { symbols = []; before = record { readable = refl; spelled = refl; place_is = refl }; number = number_none most }

-- one more symbol
symbol_more : (text : List ℕ) (symbols : List Symbol) (place after : ℕ) (x : Symbol) → HasSymbolsBefore text symbols place
    → ReadsAt text place (Ok (Some (x, after))) → HasSymbolsBefore text (symbols ++ x ∷ []) after
symbol_more text symbols place after x read next = record {
  readable = list_all-append is_readable symbols (x ∷ []) ∙ rw (read.readable, next.0.readable) refl;
  spelled = read.spelled ∙ ap (λ t. flat_map bytes symbols ++ t) next.0.spelled ∙ joined;
  place_is = next.1 ∙ ap (λ n. n + length (bytes x)) read.place_is ∙ counted;
}
  where
    joined : flat_map bytes symbols ++ (bytes x ++ drop after text) ≡ flat_map bytes (symbols ++ x ∷ []) ++ drop after text
    joined = Prim.grind (arith, common_steps, flat_map-append)

    counted : length (flat_map bytes symbols) + length (bytes x) ≡ length (flat_map bytes (symbols ++ x ∷ []))
    counted = Prim.grind (arith, common_steps, flat_map-append)

pub number_before_more : (most : ℕ) (text : List ℕ) (v w place after : ℕ) (x : Symbol) → HasNumberBefore most text v place
    → ReadsAt text place (Ok (Some (x, after))) → AppendsDigit most v x (Ok w) → HasNumberBefore most text w after
number_before_more most text v w place after x read next adds = record {
  symbols = read.symbols ++ x ∷ [];
  before = symbol_more text read.symbols place after x read.before next;
  number = subst (λ n. IsNumber most (read.symbols ++ x ∷ []) n) (sym adds.2)
      (number_more most read.symbols x v adds.0 read.number adds.1 (subst (λ n. n ≤ most) adds.2 adds.3));
}

-- at the end of the text
pub number_before_end : (most : ℕ) (text : List ℕ) (v place : ℕ) → HasNumberBefore most text v place → length text ≤ place → NumberReads most text (Ok v)
number_before_end most text v place read h = record {
  symbols = read.symbols;
  error = None;
  read = record { rest = drop place text; readable = read.before.readable; spelled = read.before.spelled; ends = nothing_left text place h };
  reads = (read.number, refl);
}

-- no symbol follows
pub number_refused : (most : ℕ) (text : List ℕ) (v place : ℕ) (fault : Fault) → HasNumberBefore most text v place
    → (e : SymbolOctetsError) × ReadsAt text place (Err e) × (fault ≡ record { refusal = refusal_of e; place = place }) → ReadsTextAsNumber most text (Err fault)
number_refused most text v place fault read r = subst (λ f. ReadsTextAsNumber most text (Err f)) (sym r.2) (v, read, inr (r.0, r.1, refl))
