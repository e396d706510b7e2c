-- The results of the converters for the texts of octets.
use Rattle.std.proofs.Common.{inl, inr, ℕ, ◌≡◌, ◌<◌, ◌+◌, ◌==◌, List, [], ◌∷◌, ◌++◌}
use Rattle.std.proofs.Common.{length, map, refl, sym, ap, subst, ◌∙◌, arith, append-nil, append_assoc, Option, Some, None, Result, Ok, Err, Bool, true, false}
use Rattle.std.specs.Prelude.{nat_lt, not, ◌&&◌}
use Rattle.std.specs.List.{list_all}
use Rattle.std.proofs.lemmas.Bool.{and_parts}
use Rattle.std.proofs.lemmas.Bool.Decides.{nat_tests}
use Rattle.dns_symbol.specs.declared.symbol.Symbol.{Symbol}
use Rattle.dns_symbol.specs.declared.symbol.Symbol.TheVariants.{Char}
use Rattle.dns_symbol.specs.Symbol.{is_readable}
use Rattle.dns_symbol.specs.Text.{SymbolsOf}
use Rattle.dns_symbol.proofs.Unique.{symbols_same}
use Rattle.dns_codec.specs.Base.{Base, encoded, IsEncoding}
use Rattle.dns_codec.specs.Group.{Group, fresh}
use Rattle.dns_codec.specs.Converting.{convert, convert_tail}
use Rattle.dns_codec.specs.Conversions.{then_answer, converts, Agrees}
use Rattle.dns_codec.specs.Grammar.{Decodes}
use Rattle.dns_codec.specs.Outcome.{refusal}
use Rattle.dns_codec.proofs.Conversions.{agrees}
use Rattle.dns_codec.proofs.Each.{once}
use Rattle.dns_codec.proofs.Refusals.{reads}
use Rattle.dns_codec.specs.declared.error.DecodeError.{DecodeError}
use Rattle.dns_symbol.specs.Cause.{Cause, custom_text}
use Rattle.dns_scan.specs.Tokens.{Token}
use Rattle.dns_zone.proofs.EntryWords.{ascii_bytes, encoded_all}
use Rattle.dns_zone.specs.EntryCodecs.{Codec, then_made, converted_symbols, ConvertsTo, codec_of}

-- the symbols of plain characters
abbrev pub plain_symbols : List ℕ → List Symbol
plain_symbols = map (λ c. Char c)

-- octets after those built, or an error's text
abbrev pub onto : List ℕ → Result (List ℕ) (List ℕ) → Result (List ℕ) Cause
onto built (Ok octets) = Ok (built ++ octets)
onto built (Err text) = Err (custom_text text)

ended : (built : List ℕ) (a : Result (List ℕ) (List ℕ)) → then_made a (λ o. Ok (built ++ o)) ≡ onto built a
ended built (Ok o) = refl
ended built (Err text) = refl

joined : (built : List ℕ) (a c : Result (List ℕ) (List ℕ)) (go : List ℕ → Result (List ℕ) Cause) → ((o : List ℕ) → go o ≡ onto (built ++ o) c) → then_made a go ≡ onto built (then_answer a c)
joined built (Ok o) (Ok ys) go same = same o ∙ ap (λ l. Ok l) (append_assoc built o ys)
joined built (Ok o) (Err text) go same = same o
joined built (Err text) c go same = refl

-- a run over symbols, in both ways of saying it
pub base_run : (b : Base) (xs : List Symbol) (g : Group) (s : Bool) (built : List ℕ) → converted_symbols (codec_of b) (g, s) built xs None ≡ onto built (converts (convert b) (convert_tail b) g s xs)
base_run b [] g s built = ended built _
base_run b (x ∷ xs) g s built = joined built _ _ _ (λ o. base_run b xs (convert b g s x).group (convert b g s x).failed (built ++ o))

-- if the run agrees with decoding, a text of the grammar has its octets
pub by_agreement : (b : Base) (text octets : List ℕ) (refusal : Option DecodeError) (c : Result (List ℕ) (List ℕ))
    → ((xs ys : List ℕ) → Decodes b text xs → Decodes b text ys → xs ≡ ys) → Decodes b text octets → refusal ≡ None → Agrees b text refusal c → onto [] c ≡ Ok octets
by_agreement b text octets refusal (Ok ys) once d none agrees = ap (λ l. Ok l) (once ys octets agrees.1 d)
by_agreement b text octets None (Err reason) once d none agrees = cc
by_agreement b text octets (Some e) (Err reason) once d none agrees = cc

-- and only such a text has octets
pub from_agreement : (b : Base) (text octets : List ℕ) (refusal : Option DecodeError) (c : Result (List ℕ) (List ℕ)) → Agrees b text refusal c → onto [] c ≡ Ok octets → Decodes b text octets
from_agreement b text octets refusal (Ok ys) agrees is = let same : ys ≡ octets = cc in subst (Decodes b text) same agrees.1
from_agreement b text octets refusal (Err reason) agrees is = cc

-- an ASCII character other than the backslash
abbrev pub is_plain : ℕ → Bool
is_plain c = nat_lt c 128 && not (c == 92)

pub plain_alphabet : (b : Base) → IsEncoding b → list_all is_plain b.alphabet ≡ true
plain_alphabet b (inl is) = ap (λ (x : Base). list_all is_plain x.alphabet) is
plain_alphabet b (inr (inl is)) = ap (λ (x : Base). list_all is_plain x.alphabet) is
plain_alphabet b (inr (inr is)) = ap (λ (x : Base). list_all is_plain x.alphabet) is

pub encoded_plain : (b : Base) (octets : List ℕ) → list_all is_plain b.alphabet ≡ true → list_all is_plain (encoded b octets) ≡ true
encoded_plain b octets all = encoded_all is_plain b octets all refl refl

-- the symbols of a plain text are its characters
plain_readable : (text : List ℕ) → list_all is_plain text ≡ true → list_all is_readable (plain_symbols text) ≡ true
plain_readable [] all = refl
plain_readable (c ∷ cs) all =
    let parts = and_parts (is_plain c) (list_all is_plain cs) all in
    rw (one c parts.0, plain_readable cs parts.1) refl
  where
    one : (c : ℕ) → is_plain c ≡ true → is_readable (Char c) ≡ true
    one c h = grind (arith, nat_tests)

plain_low : (c : ℕ) → is_plain c ≡ true → c < 128
plain_low c h = grind (arith, nat_tests)

pub plain_read : (text : List ℕ) → list_all is_plain text ≡ true → SymbolsOf text (plain_symbols text) None
plain_read text all = record { rest = []; readable = plain_readable text all; spelled = ascii_bytes is_plain plain_low text all ∙ sym (append-nil _); ends = refl }

-- a plain text converts to what its characters do
pub converts_plain : (codec : Codec) (text : Token) (r : Result (List ℕ) Cause) → list_all is_plain text ≡ true → ConvertsTo codec text r → converted_symbols codec codec.start [] (plain_symbols text) None ≡ r
converts_plain codec text r all h =
    let same = symbols_same text h.0 (plain_symbols text) h.1 None h.2 (plain_read text all) in
    (λ i. converted_symbols codec codec.start [] (sym same.0 i) (sym same.1 i)) ∙ h.3

-- a text of the grammar has its octets, and only such a text does
module _ (b : Base) (known : IsEncoding b) where
  pub base_text : (text octets : List ℕ) → Decodes b text octets → converted_symbols (codec_of b) (fresh, false) [] (plain_symbols text) None ≡ Ok octets
  base_text text octets d =
      let size = length text + 3 + length octets in
      base_run b (plain_symbols text) fresh false [] ∙ by_agreement b text octets (refusal b size text) _ (once b known text) d
      (reads b known text octets size d (omega arith)).0 (agrees b known text size (omega arith))

  pub base_only : (text octets : List ℕ) → converted_symbols (codec_of b) (fresh, false) [] (plain_symbols text) None ≡ Ok octets → Decodes b text octets
  base_only text octets e =
      from_agreement b text octets (refusal b (length text + 3) text) _ (agrees b known text (length text + 3) (omega arith)) (sym (base_run b (plain_symbols text) fresh false []) ∙ e)
