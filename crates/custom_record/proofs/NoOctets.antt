-- Only the empty text is that of no octets, in each encoding.
use Rattle.std.proofs.Common.{ℕ, ◌≡◌, ◌<◌, ◌+◌, ◌*◌, ◌/◌, ◌-◌, ◌%◌, true, List, [], ◌∷◌, ◌++◌, length, map, replicate, refl, sym, ap, ◌∙◌, arith, Ok, Err, Result}
use Rattle.std.specs.Prelude.{IfErr, IsOkAnd, None}
use Rattle.dns_octets.specs.Room.{Room}
use Rattle.dns_symbol.specs.declared.symbol.Symbol.{Symbol}
use Rattle.dns_symbol.specs.Symbol.{char_of}
use Rattle.dns_symbol.specs.Text.{SymbolsOf}
use Rattle.dns_symbol.specs.Cause.{Cause}
use Rattle.dns_codec.specs.Base.{Base, base16, base64}
use Rattle.dns_codec.specs.Grammar.{HaveValues, IsEncodingOf, may_end_after}
use Rattle.dns_codec.proofs.Wholes.{length-whole}
use Rattle.dns_laws.specs.Encodings.{AnswersEncoding}

no_symbols : (token : List ℕ) (symbols : List Symbol) → SymbolsOf token symbols None → map char_of symbols ≡ [] → token ≡ []
no_symbols token [] read chars = read.spelled ∙ read.ends
no_symbols token (x ∷ xs) read chars = cc

module _ (b : Base) (ends : may_end_after b 1 ≡ true → ⊥) (wide : (n : ℕ) → (n + 2) * b.width / 8 ≡ 0 → ⊥)
    (padding : replicate {A = ℕ} ((b.unit - 0 % b.unit) % b.unit) 61 ≡ []) where
  no_text : (chars digits text : List ℕ) → HaveValues b chars digits → may_end_after b (length chars) ≡ true
      → text ≡ chars ++ replicate {A = ℕ} ((b.unit - length chars % b.unit) % b.unit) 61 → length digits * b.width / 8 ≡ 0 → text ≡ []
  no_text [] digits text valued count spelled none = spelled ∙ padding
  no_text (c ∷ []) digits text valued count spelled none = absurd (ends count)
  no_text (c ∷ d ∷ cs) [] text valued count spelled none = absurd valued
  no_text (c ∷ d ∷ cs) (p ∷ []) text valued count spelled none = absurd valued.1
  no_text (c ∷ d ∷ cs) (p ∷ q ∷ ps) text valued count spelled none =
      let many : length (p ∷ q ∷ ps) ≡ length ps + 2 = omega arith in
      absurd (wide (length ps) (ap (λ n. n * b.width / 8) (sym many) ∙ none))

  spelled_empty : (token octets : List ℕ) → IsEncodingOf b token octets → octets ≡ [] → token ≡ []
  spelled_empty token octets is none =
      let d = is.decodes in
      let short : length d.digits * b.width / 8 ≡ 0 = sym (length-whole b.width d.digits) ∙ ap length (sym d.value_is ∙ none) in
      let text : is.text ≡ [] = no_text d.chars d.digits is.text d.valued d.count d.spelled short in
      no_symbols token is.symbols is.read (is.chars ∙ ap (map Ok) text)

pub hex_empty : (token octets : List ℕ) → IsEncodingOf base16 token octets → octets ≡ [] → token ≡ []
hex_empty = spelled_empty base16 (λ e. cc e) (λ n none. omega (arith, none)) refl

pub base64_empty : (token octets : List ℕ) → IsEncodingOf base64 token octets → octets ≡ [] → token ≡ []
base64_empty = spelled_empty base64 (λ e. cc e) (λ n none. omega (arith, none)) refl

-- octets that are some aren't rejected
pub some_accepted : {E : Type 0} (P : E → Type 0) (xs : List ℕ) (r : Result (List ℕ) E) → (xs ≡ [] → ⊥) → (0 < length xs → IsOkAnd r (λ s. s ≡ xs)) → IfErr r P
some_accepted P [] r some made = absurd (some refl)
some_accepted P (x ∷ xs) (Ok s) some made = tt
some_accepted P (x ∷ xs) (Err e) some made = absurd (made (omega arith))

-- an error is the same, whatever octets there were to be
pub error_same : {O E : Type 0} (b : Base) (cause : E → Cause) (value : O → List ℕ) (room : Room) (text : List ℕ) (e : E)
    → AnswersEncoding b cause value room text (Err e) → AnswersEncoding {O = List ℕ} b cause (λ s. s) room text (Err e)
error_same b cause value room text e h = record { symbols = h.symbols; error = h.error; read = h.read; made = h.made; found = h.found; reads = h.reads; answer = h.answer }
