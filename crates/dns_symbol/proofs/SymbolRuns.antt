-- An iterator over symbols yields the symbols of its source's characters.
use Rattle.std.proofs.Common.{◌≡◌, ℕ, true, List, [], ◌∷◌, ◌++◌, refl, sym, ap, subst, ◌∙◌, append_assoc, append-nil, Option, Some, None, Result, Ok, Err}
use Rattle.std.specs.Prelude.{encode_utf8_all}
use Rattle.std.specs.List.{flat_map, list_all}
use Rattle.std.specs.Iterator.{Yields, YieldsThen}
use Rattle.std.specs.Str.{IsUtf8}
use Rattle.std.specs.Str.Iter.{chars_steps, chars_rest}
use Rattle.std.specs.declared.str.Chars.{Chars}
use Rattle.std.proofs.lemmas.Str.{encodes-append}
use Rattle.dns_symbol.specs.Symbol.{spell, bytes, is_readable}
use Rattle.dns_symbol.specs.Text.{SymbolsOf, EndsAs}
use Rattle.dns_symbol.specs.Symbols.{YieldsSymbol, HasSymbols, answer_of, error_of}
use Rattle.dns_symbol.specs.declared.symbol.Symbol.{Symbol}
use Rattle.dns_symbol.specs.declared.error.SymbolCharsError.{SymbolCharsError}
use Rattle.dns_symbol.specs.declared.error.SymbolCharsError.TheVariants.{BadEscape, ShortInput}
use Rattle.dns_symbol.proofs.Endings.{cut_ends, cut_ascii, refused_ends}
use Rattle.dns_symbol.proofs.Agree.{Chars-Yields, Chars-all}
use Rattle.dns_symbol.proofs.Texts.{rest_utf8}

-- the bytes of symbols, one by one
pub spelled_bytes : (symbols : List Symbol) → encode_utf8_all (flat_map spell symbols) ≡ flat_map bytes symbols
spelled_bytes [] = refl
spelled_bytes (x ∷ xs) = encodes-append (spell x) (flat_map spell xs) ∙ ap (λ t. bytes x ++ t) (spelled_bytes xs)

-- symbols, and characters after them that begin with none
pub symbols_before : (symbols : List Symbol) (rest : List ℕ) (e : Option SymbolCharsError) → list_all is_readable symbols ≡ true → EndsAs (encode_utf8_all rest) e
    → SymbolsOf (encode_utf8_all (flat_map spell symbols ++ rest)) symbols e
symbols_before symbols rest e are ends = record {
  rest = encode_utf8_all rest;
  readable = are;
  spelled = encodes-append (flat_map spell symbols) rest ∙ ap (λ t. t ++ encode_utf8_all rest) (spelled_bytes symbols);
  ends = ends;
}

module _ {S : Type 0} (steps : S → Option ℕ → S → Type 0) where
  joined : (xs ys : List ℕ) (s t u : S) → Yields steps s xs t → Yields steps t ys u → Yields steps s (xs ++ ys) u
  joined [] ys s t u p q = subst (λ v. Yields steps v ys u) (sym p) q
  joined (x ∷ xs) ys s t u p q = (p.0, p.1, joined xs ys p.0 t u p.2 q)

  -- readable symbols were consumed from s, without an error
  abbrev Taken : List Symbol → S → Result S SymbolCharsError → Type 0
  Taken symbols s u = (t : S) × (u ≡ Ok t) × (list_all is_readable symbols ≡ true) × Yields steps s (flat_map spell symbols) t

  taken_first : (x : Symbol) (xs : List Symbol) (s : S) (u j : Result S SymbolCharsError) → YieldsSymbol steps (Ok s) (Some x) j → ((t : S) → j ≡ Ok t → Taken xs t u) → Taken (x ∷ xs) s u
  taken_first x xs s u (Ok j) g others =
      let m = others j refl in
      (m.0, m.1, rw (g.0, m.2) refl, joined (spell x) (flat_map spell xs) s j m.0 g.1 m.3)
  taken_first x xs s u (Err e) g others = absurd g

  -- the yielded symbols are readable, and their spellings were consumed
  pub taken_of : (symbols : List Symbol) (s : S) (u : Result S SymbolCharsError) → Yields (YieldsSymbol steps) (Ok s) symbols u → Taken symbols s u
  taken_of [] s u h = (s, sym h, refl, refl)
  taken_of (x ∷ xs) s u h = taken_first x xs s u h.0 h.1 (λ t is. taken_of xs t u (subst (λ j. Yields (YieldsSymbol steps) j xs u) is h.2))

  last_of : (symbols : List Symbol) (s t : S) (u : Result S SymbolCharsError) → list_all is_readable symbols ≡ true → Yields steps s (flat_map spell symbols) t
      → YieldsSymbol steps (Ok t) None u → HasSymbols steps s symbols (error_of u)
  last_of symbols s t (Ok v) are front h = (
    flat_map spell symbols,
    (v, (t, front, h)),
    record { rest = []; readable = are; spelled = spelled_bytes symbols ∙ sym (append-nil _); ends = refl },
  )
  last_of symbols s t (Err ShortInput) are front h =
      let cut = h.1.0 in (
        flat_map spell symbols ++ cut,
        (h.0, (h.1.2.0, joined (flat_map spell symbols) cut s t h.1.2.0 front h.1.2.1, h.1.2.2)),
        symbols_before symbols cut (Some ShortInput) are (subst (λ l. EndsAs l (Some ShortInput)) (sym (cut_ascii cut h.1.1)) (cut_ends cut h.1.1)),
      )
  last_of symbols s t (Err BadEscape) are front h =
      let refused = h.1.0 in (
        flat_map spell symbols ++ refused,
        h.0,
        joined (flat_map spell symbols) refused s t h.0 front h.1.2,
        λ more. subst (λ l. SymbolsOf (encode_utf8_all l) symbols (Some BadEscape)) (sym (append_assoc (flat_map spell symbols) refused more))
            (symbols_before symbols (refused ++ more) (Some BadEscape) are (refused_ends refused more h.1.1)),
      )

  -- all that calls yielded, up to the end
  pub source_symbols : (s : S) (symbols : List Symbol) (u : Result S SymbolCharsError) → YieldsThen (YieldsSymbol steps) (Ok s) symbols None u
      → HasSymbols steps s symbols (error_of u)
  source_symbols s symbols u h =
      let m = taken_of symbols s h.0 h.1 in
      last_of symbols s m.0 u m.2 m.3 (subst (λ j. YieldsSymbol steps j None u) m.1 h.2)

-- of a text they are the text's symbols
text_symbols_of : (text : List ℕ) (s : Chars) (symbols : List Symbol) (e : Option SymbolCharsError) → IsUtf8 text → chars_rest s ≡ text → HasSymbols chars_steps s symbols e
    → SymbolsOf text symbols e
text_symbols_of text s symbols None u is h = subst (λ l. SymbolsOf l symbols None) (sym (Chars-all s h.1.1.0 h.1.0 h.0 h.1.1.1 h.1.1.2) ∙ is) h.2
text_symbols_of text s symbols (Some ShortInput) u is h =
    subst (λ l. SymbolsOf l symbols (Some ShortInput)) (sym (Chars-all s h.1.1.0 h.1.0 h.0 h.1.1.1 h.1.1.2) ∙ is) h.2
text_symbols_of text s symbols (Some BadEscape) u is h =
    let front : text ≡ encode_utf8_all h.0 ++ chars_rest h.1 = sym is ∙ Chars-Yields s h.1 h.0 h.2 in
    let more = rest_utf8 h.0 text (chars_rest h.1) u front in
    let whole : encode_utf8_all (h.0 ++ more.0) ≡ text = encodes-append h.0 more.0 ∙ ap (λ t. encode_utf8_all h.0 ++ t) more.1.1 ∙ sym front in
    subst (λ l. SymbolsOf l symbols (Some BadEscape)) whole (h.3 more.0)

pub text_symbols : (text : List ℕ) (s : Chars) (symbols : List Symbol) (u : Result Chars SymbolCharsError) → IsUtf8 text → chars_rest s ≡ text
    → YieldsThen (YieldsSymbol chars_steps) (Ok s) symbols None u → SymbolsOf text symbols (error_of u)
text_symbols text s symbols u utf8 is h = text_symbols_of text s symbols (error_of u) utf8 is (source_symbols chars_steps s symbols u h)

-- the error that ended the symbols is the one that `ok` answers
pub ended_well : {S : Type 0} (u : Result S SymbolCharsError) → answer_of u ≡ Ok tt → error_of u ≡ None
ended_well (Ok s) h = refl
ended_well (Err e) h = absurd cc

pub ended_by : {S : Type 0} (u : Result S SymbolCharsError) (e : SymbolCharsError) → answer_of u ≡ Err e → error_of u ≡ Some e
ended_by (Ok s) e h = absurd cc
ended_by (Err f) e h = let same : f ≡ e = cc in ap Some same
