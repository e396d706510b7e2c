-- A printed symbol is parsed as itself.
use Rattle.std.proofs.Common.{◌≡◌, ℕ, ◌+◌, true, List, [], ◌∷◌, ◌++◌, length, drop, refl, sym, ap, ◌∙◌, arith, append-nil, length-append, Option, Some, None, Result, Ok, Err}
use Rattle.std.specs.Prelude.{encode_utf8_all}
use Rattle.std.specs.Str.Iter.{chars_steps, chars_rest}
use Rattle.std.specs.declared.str.Chars.{Chars}
use Rattle.std.proofs.lemmas.List.{drop-drop}
use Rattle.dns_symbol.specs.Symbol.{spell, bytes, is_readable}
use Rattle.dns_symbol.specs.Index.{BeginsWith, ReadsAt}
use Rattle.dns_symbol.specs.Reading.{ReadsSymbol}
use Rattle.dns_symbol.specs.declared.symbol.Symbol.{Symbol}
use Rattle.dns_symbol.specs.declared.error.SymbolCharsError.{SymbolCharsError}
use Rattle.dns_symbol.specs.declared.error.SymbolCharsError.TheVariants.{BadEscape, ShortInput}
use Rattle.dns_symbol.specs.declared.error.SymbolOctetsError.{SymbolOctetsError}
use Rattle.dns_symbol.proofs.Unique.{same_one, bytes_same, bytes_some}
use Rattle.dns_symbol.proofs.Endings.{cut_ends, cut_ascii}
use Rattle.dns_symbol.proofs.Agree.{Chars-Yields, Chars-end, Chars-all, drop_front}
use Rattle.dns_symbol.proofs.Readers.{reads_same}

-- of two lists of characters whose bytes both begin one text, one is a prefix of the other
meets : (xs ys a b : List ℕ) → encode_utf8_all xs ++ a ≡ encode_utf8_all ys ++ b → (m : List ℕ) × (n : List ℕ) × (xs ++ m ≡ ys ++ n)
meets [] ys a b h = (ys, [], sym (append-nil ys))
meets (x ∷ xs) [] a b h = ([], x ∷ xs, append-nil (x ∷ xs))
meets (x ∷ xs) (y ∷ ys) a b h =
    let e = same_one x y xs ys a b h in
    let f = meets xs ys a b e.1 in
    (f.0, f.1, λ i. e.0 i ∷ f.2 i)

pub chars_read_back : (x : Symbol) → is_readable x ≡ true → (s t : Chars) (rest : List ℕ) (q : Result (Option Symbol) SymbolCharsError)
    → chars_rest s ≡ bytes x ++ rest → ReadsSymbol chars_steps s q t → (q ≡ Ok (Some x)) × (chars_rest t ≡ rest)
chars_read_back x are s t rest (Ok None) is h =
    absurd (omega (arith, ap length is, ap length (Chars-end s t h), length-append (bytes x) rest, bytes_some x))
chars_read_back x are s t rest (Ok (Some y)) is h =
    let e = bytes_same y x (chars_rest t) rest h.0 are (sym (Chars-Yields s t (spell y) h.1) ∙ is) in
    (ap (λ z. Ok (Some z)) e.0, e.1)
chars_read_back x are s t rest (Err ShortInput) is h =
    let whole : h.0 ≡ bytes x ++ rest = sym (cut_ascii h.0 h.1) ∙ sym (Chars-all s h.2.0 t h.0 h.2.1 h.2.2) ∙ is in
    let ends = cut_ends h.0 h.1 in
    absurd (ends.1 x rest (record { readable = are; spelled = whole }))
chars_read_back x are s t rest (Err BadEscape) is h =
    let e = meets h.0 (spell x) (chars_rest t) rest (sym (Chars-Yields s t h.0 h.2) ∙ is) in
    absurd (h.1.5 e.0 e.1 x are e.2)

pub index_reads_back : (x : Symbol) → is_readable x ≡ true → (text rest : List ℕ) (pos : ℕ) (r : Result (Option (Symbol × ℕ)) SymbolOctetsError)
    → drop pos text ≡ bytes x ++ rest → ReadsAt text pos r → r ≡ Ok (Some (x, pos + length (bytes x)))
index_reads_back x are text rest pos r is h = reads_same text pos r (Ok (Some (x, pos + length (bytes x)))) h (begun, refl)
  where
    after : drop (pos + length (bytes x)) text ≡ rest
    after = sym (drop-drop (length (bytes x)) pos text) ∙ ap (drop (length (bytes x))) is ∙ drop_front (bytes x) rest

    begun : BeginsWith (drop pos text) x (drop (pos + length (bytes x)) text)
    begun = record { readable = are; spelled = is ∙ ap (λ l. bytes x ++ l) (sym after) }
