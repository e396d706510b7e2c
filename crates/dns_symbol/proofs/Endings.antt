-- Symbols of a text that end with an error: a cut escape, or an invalid one.
use Rattle.std.proofs.Common.{◌≡◌, ℕ, ◌<◌, true, false, List, [], ◌∷◌, ◌++◌, length, drop, refl, sym, ap, ◌∙◌, arith, append_assoc, length-append, Some, ⊎_elim}
use Rattle.std.specs.Prelude.{slice_index, encode_utf8_all, ◌==◌, nat_lt}
use Rattle.std.specs.Char.{encode_utf8}
use Rattle.std.specs.List.{list_all}
use Rattle.std.proofs.lemmas.Str.{cons_from_encodes, encodes_same, encode_ascii, length-encode, len_utf8_bounds}
use Rattle.std.proofs.lemmas.List.Folds.{list_all-append}
use Rattle.std.proofs.lemmas.Bool.{cases_Bool, and_parts, cond-true, cond-false}
use Rattle.std.proofs.lemmas.Bool.Decides.{nat_tests}
use Rattle.dns_symbol.specs.Symbol.{spell, is_digit}
use Rattle.dns_symbol.specs.Index.{BeginsNone, is_cut_escape}
use Rattle.dns_symbol.specs.Text.{EndsAs}
use Rattle.dns_symbol.specs.Reading.{IsRefusedAt}
use Rattle.dns_symbol.specs.declared.error.SymbolCharsError.TheVariants.{BadEscape, ShortInput}
use Rattle.dns_symbol.proofs.Escapes.{escape_short}

-- a text of characters that begins with the bytes of some of them begins with these
pub front_chars : (xs cs r : List ℕ) → encode_utf8_all cs ≡ encode_utf8_all xs ++ r → (ds : List ℕ) × (cs ≡ xs ++ ds)
front_chars [] cs r h = (cs, refl)
front_chars (x ∷ xs) cs r h =
    let a = cons_from_encodes cs (encode_utf8_all xs ++ r) x (h ∙ append_assoc (encode_utf8 x) (encode_utf8_all xs) r) in
    let b = front_chars xs a.0 r a.2 in
    (b.0, a.1 ∙ ap (λ t. x ∷ t) b.1)

digits_ascii : (xs : List ℕ) → list_all is_digit xs ≡ true → encode_utf8_all xs ≡ xs
digits_ascii [] h = refl
digits_ascii (x ∷ xs) h =
    let p = and_parts (is_digit x) (list_all is_digit xs) h in
    let d : is_digit x ≡ true = p.0 in
    let low : x < 128 = grind (arith, nat_tests, d) in
    ap (λ t. t ++ encode_utf8_all xs) (encode_ascii x low) ∙ ap (λ t. x ∷ t) (digits_ascii xs p.1)

-- the parts of a cut escape
pub cut_lead : (text : List ℕ) → is_cut_escape text ≡ true → (slice_index text 0 ≡ 92) × (0 < length text) × (length text < 4) × (list_all is_digit (drop 1 text) ≡ true)
cut_lead [] h = let e : true ≡ false = sym h in absurd (cc)
cut_lead (x ∷ xs) h =
    let p = and_parts (x == 92) _ h in
    let q = and_parts (nat_lt (length (x ∷ xs)) 4) (list_all is_digit xs) p.1 in
    let lead : (x == 92) ≡ true = p.0 in
    let few : nat_lt (length (x ∷ xs)) 4 ≡ true = q.0 in
    (grind (arith, nat_tests, lead), omega arith, grind (arith, nat_tests, few), q.1)

-- a cut escape is ASCII
pub cut_ascii : (text : List ℕ) → is_cut_escape text ≡ true → encode_utf8_all text ≡ text
cut_ascii [] h = refl
cut_ascii (x ∷ xs) h =
    let f = cut_lead (x ∷ xs) h in
    ap (λ t. t ++ encode_utf8_all xs) (encode_ascii x (omega (arith, f.0))) ∙ ap (λ t. x ∷ t) (digits_ascii xs f.3)

digit_at : (text : List ℕ) → list_all is_digit (drop 1 text) ≡ true → (1 < length text → is_digit (slice_index text 1) ≡ true) × (2 < length text → is_digit (slice_index text 2) ≡ true)
digit_at [] h = (λ k. absurd (omega arith), λ k. absurd (omega arith))
digit_at (w ∷ []) h = (λ k. absurd (omega arith), λ k. absurd (omega arith))
digit_at (w ∷ x ∷ []) h = (λ k. (and_parts _ _ h).0, λ k. absurd (omega arith))
digit_at (w ∷ x ∷ y ∷ rest) h = (λ k. (and_parts _ _ h).0, λ k. (and_parts _ _ (and_parts _ _ h).1).0)

-- a prefix of a cut escape, with at least one character, is a cut escape
cut_front : (text more : List ℕ) → 0 < length text → is_cut_escape (text ++ more) ≡ true → is_cut_escape text ≡ true
cut_front [] more some h = absurd (omega arith)
cut_front (x ∷ xs) more some h =
    let f = cut_lead (x ∷ (xs ++ more)) h in
    let digits : (list_all is_digit xs ≡ true) × (list_all is_digit more ≡ true) = and_parts (list_all is_digit xs) (list_all is_digit more) (sym (list_all-append is_digit xs more) ∙ f.3) in
    let few : nat_lt (length (x ∷ xs)) 4 ≡ true = grind (arith, nat_tests, length-append xs more, f.2) in
    let lead : x ≡ 92 = f.0 in
    rw (lead, few, digits.0) refl

some_bytes : (taken : List ℕ) → 0 < length taken → 0 < length (encode_utf8_all taken)
some_bytes [] some = absurd (omega arith)
some_bytes (x ∷ xs) some = omega (arith, length-append (encode_utf8 x) (encode_utf8_all xs), length-encode x, (len_utf8_bounds x).0)

-- a cut escape begins with no symbol, since the input ends too soon
pub cut_ends : (text : List ℕ) → is_cut_escape text ≡ true → EndsAs text (Some ShortInput)
cut_ends text cut =
    let f = cut_lead text cut in
    let d = digit_at text f.3 in
    let e = escape_short text f.0 f.1 f.2 d.0 d.1 in
    (f.1, e.0, sym (cond-true _ _ _ cut))

-- rejected characters begin with no symbol either, whatever follows them
pub refused_ends : (taken more : List ℕ) → IsRefusedAt taken → EndsAs (encode_utf8_all (taken ++ more)) (Some BadEscape)
refused_ends taken more refused =
    let text = encode_utf8_all (taken ++ more) in
    let many : 0 < length taken = omega (arith, ap length refused.3, length-append refused.0 (refused.1 ∷ [])) in
    let none : BeginsNone text = λ x r b.
    (let his = front_chars (spell x) (taken ++ more) r b.spelled in refused.5 more his.0 x b.readable his.1) in
    let uncut : is_cut_escape text ≡ false = ⊎_elim
    (λ y. let chars : taken ++ more ≡ text = encodes_same (taken ++ more) text (sym (cut_ascii text y)) in
    let e : is_cut_escape taken ≡ true = cut_front taken more many (ap is_cut_escape chars ∙ y) in
    let f : true ≡ false = sym e ∙ refused.4 in absurd (cc))
    (λ n. n) (cases_Bool (is_cut_escape text)) in
    (some_bytes (taken ++ more) (omega (arith, many, length-append taken more)), none, sym (cond-false _ _ _ uncut))
