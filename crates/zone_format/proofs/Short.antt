-- Comments without the blanks at their end, as characters and as octets.
use Rattle.std.proofs.Common.{◌≡◌, ℕ, ◌≤◌, Bool, true, false, ◌&&◌, ◌==◌, List, [], ◌∷◌, ◌++◌, refl, sym, ap, ◌∙◌, arith, inl, inr}
use Rattle.std.specs.Prelude.{if◌then◌else◌, encode_utf8, encode_utf8_all}
use Rattle.std.specs.List.{list_all}
use lib.Utf8.{encode}
use Rattle.std.proofs.lemmas.Bool.{and_parts, and_from, cases_lt, leb-true, ne_eqb, or_from}
use Rattle.std.proofs.lemmas.Str.{encode_ascii}
use Rattle.dns_lexer.specs.Lexeme.{Note, lexeme_bytes, is_lexeme, is_note_char}
use Rattle.dns_lexer.specs.Run.{is_blank}
use Rattle.dns_lexer.proofs.PieceLexemes.{is_high, high_bytes, first_high}
use Rattle.zone_format.specs.Marks.{is_none, shortened}

abbrev short_step : Bool → ℕ → List ℕ → List ℕ
short_step blank c r = if blank && is_none r then [] else c ∷ r

not_blank : (c : ℕ) → 128 ≤ c → is_blank c ≡ false
not_blank c big = or_from (c == 32) (c == 9) (ne_eqb c 32 (λ e. omega (arith, e, big))) (ne_eqb c 9 (λ e. omega (arith, e, big)))

-- octets beyond ASCII stay
past_high : (hs zs : List ℕ) → list_all is_high hs ≡ true → shortened (hs ++ zs) ≡ hs ++ shortened zs
past_high [] zs h = refl
past_high (x ∷ hs) zs h =
    let p = and_parts (is_high x) (list_all is_high hs) h in
    ap (λ b. short_step b x (shortened (hs ++ zs))) (not_blank x (leb-true 128 x p.0)) ∙ ap (λ l. x ∷ l) (past_high hs zs p.1)

none_step : (b : Bool) (x : ℕ) (r : List ℕ) → is_none (encode_utf8_all r) ≡ is_none r → encode_utf8_all (short_step b x r) ≡ (if b && is_none (encode_utf8_all r) then [] else encode_utf8 x ++ encode_utf8_all r)
none_step true x [] h = refl
none_step true x (y ∷ r) h = ap (λ n. if n then [] else encode_utf8 x ++ encode_utf8_all (y ∷ r)) (sym h)
none_step false x r h = refl

none_after : (hs zs : List ℕ) (x : ℕ) (xs : List ℕ) → hs ≡ x ∷ xs → is_none (hs ++ zs) ≡ false
none_after hs zs x xs e = ap (λ l. is_none (l ++ zs)) e

encoded_none : (cs : List ℕ) → is_none (encode_utf8_all cs) ≡ is_none cs
encoded_none [] = refl
encoded_none (c ∷ cs) = elim (cases_lt c 128) [
  | inl low ↦ none_after (encode_utf8 c) (encode_utf8_all cs) c [] (encode_ascii c low)
  | inr big ↦ let f = first_high c big in none_after (encode_utf8 c) (encode_utf8_all cs) f.0 f.1 f.2
]

pub short_encoded : (cs : List ℕ) → shortened (encode_utf8_all cs) ≡ encode_utf8_all (shortened cs)
short_encoded [] = refl
short_encoded (c ∷ cs) = elim (cases_lt c 128) [
  | inl low ↦
      ap (λ l. shortened (l ++ encode_utf8_all cs)) (encode_ascii c low) ∙ ap (short_step (is_blank c) c) (short_encoded cs)
      ∙ ap (λ l. if is_blank c && is_none (encode_utf8_all (shortened cs)) then [] else l ++ encode_utf8_all (shortened cs)) (sym (encode_ascii c low))
      ∙ sym (none_step (is_blank c) c (shortened cs) (encoded_none (shortened cs)))
  | inr big ↦
      past_high (encode_utf8 c) (encode_utf8_all cs) (high_bytes c big) ∙ ap (λ l. encode_utf8 c ++ l) (short_encoded cs)
      ∙ sym (ap (λ b. encode_utf8_all (short_step b c (shortened cs))) (not_blank c big))
]

pub note_short : (cs : List ℕ) → lexeme_bytes (Note (shortened cs)) ≡ shortened (lexeme_bytes (Note cs))
unfolding encode
note_short cs = ap (λ l. 59 ∷ l) (sym (short_encoded cs))

step_all : (p : ℕ → Bool) (b : Bool) (c : ℕ) (r : List ℕ) → p c ≡ true → list_all p r ≡ true → list_all p (short_step b c r) ≡ true
step_all p true c [] h k = refl
step_all p true c (x ∷ r) h k = and_from (p c) (list_all p (x ∷ r)) h k
step_all p false c r h k = and_from (p c) (list_all p r) h k

short_all : (p : ℕ → Bool) (cs : List ℕ) → list_all p cs ≡ true → list_all p (shortened cs) ≡ true
short_all p [] h = refl
short_all p (c ∷ cs) h = let q = and_parts (p c) (list_all p cs) h in step_all p (is_blank c) c (shortened cs) q.0 (short_all p cs q.1)

pub note_valid : (cs : List ℕ) → is_lexeme (Note cs) ≡ true → is_lexeme (Note (shortened cs)) ≡ true
note_valid cs h = short_all is_note_char cs h

twice_step : (b : Bool) (c : ℕ) (r : List ℕ) → is_blank c ≡ b → shortened r ≡ r → shortened (short_step b c r) ≡ short_step b c r
twice_step true c [] e h = refl
twice_step true c (x ∷ r) e h = ap (short_step (is_blank c) c) h ∙ ap (λ b. short_step b c (x ∷ r)) e
twice_step false c r e h = ap (short_step (is_blank c) c) h ∙ ap (λ b. short_step b c r) e

pub short_twice : (cs : List ℕ) → shortened (shortened cs) ≡ shortened cs
short_twice [] = refl
short_twice (c ∷ cs) = twice_step (is_blank c) c (shortened cs) refl (short_twice cs)
