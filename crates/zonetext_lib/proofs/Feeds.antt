-- What ends with an entry's end ends with a line feed.
use Rattle.std.proofs.Common.{◌≡◌, ℕ, ◌+◌, ◌≤◌, ◌==◌, not, Bool, true, false, cond, List, [], ◌∷◌, ◌++◌, refl, sym, ap, ◌∙◌, subst, arith, inl, inr}
use Rattle.std.specs.Prelude.{◌⊎◌, reverse, encode_utf8, encode_utf8_all}
use Rattle.std.specs.List.{list_all, count_by, take_while}
use lib.Utf8.{encode}
use Rattle.std.proofs.lemmas.Bool.{and_parts, cases_lt, leb-true}
use Rattle.std.proofs.lemmas.List.{reverse-append}
use Rattle.std.proofs.lemmas.List.Sums.{take_while-cons, sum_by-append}
use Rattle.std.proofs.lemmas.Str.{encode_ascii}
use Rattle.dns_lexer.specs.Lexeme.{Line, lexeme_bytes}
use Rattle.dns_lexer.proofs.PieceLexemes.{is_high, high_bytes, first_high}
use Rattle.zonetext_lib.specs.Blocks.{EndsEntry}
use Rattle.zone_format.specs.Place.{begins_character, column_of, feeds, last_line}
use Rattle.zonetext_lib.proofs.After.{entry_line}

abbrev last_of : ℕ → List ℕ → ℕ
last_of d [] = d
last_of d (x ∷ xs) = last_of x xs

last_append : (d : ℕ) (xs ys : List ℕ) → last_of d (xs ++ ys) ≡ last_of (last_of d xs) ys
last_append d [] ys = refl
last_append d (x ∷ xs) ys = last_append x xs ys

high_last : (xs : List ℕ) (d : ℕ) → 128 ≤ d → list_all is_high xs ≡ true → 128 ≤ last_of d xs
high_last [] d h a = h
high_last (x ∷ xs) d h a = let p = and_parts (is_high x) _ a in high_last xs x (leb-true 128 x p.0) p.1

char_last : (c d : ℕ) → last_of d (encode_utf8 c) ≡ 10 → c ≡ 10
char_last c d e = elim (cases_lt c 128) [
  | inl low ↦ sym (ap (last_of d) (encode_ascii c low)) ∙ e
  | inr high ↦
      let f = first_high c high in
      let all : list_all is_high (f.0 ∷ f.1) ≡ true = subst (λ l. list_all is_high l ≡ true) f.2 (high_bytes c high) in
      let big = high_last f.1 f.0 f.3 (and_parts (is_high f.0) _ all).1 in
      absurd (omega (arith, big, ap (last_of d) f.2, e))
]

-- the last byte of a text is LF only if its last character is
all_last : (cs : List ℕ) (d e : ℕ) → (d ≡ 10 → e ≡ 10) → last_of d (encode_utf8_all cs) ≡ 10 → last_of e cs ≡ 10
all_last [] d e h k = h k
all_last (c ∷ cs) d e h k = all_last cs (last_of d (encode_utf8 c)) c (char_last c d) (sym (last_append d (encode_utf8 c) (encode_utf8_all cs)) ∙ k)

feed_last : (d : ℕ) (r : Bool) → last_of d (lexeme_bytes (Line r)) ≡ 10
unfolding encode
feed_last d true = refl
feed_last d false = refl

last_parted : (x : ℕ) (xs : List ℕ) → last_of x xs ≡ 10 → (first : List ℕ) × (x ∷ xs ≡ first ++ 10 ∷ [])
last_parted x [] e = ([], ap (λ z. z ∷ []) e)
last_parted x (y ∷ ys) e = let r = last_parted y ys e in (x ∷ r.0, ap (λ l. x ∷ l) r.1)

abbrev pub EndsFeed : List ℕ → Type 0
EndsFeed before = (before ≡ []) ⊎ ((first : List ℕ) × (before ≡ first ++ 10 ∷ []))

pub ends_feed : (before : List ℕ) → EndsEntry before → EndsFeed before
ends_feed before (inl none) = inl none
ends_feed before (inr e) =
    let line = entry_line before e.0 e.1 e.2 in
    let last : last_of 0 (encode_utf8_all before) ≡ 10 = ap (last_of 0) line.is ∙ last_append 0 line.front (lexeme_bytes (Line line.has_cr)) ∙ feed_last (last_of 0 line.front) line.has_cr in
    go before (all_last before 0 0 (λ h. h) last)
  where
    go : (l : List ℕ) → last_of 0 l ≡ 10 → EndsFeed l
    go [] k = absurd (omega (arith, k))
    go (x ∷ xs) k = inr (last_parted x xs k)

-- so columns and lines after it are counted from there
line_alone : (xs rest : List ℕ) → take_while (λ c. not (c == 10)) (xs ++ 10 ∷ rest) ≡ take_while (λ c. not (c == 10)) xs
line_alone [] rest = take_while-cons (λ c. not (c == 10)) 10 rest
line_alone (x ∷ xs) rest =
    take_while-cons (λ c. not (c == 10)) x (xs ++ 10 ∷ rest) ∙ ap (λ l. cond (not (x == 10)) (x ∷ l) []) (line_alone xs rest)
    ∙ sym (take_while-cons (λ c. not (c == 10)) x xs)

last_line_after : (first y : List ℕ) → last_line ((first ++ 10 ∷ []) ++ y) ≡ last_line y
last_line_after first y =
    ap (take_while (λ c. not (c == 10))) (reverse-append (first ++ 10 ∷ []) y ∙ ap (λ l. reverse y ++ l) (reverse-append first (10 ∷ []))) ∙ line_alone (reverse y) (reverse first)

pub column_after : (before y : List ℕ) → EndsFeed before → column_of (before ++ y) ≡ column_of y
column_after before y (inl none) = ap (λ l. column_of (l ++ y)) none
column_after before y (inr f) = ap (λ l. column_of (l ++ y)) f.1 ∙ ap (λ l. count_by begins_character l + 1) (last_line_after f.0 y)

pub feeds_after : (before y : List ℕ) → feeds (before ++ y) ≡ feeds before + feeds y
feeds_after before y = sum_by-append (λ x. cond (x == 10) 1 0) before y
