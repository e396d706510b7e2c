-- Quoted strings of octets begin and end with double quotes.
use Rattle.std.proofs.Common.{◌≡◌, ℕ, ◌+◌, ◌-◌, ◌≤◌, true, false, Bool, List, [], ◌∷◌, ◌++◌, length, take, drop, refl, sym, ap, ◌∙◌, subst, arith, append-nil, inl, inr}
use Rattle.std.proofs.Common.{length-append}
use Rattle.std.specs.Prelude.{⊤, map, Result, Ok, Err, encode_utf8, encode_utf8_all}
use Rattle.std.specs.List.{AllByRecursion, flat_map}
use Rattle.std.proofs.Math.Seq.{take-add, drop-append-add}
use Rattle.std.proofs.lemmas.Bool.{cases_lt}
use Rattle.std.proofs.lemmas.List.{drop-drop}
use Rattle.std.proofs.lemmas.Str.{encodes-append, length-encode, len_utf8_bounds}
use Rattle.dns_symbol.specs.Symbol.{spell}
use Rattle.dns_lexer.specs.declared.pieces.Piece.{Piece}
use Rattle.dns_lexer.specs.declared.pieces.Piece.TheVariants.{Word as WordAt, Quote as QuoteAt, Comment as CommentAt, End as EndAt}
use Rattle.dns_lexer.specs.declared.pieces.Fault.{Fault}
use Rattle.dns_lexer.specs.declared.cursor_state.CursorState.{CursorState}
use Rattle.dns_lexer.specs.Token.{IsQuote}
use Rattle.dns_lexer.specs.Pieces.{EachWithin, AreItemsOf, IsSpelled, between, later, moved, place_of}
use Rattle.dns_lexer.specs.CursorStates.{RemainUnless, RemainAt, entered, blank_at}
use Rattle.dns_lexer.specs.EntryTokens.{IsWide}
use Rattle.dns_lexer.proofs.Tokens.{quote_bytes}
use Rattle.dns_lexer.proofs.Viable.{begin_same}
use Rattle.dns_lexer.proofs.OctetOpeners.{taken, dropped}
use Rattle.dns_lexer.proofs.OctetsOnce.{short}
use Rattle.dns_lexer.proofs.Entries.{given_spelled}

-- the text between the places of two octets is that of the octets between
pub between_places : (octets : List ℕ) (s e : ℕ) → s ≤ e → between (encode_utf8_all octets) (place_of octets s) (place_of octets e) ≡ encode_utf8_all (between octets s e)
between_places octets s e h =
    let n : ℕ = e - s in
    let rest : List ℕ = drop s octets in
    let there : e ≡ s + n = omega (arith, h) in
    let both : take e octets ≡ take s octets ++ take n rest = ap (λ i. take i octets) there ∙ take-add s n octets in
    let far : place_of octets e ≡ place_of octets s + place_of rest n = ap (λ l. length (encode_utf8_all l)) both ∙ ap length (encodes-append (take s octets) (take n rest))
    ∙ length-append (encode_utf8_all (take s octets)) (encode_utf8_all (take n rest)) in
    let long : place_of octets e - place_of octets s ≡ place_of rest n = omega (arith, far) in
    ap (take (place_of octets e - place_of octets s)) (dropped octets s) ∙ ap (λ i. take i (encode_utf8_all rest)) long ∙ taken rest n

nothing : (l : List ℕ) → encode_utf8_all l ≡ [] → l ≡ []
nothing [] e = refl
nothing (x ∷ l) e =
    absurd (omega (arith, length-encode x, (len_utf8_bounds x).0, ap length e, length-append (encode_utf8 x) (encode_utf8_all l)))

-- so these octets are a double quote, others, and a double quote
abbrev pub IsBetweenQuotes : List ℕ → Type 0
IsBetweenQuotes l = (inner : List ℕ) × (l ≡ 34 ∷ (inner ++ 34 ∷ []))

quoted_octets : (l : List ℕ) → IsQuote (encode_utf8_all l) → IsBetweenQuotes l
quoted_octets l q =
    let inner : List ℕ = flat_map spell q.symbols in
    let all : List ℕ = 34 ∷ (inner ++ 34 ∷ []) in
    let same : encode_utf8_all l ≡ encode_utf8_all all ++ [] = q.spelled ∙ sym (quote_bytes q.symbols) ∙ sym (append-nil (encode_utf8_all all)) in
    let b = begin_same all l [] same in
    (inner, b.1 ∙ ap (λ z. all ++ z) (nothing b.0 b.2) ∙ append-nil all)

abbrev pub IsQuotedAt : List ℕ → Result Piece Fault → Type 0
IsQuotedAt octets (Ok (QuoteAt p)) = IsBetweenQuotes (between octets p.start p.end)
IsQuotedAt octets _ = ⊤

each_quoted : (octets : List ℕ) (given : List (Result Piece Fault)) → AllByRecursion (IsSpelled (encode_utf8_all octets)) (map (moved (place_of octets)) given) → EachWithin (length octets) given
    → AllByRecursion (IsQuotedAt octets) given
each_quoted octets [] h w = tt
each_quoted octets (Ok (QuoteAt p) ∷ given) h w =
    (quoted_octets (between octets p.start p.end) (subst IsQuote (between_places octets p.start p.end w.0.0) h.0), each_quoted octets given h.1 w.1)
each_quoted octets (Ok (WordAt p) ∷ given) h w = (tt, each_quoted octets given h.1 w.1)
each_quoted octets (Ok (CommentAt p) ∷ given) h w = (tt, each_quoted octets given h.1 w.1)
each_quoted octets (Ok (EndAt p) ∷ given) h w = (tt, each_quoted octets given h.1 w.1)
each_quoted octets (Err f ∷ given) h w = (tt, each_quoted octets given h.1 w.1)

pub given_quoted : (octets : List ℕ) (given : List (Result Piece Fault)) → AreItemsOf octets given → AllByRecursion (IsQuotedAt octets) given
given_quoted octets given g = each_quoted octets given (given_spelled (encode_utf8_all octets) (map (moved (place_of octets)) given) g.0) g.1

-- the same further on
between_after : (front rest : List ℕ) (s e : ℕ) → between (front ++ rest) (length front + s) (length front + e) ≡ between rest s e
between_after front rest s e =
    ap (take (length front + e - (length front + s))) (drop-append-add front rest s) ∙ ap (λ i. take i (drop s rest)) (omega arith)

between_from : (octets : List ℕ) (at s e : ℕ) → between octets (at + s) (at + e) ≡ between (drop at octets) s e
between_from octets at s e = ap (take (at + e - (at + s))) (sym (drop-drop s at octets)) ∙ ap (λ i. take i (drop s (drop at octets))) (omega arith)

moved_quoted : (front octets : List ℕ) (at : ℕ) (given : List (Result Piece Fault)) → AllByRecursion (IsQuotedAt (front ++ drop at octets)) (later (length front) given)
    → AllByRecursion (IsQuotedAt octets) (later at given)
moved_quoted front octets at [] h = tt
moved_quoted front octets at (Ok (QuoteAt p) ∷ given) h =
    (subst IsBetweenQuotes (between_after front (drop at octets) p.start p.end ∙ sym (between_from octets at p.start p.end)) h.0, moved_quoted front octets at given h.1)
moved_quoted front octets at (Ok (WordAt p) ∷ given) h = (tt, moved_quoted front octets at given h.1)
moved_quoted front octets at (Ok (CommentAt p) ∷ given) h = (tt, moved_quoted front octets at given h.1)
moved_quoted front octets at (Ok (EndAt p) ∷ given) h = (tt, moved_quoted front octets at given h.1)
moved_quoted front octets at (Err f ∷ given) h = (tt, moved_quoted front octets at given h.1)

left_if : (t : Bool) (octets : List ℕ) (s : CursorState) (given : List (Result Piece Fault)) → RemainUnless t octets s given → AllByRecursion (IsQuotedAt octets) given
left_if true octets s given g = subst (AllByRecursion (IsQuotedAt octets)) (sym g) tt
left_if false octets s given g =
    let front : List ℕ = entered (blank_at octets s.began) s.depth in
    subst (AllByRecursion (IsQuotedAt octets)) (sym g.2)
    (moved_quoted front octets s.at g.0 (given_quoted (front ++ drop s.at octets) (later (length front) g.0) g.1))

-- and of the pieces that remain at a position
pub left_quoted : (octets : List ℕ) (s : CursorState) (given : List (Result Piece Fault)) → RemainAt octets s given → AllByRecursion (IsQuotedAt octets) given
left_quoted octets s given = left_if s.is_done octets s given

-- so there is room for both
pub quoted_wide : (octets : List ℕ) (x : Result Piece Fault) → IsQuotedAt octets x → IsWide x
quoted_wide octets (Ok (QuoteAt p)) h = elim (cases_lt (p.end - p.start) 2) [
  | inl few ↦ elim (short (p.end - p.start) (drop p.start octets) h.0 (omega (arith, few)) h.1) [ ]
  | inr many ↦ omega (arith, many)
]
quoted_wide octets (Ok (WordAt p)) h = tt
quoted_wide octets (Ok (CommentAt p)) h = tt
quoted_wide octets (Ok (EndAt p)) h = tt
quoted_wide octets (Err f) h = tt
