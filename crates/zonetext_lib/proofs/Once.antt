-- Octets have one list of entries at most.
use Rattle.std.proofs.Common.{◌≡◌, ℕ, zero, suc, ◌+◌, ◌-◌, ◌<◌, ◌≤◌, ◌==◌, Bool, List, [], ◌∷◌, length, refl, sym, ap, ◌∙◌, subst, arith, inl, inr, length-append, take_all}
use Rattle.std.specs.Prelude.{⊤, map, option_map, Option, Some, None, encode_utf8_all}
use Rattle.std.specs.List.{flat_map}
use Rattle.std.proofs.lemmas.Bool.{cases_lt, cases_eq, eq-eqb, ne_eqb}
use Rattle.std.proofs.lemmas.Str.{encodes_same}
use Rattle.dns_lexer.specs.declared.pieces.Piece.{Piece}
use Rattle.dns_lexer.specs.declared.pieces.Piece.TheVariants.{Word as WordAt, Quote as QuoteAt, Comment as CommentAt, End as EndAt}
use Rattle.dns_lexer.specs.Lexeme.{Lexeme, Blank, Line, Open, Close, Note, Word, Quote, lexeme_bytes}
use Rattle.dns_lexer.specs.Pieces.{IsOctetPieces, begins_blank, between, moved_piece, pieces, place_of}
use Rattle.dns_lexer.proofs.Complete.{word_some, quote_some}
use Rattle.dns_lexer.proofs.PieceMoved.{mono}
use Rattle.dns_lexer.proofs.PieceSplit.{pieces_one_way}
use Rattle.zone_format.proofs.Same.{head_of, moved_between, place_sum, rest_of}
use Rattle.zonetext_lib.specs.Entries.{ComparedPart, Token, Ends, begins_glued, parts, parts_after, HasEntries}

-- the same part of the text in which each octet is a character
abbrev pub encoded : ComparedPart → ComparedPart
encoded (Token g t) = Token g (encode_utf8_all t)
encoded (Ends b) = Ends b

-- no other offset is that of an octet
place_once : (octets : List ℕ) (e s : ℕ) → s < length octets → place_of octets e ≡ place_of octets s → e ≡ s
place_once octets e s h k = elim (cases_lt e s) [
  | inl less ↦ absurd (omega (arith, k, mono octets e s less (omega arith)))
  | inr most ↦ elim (cases_lt s e) [
    | inl more ↦
        let m : e ≡ (s + 1) + (e - (s + 1)) = omega (arith, more) in
        let p = ap (place_of octets) m ∙ place_sum octets (s + 1) (e - (s + 1)) in
        absurd (omega (arith, k, p, mono octets s (s + 1) (omega arith) (omega arith)))
    | inr same ↦ omega arith
  ]
]

same_test : (octets : List ℕ) (e s : ℕ) → s < length octets → (place_of octets e == place_of octets s) ≡ (e == s)
same_test octets e s h = elim (cases_eq e s) [
  | inl is ↦ eq-eqb (place_of octets e) (place_of octets s) (ap (place_of octets) is) ∙ sym (eq-eqb e s is)
  | inr other ↦ ne_eqb (place_of octets e) (place_of octets s) (λ k. other (place_once octets e s h k)) ∙ sym (ne_eqb e s other)
]

glued_moved : (octets : List ℕ) (ended : Option ℕ) (s : ℕ) → s < length octets → begins_glued (option_map (place_of octets) ended) (place_of octets s) ≡ begins_glued ended s
glued_moved octets None s h = refl
glued_moved octets (Some e) s h = same_test octets e s h

-- each token begins before an offset
abbrev pub StartWithin : ℕ → List Piece → Type 0
StartWithin n [] = ⊤
StartWithin n (WordAt p ∷ ps) = (p.start < n) × StartWithin n ps
StartWithin n (QuoteAt p ∷ ps) = (p.start < n) × StartWithin n ps
StartWithin n (CommentAt p ∷ ps) = StartWithin n ps
StartWithin n (EndAt p ∷ ps) = StartWithin n ps

past_fits : (at n : ℕ) (l : Lexeme) (ls : List Lexeme) → at + length (flat_map lexeme_bytes (l ∷ ls)) ≤ n → at + length (lexeme_bytes l) + length (flat_map lexeme_bytes ls) ≤ n
past_fits at n l ls h = omega (arith, h, length-append (lexeme_bytes l) (flat_map lexeme_bytes ls))

text_start : (ls : List Lexeme) (at d n : ℕ) (b : Bool) → at + length (flat_map lexeme_bytes ls) ≤ n → StartWithin n (pieces at d b ls)
text_start [] at d n b h = tt
text_start (Open ∷ ls) at d n b h = text_start ls _ (suc d) n b (past_fits at n Open ls h)
text_start (Close ∷ ls) at zero n b h = text_start ls _ zero n b (past_fits at n Close ls h)
text_start (Close ∷ ls) at (suc d) n b h = text_start ls _ d n b (past_fits at n Close ls h)
text_start (Line r ∷ ls) at zero n b h = text_start ls _ zero n _ (past_fits at n (Line r) ls h)
text_start (Line r ∷ ls) at (suc d) n b h = text_start ls _ (suc d) n b (past_fits at n (Line r) ls h)
text_start (Blank t ∷ ls) at d n b h = text_start ls _ d n b (past_fits at n (Blank t) ls h)
text_start (Note cs ∷ ls) at d n b h = text_start ls _ d n b (past_fits at n (Note cs) ls h)
text_start (Word s ss ∷ ls) at d n b h = (omega (arith, past_fits at n (Word s ss) ls h, word_some s ss), text_start ls _ d n b (past_fits at n (Word s ss) ls h))
text_start (Quote ss ∷ ls) at d n b h = (omega (arith, past_fits at n (Quote ss) ls h, quote_some ss), text_start ls _ d n b (past_fits at n (Quote ss) ls h))

start_back : (octets : List ℕ) (s : ℕ) → place_of octets s < length (encode_utf8_all octets) → s < length octets
start_back octets s h = elim (cases_lt s (length octets)) [
  | inl less ↦ less
  | inr most ↦
      let m : s ≡ length octets + (s - length octets) = omega (arith, most) in
      let p = ap (place_of octets) m ∙ place_sum octets (length octets) (s - length octets) in
      absurd (omega (arith, h, p, ap (λ l. length (encode_utf8_all l)) (take_all (length octets) octets (omega arith))))
]

all_back : (octets : List ℕ) (found : List Piece) → StartWithin (length (encode_utf8_all octets)) (map (moved_piece (place_of octets)) found) → StartWithin (length octets) found
all_back octets [] h = tt
all_back octets (WordAt p ∷ ps) h = (start_back octets p.start h.0, all_back octets ps h.1)
all_back octets (QuoteAt p ∷ ps) h = (start_back octets p.start h.0, all_back octets ps h.1)
all_back octets (CommentAt p ∷ ps) h = all_back octets ps h
all_back octets (EndAt p ∷ ps) h = all_back octets ps h

pub octets_start : (octets : List ℕ) (found : List Piece) → IsOctetPieces octets found → StartWithin (length octets) found
octets_start octets found p =
    let n : ℕ = length (encode_utf8_all octets) in
    all_back octets found (subst (StartWithin n) p.placed (text_start p.lexemes 0 0 n (begins_blank p.lexemes) (omega (arith, ap length p.spelled))))

token_moved : (octets : List ℕ) (ended : Option ℕ) (s e : ℕ) (ps : List Piece) → s < length octets
    → parts_after (encode_utf8_all octets) (Some (place_of octets e)) (map (moved_piece (place_of octets)) ps) ≡ map encoded (parts_after octets (Some e) ps)
    → Token (begins_glued (option_map (place_of octets) ended) (place_of octets s)) (between (encode_utf8_all octets) (place_of octets s) (place_of octets e))
    ∷ parts_after (encode_utf8_all octets) (Some (place_of octets e)) (map (moved_piece (place_of octets)) ps)
    ≡ Token (begins_glued ended s) (encode_utf8_all (between octets s e)) ∷ map encoded (parts_after octets (Some e) ps)
token_moved octets ended s e ps h k =
    let more = parts_after (encode_utf8_all octets) (Some (place_of octets e)) (map (moved_piece (place_of octets)) ps) in
    ap (λ g. Token g (between (encode_utf8_all octets) (place_of octets s) (place_of octets e)) ∷ more) (glued_moved octets ended s h)
    ∙ ap (λ t. Token (begins_glued ended s) t ∷ more) (moved_between octets s e)
    ∙ ap (λ l. Token (begins_glued ended s) (encode_utf8_all (between octets s e)) ∷ l) k

pub moved_parts : (octets : List ℕ) (ended : Option ℕ) (found : List Piece) → StartWithin (length octets) found
    → parts_after (encode_utf8_all octets) (option_map (place_of octets) ended) (map (moved_piece (place_of octets)) found) ≡ map encoded (parts_after octets ended found)
moved_parts octets ended [] h = refl
moved_parts octets ended (WordAt p ∷ ps) h = token_moved octets ended p.start p.end ps h.0 (moved_parts octets (Some p.end) ps h.1)
moved_parts octets ended (QuoteAt p ∷ ps) h = token_moved octets ended p.start p.end ps h.0 (moved_parts octets (Some p.end) ps h.1)
moved_parts octets ended (CommentAt p ∷ ps) h = moved_parts octets ended ps h
moved_parts octets ended (EndAt p ∷ ps) h = ap (λ l. Ends p.begins_blank ∷ l) (moved_parts octets None ps h)

abbrev text_of : ComparedPart → List ℕ
text_of (Token g t) = t
text_of (Ends b) = []

abbrev glue_of : ComparedPart → Bool
glue_of (Token g t) = g
glue_of (Ends b) = b

same_part : (x y : ComparedPart) → encoded x ≡ encoded y → x ≡ y
same_part (Token g t) (Token h u) e = ap (λ x. Token x t) (ap glue_of e) ∙ ap (Token h) (encodes_same t u (ap text_of e))
same_part (Token g t) (Ends b) e = cc
same_part (Ends b) (Token h u) e = cc
same_part (Ends b) (Ends c) e = e

pub same_parts : (xs ys : List ComparedPart) → map encoded xs ≡ map encoded ys → xs ≡ ys
same_parts [] [] e = refl
same_parts [] (y ∷ ys) e = cc
same_parts (x ∷ xs) [] e = cc
same_parts (x ∷ xs) (y ∷ ys) e = ap (λ z. z ∷ xs) (same_part x y (ap (head_of (encoded x)) e)) ∙ ap (λ l. y ∷ l) (same_parts xs ys (ap rest_of e))

pub entries_once : (octets : List ℕ) (es fs : List ComparedPart) → HasEntries octets es → HasEntries octets fs → es ≡ fs
entries_once octets es fs a b =
    let g = place_of octets in
    let one = pieces_one_way (encode_utf8_all octets) (map (moved_piece g) a.0) (map (moved_piece g) b.0) a.1 b.1 in
    same_parts es fs (
    ap (map encoded) (sym a.2) ∙ sym (moved_parts octets None a.0 (octets_start octets a.0 a.1)) ∙ ap (parts (encode_utf8_all octets)) one
    ∙ moved_parts octets None b.0 (octets_start octets b.0 b.1) ∙ ap (map encoded) b.2
    )
