-- The tokens of octets: the entries that they split into, each token at its offset.
use Rattle.std.proofs.Common.{◌≡◌, ℕ, ◌+◌, ◌-◌, ◌≤◌, List, [], ◌∷◌, ◌++◌, length, take, drop, refl, sym, ap, ◌∙◌, subst, arith, append_assoc, inl}
use Rattle.std.proofs.Common.{length-append}
use Rattle.std.specs.Prelude.{map, Option, Some, None, Result, Ok, Err}
use Rattle.std.specs.List.{AllByRecursion}
use Rattle.std.proofs.Math.Seq.{take-append_seam}
use Rattle.std.proofs.lemmas.List.{drop-drop, drop-take, length-drop, length-take-le, take-append-drop}
use Rattle.dns_lexer.specs.declared.pieces.Span.{Span}
use Rattle.dns_lexer.specs.declared.pieces.Piece.{Piece}
use Rattle.dns_lexer.specs.declared.pieces.Piece.TheVariants.{Word as WordAt, Quote as QuoteAt, Comment as CommentAt, End as EndAt}
use Rattle.dns_lexer.specs.declared.pieces.Fault.{Fault}
use Rattle.dns_lexer.specs.Splitting.{Entries, Splits, with_token}
use Rattle.dns_lexer.specs.Pieces.{AreOctets, EachWithin, AreItemsOf, between, tokens_by_entry}
use Rattle.dns_lexer.specs.EntryTokens.{IsSeen, PartSeen, IsAsSpelled, TokenSeen, entries_seen, quote_seen, seen_from, spelled, word_seen}
use Rattle.dns_lexer.proofs.PieceSplit.{split_pieces}
use Rattle.dns_lexer.proofs.OctetsOnce.{given_once}
use Rattle.dns_lexer.proofs.OctetFaults.{given_alike}
use Rattle.dns_lexer.proofs.OctetOpeners.{splits_utf8}
use Rattle.dns_lexer.proofs.EntrySpans.{IsQuotedAt, given_quoted}

pub seen_once : (octets : List ℕ) (seen other : List (Result PartSeen Fault)) → IsSeen octets seen → IsSeen octets other → seen ≡ other
seen_once octets seen other s o = s.2 ∙ ap (seen_from octets 0 None) (given_once octets s.0 o.0 s.1 o.1) ∙ sym o.2

-- the text between double quotes
inner_is : (l inner : List ℕ) (n : ℕ) → n ≤ length l → take n l ≡ 34 ∷ (inner ++ 34 ∷ []) → (n ≡ length inner + 2) × (take (length inner) (drop 1 l) ≡ inner)
inner_is l inner n h e =
    let k : ℕ = length inner in
    let rest : List ℕ = drop 1 l in
    let long : n ≡ k + 2 = omega (arith, length-take-le n l h, ap length e, length-append inner (34 ∷ [])) in
    let all : take (1 + (k + 1)) l ≡ 34 ∷ (inner ++ 34 ∷ []) = ap (λ i. take i l) (omega (arith, long)) ∙ e in
    let some : take (k + 1) rest ≡ inner ++ 34 ∷ [] = sym (drop-take 1 (k + 1) l) ∙ ap (drop 1) all in
    let shape : rest ≡ inner ++ (34 ∷ drop (k + 1) rest) = sym (take-append-drop (k + 1) rest) ∙ ap (λ t. t ++ drop (k + 1) rest) some ∙ append_assoc inner (34 ∷ []) (drop (k + 1) rest) in
    (long, ap (take k) shape ∙ take-append_seam inner (34 ∷ drop (k + 1) rest))

inner_between : (octets inner : List ℕ) (s e : ℕ) → s ≤ e → e ≤ length octets → between octets s e ≡ 34 ∷ (inner ++ 34 ∷ []) → between octets (s + 1) (e - 1) ≡ inner
inner_between octets inner s e o w h =
    let i = inner_is (drop s octets) inner (e - s) (omega (arith, length-drop s octets, o, w)) h in
    ap (λ l. take (e - 1 - (s + 1)) l) (sym (drop-drop 1 s octets)) ∙ ap (λ n. take n (drop 1 (drop s octets))) (omega (arith, i.0)) ∙ i.1

-- a quoted string as it is spelled is all of it
quote_spelled : (octets : List ℕ) (ended : Option ℕ) (p : Span) → (p.start ≤ p.end) × (p.end ≤ length octets) → IsQuotedAt octets (Ok (QuoteAt p))
    → spelled (quote_seen octets ended p) ≡ between octets p.start p.end
quote_spelled octets ended p w q = ap (λ l. 34 ∷ (l ++ 34 ∷ [])) (inner_between octets q.0 p.start p.end w.0 w.1 q.1) ∙ sym q.1

cut_alike : (octets : List ℕ) (began : ℕ) (ended : Option ℕ) (found : List Piece) → EachWithin (length octets) (map Ok found) → AllByRecursion (IsQuotedAt octets) (map Ok found)
    → entries_seen (seen_from octets began ended (map Ok found)) ≡ tokens_by_entry octets found
cut_alike octets began ended [] w q = refl
cut_alike octets began ended (WordAt p ∷ found) w q = ap (with_token (between octets p.start p.end)) (cut_alike octets began (Some p.end) found w.1 q.1)
cut_alike octets began ended (QuoteAt p ∷ found) w q =
    ap (λ t. with_token t (entries_seen (seen_from octets began (Some p.end) (map Ok found)))) (quote_spelled octets ended p w.0 q.0)
    ∙ ap (with_token (between octets p.start p.end)) (cut_alike octets began (Some p.end) found w.1 q.1)
cut_alike octets began ended (CommentAt p ∷ found) w q = cut_alike octets began ended found w.1 q.1
cut_alike octets began ended (EndAt e ∷ found) w q = ap (λ l. [] ∷ l) (cut_alike octets e.at None found w.1 q.1)

pub octet_entries : (octets : List ℕ) (found : List Piece) (seen : List (Result PartSeen Fault)) → AreItemsOf octets (map Ok found) → IsSeen octets seen → entries_seen seen ≡ tokens_by_entry octets found
octet_entries octets found seen g s =
    ap entries_seen (s.2 ∙ ap (seen_from octets 0 None) (given_once octets s.0 (map Ok found) s.1 g)) ∙ cut_alike octets 0 None found g.1 (given_quoted octets (map Ok found) g)

pub text_entries : (text : List ℕ) (found : Entries) (seen : List (Result PartSeen Fault)) → AreOctets text → Splits text found → IsSeen text seen → entries_seen seen ≡ found
text_entries text found seen ok t s =
    let p = split_pieces text found t in
    let g : AreItemsOf text (map Ok p.0) = (given_alike text (splits_utf8 text found t) ok (map Ok p.0)).0 (inl (record { found = p.0; is = refl; placed = p.1 })) in
    octet_entries text p.0 seen g s ∙ p.2

-- each token is at its offset
stands : (octets : List ℕ) (t : TokenSeen) (e : ℕ) → t.at ≤ e → e ≤ length octets → spelled t ≡ between octets t.at e → between octets t.at (t.at + length (spelled t)) ≡ spelled t
stands octets t e o w h =
    let long : length (spelled t) ≡ e - t.at = ap length h ∙ length-take-le (e - t.at) (drop t.at octets) (omega (arith, length-drop t.at octets, o, w)) in
    ap (between octets t.at) (omega (arith, long, o)) ∙ sym h

each_stands : (octets : List ℕ) (began : ℕ) (ended : Option ℕ) (given : List (Result Piece Fault)) → EachWithin (length octets) given → AllByRecursion (IsQuotedAt octets) given
    → AllByRecursion (IsAsSpelled octets) (seen_from octets began ended given)
each_stands octets began ended [] w q = tt
each_stands octets began ended (Ok (WordAt p) ∷ given) w q =
    (stands octets (word_seen octets ended p) p.end w.0.0 w.0.1 refl, each_stands octets began (Some p.end) given w.1 q.1)
each_stands octets began ended (Ok (QuoteAt p) ∷ given) w q =
    (stands octets (quote_seen octets ended p) p.end w.0.0 w.0.1 (quote_spelled octets ended p w.0 q.0), each_stands octets began (Some p.end) given w.1 q.1)
each_stands octets began ended (Ok (CommentAt p) ∷ given) w q = each_stands octets began ended given w.1 q.1
each_stands octets began ended (Ok (EndAt e) ∷ given) w q = (tt, each_stands octets e.at None given w.1 q.1)
each_stands octets began ended (Err f ∷ given) w q = (tt, each_stands octets began ended given w.1 q.1)

pub seen_stand : (octets : List ℕ) (seen : List (Result PartSeen Fault)) → IsSeen octets seen → AllByRecursion (IsAsSpelled octets) seen
seen_stand octets seen s = subst (AllByRecursion (IsAsSpelled octets)) (sym s.2) (each_stands octets 0 None s.0 s.1.1 (given_quoted octets s.0 s.1))
