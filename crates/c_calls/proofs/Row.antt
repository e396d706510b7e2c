-- Entries in a row.
use Rattle.std.proofs.Common.{◌≡◌, ◌≤◌, ◌+◌, ◌-◌, ℕ, zero, suc, Bool, false, List, [], ◌∷◌, ◌++◌, length, drop, refl, sym, ap, subst, ◌∙◌, arith, drop-drop, inl, ⊎_elim, Result, Ok}
use Rattle.std.specs.Prelude.{⊤, map, encode_utf8_all}
use Rattle.std.proofs.lemmas.List.{length-drop}
use Rattle.dns_lexer.specs.Pieces.{IsPieces, IsOctetPieces, EachWithin, ReadsOctetsFrom, end_at, moved, moved_piece, place_of}
use Rattle.dns_lexer.specs.declared.pieces.EndOfEntry.{EndOfEntry}
use Rattle.dns_lexer.specs.declared.pieces.Fault.{Fault}
use Rattle.dns_lexer.specs.declared.pieces.Piece.{Piece}
use Rattle.dns_lexer.specs.declared.pieces.Piece.TheVariants.{Word as WordAt, Quote as QuoteAt, Comment as CommentAt, End as EndAt}
use Rattle.dns_lexer.proofs.PieceJoins.{pieces_joined}
use Rattle.dns_lexer.proofs.OctetJoins.{octet_pieces_continue}
use Rattle.c_calls.specs.Entries.{tokens_of, stop_of, is_nothing, token_between, with_first, entries_of_pieces, InARow}
use Rattle.c_calls.specs.declared.tokens.EntryEnd.TheVariants.{End}

-- one of them is the end of an entry
abbrev HasEnd : List Piece → Type 0
HasEnd [] = ⊥
HasEnd (WordAt p ∷ ps) = HasEnd ps
HasEnd (QuoteAt p ∷ ps) = HasEnd ps
HasEnd (CommentAt p ∷ ps) = HasEnd ps
HasEnd (EndAt e ∷ ps) = ⊤

ends_last : (front : List Piece) (n : ℕ) (b : Bool) → HasEnd (front ++ end_at n b ∷ [])
ends_last [] n b = tt
ends_last (WordAt p ∷ ps) n b = ends_last ps n b
ends_last (QuoteAt p ∷ ps) n b = ends_last ps n b
ends_last (CommentAt p ∷ ps) n b = ends_last ps n b
ends_last (EndAt e ∷ ps) n b = tt

has_back : (f : ℕ → ℕ) (found : List Piece) → HasEnd (map (moved_piece f) found) → HasEnd found
has_back f [] h = h
has_back f (WordAt p ∷ ps) h = has_back f ps h
has_back f (QuoteAt p ∷ ps) h = has_back f ps h
has_back f (CommentAt p ∷ ps) h = has_back f ps h
has_back f (EndAt e ∷ ps) h = tt

none_pieces : IsPieces [] (end_at 0 false ∷ [])
none_pieces = record { lexemes = []; spelled = refl; valid = refl; nested = refl; placed = refl }

pieces_end : (octets : List ℕ) (found : List Piece) → IsOctetPieces octets found → HasEnd found
pieces_end octets found p =
    let j = pieces_joined (encode_utf8_all octets) [] false (map (moved_piece (place_of octets)) found) (end_at 0 false ∷ []) p none_pieces in
    has_back (place_of octets) found (subst HasEnd (sym j.2) (ends_last j.0 (length (encode_utf8_all octets)) j.1))

moved_nothing : (f : ℕ → ℕ) (ps : List Piece) → is_nothing (map (moved_piece f) ps) ≡ is_nothing ps
moved_nothing f [] = refl
moved_nothing f (p ∷ ps) = refl

no_nothing : (ps : List Piece) → HasEnd ps → is_nothing ps ≡ false
no_nothing [] h = absurd h
no_nothing (p ∷ ps) h = refl

nothing_moved : (f : ℕ → ℕ) (ps : List Piece) → is_nothing (map {A = Piece} {B = Result Piece Fault} Ok (map (moved_piece f) ps)) ≡ is_nothing ps
nothing_moved f [] = refl
nothing_moved f (p ∷ ps) = refl

-- the first entry of pieces that were moved, and what follows it
record First (f : ℕ → ℕ) (found : List Piece) : Type 0 where
  front : List Piece
  at : ℕ
  blank : Bool
  more : List Piece
  is : found ≡ front ++ end_at at blank ∷ more
  entries : entries_of_pieces (map (moved_piece f) found) ≡ tokens_of (map Ok (map (moved_piece f) found)) ∷ entries_of_pieces (map (moved_piece f) more)
  stops : stop_of (map Ok (map (moved_piece f) found)) ≡ End (record { at = f at; begins_blank = blank }) (is_nothing more)

first_of : (f : ℕ → ℕ) (found : List Piece) → HasEnd found → First f found
first_of f [] h = absurd h
first_of f (WordAt p ∷ ps) h =
    let r = first_of f ps h in
    record {
      front = WordAt p ∷ r.front;
      at = r.at;
      blank = r.blank;
      more = r.more;
      is = ap (λ l. WordAt p ∷ l) r.is;
      entries = ap (with_first (token_between (f p.start) (f p.end) 0)) r.entries;
      stops = r.stops;
    }
first_of f (QuoteAt p ∷ ps) h =
    let r = first_of f ps h in
    record {
      front = QuoteAt p ∷ r.front;
      at = r.at;
      blank = r.blank;
      more = r.more;
      is = ap (λ l. QuoteAt p ∷ l) r.is;
      entries = ap (with_first (token_between (f p.start) (f p.end) 1)) r.entries;
      stops = r.stops;
    }
first_of f (CommentAt p ∷ ps) h =
    let r = first_of f ps h in
    record { front = CommentAt p ∷ r.front; at = r.at; blank = r.blank; more = r.more; is = ap (λ l. CommentAt p ∷ l) r.is; entries = r.entries; stops = r.stops }
first_of f (EndAt e ∷ ps) h =
    record { front = []; at = e.at; blank = e.begins_blank; more = ps; is = refl; entries = refl; stops = ap (λ b. End (record { at = f e.at; begins_blank = e.begins_blank }) b) (nothing_moved f ps) }

-- offsets that are moved twice
twice : (a b : ℕ) (ps : List Piece) → map (moved_piece (λ i. a + i)) (map (moved_piece (λ i. b + i)) ps) ≡ map (moved_piece (λ i. a + b + i)) ps
twice a b [] = refl
twice a b (p ∷ ps) = (λ i. one p i ∷ twice a b ps i)
  where
    sum : (i : ℕ) → a + (b + i) ≡ a + b + i
    sum i = omega arith

    one : (p : Piece) → moved_piece (λ i. a + i) (moved_piece (λ i. b + i) p) ≡ moved_piece (λ i. a + b + i) p
    one (WordAt p) = (λ i. WordAt (record { start = sum p.start i; end = sum p.end i }))
    one (QuoteAt p) = (λ i. QuoteAt (record { start = sum p.start i; end = sum p.end i }))
    one (CommentAt p) = (λ i. CommentAt (record { start = sum p.start i; end = sum p.end i }))
    one (EndAt e) = (λ i. EndAt (record { at = sum e.at i; begins_blank = e.begins_blank }))

pub map_ok : (f : ℕ → ℕ) (ps : List Piece) → map (moved f) (map Ok ps) ≡ map Ok (map (moved_piece f) ps)
map_ok f [] = refl
map_ok f (p ∷ ps) = ap (λ l. Ok (moved_piece f p) ∷ l) (map_ok f ps)

-- offsets that are within the octets
end_within : (n : ℕ) (front : List Piece) (at : ℕ) (b : Bool) (more : List Piece) → EachWithin n (map Ok (front ++ end_at at b ∷ more)) → (at ≤ n) × EachWithin n (map Ok more)
end_within n [] at b more w = w
end_within n (p ∷ ps) at b more w = end_within n ps at b more w.1

within_back : (n k : ℕ) (ps : List Piece) → EachWithin n (map Ok (map (moved_piece (λ i. k + i)) ps)) → EachWithin (n - k) (map Ok ps)
within_back n k [] w = tt
within_back n k (WordAt p ∷ ps) w = ((omega (arith, w.0.0), omega (arith, w.0.1)), within_back n k ps w.1)
within_back n k (QuoteAt p ∷ ps) w = ((omega (arith, w.0.0), omega (arith, w.0.1)), within_back n k ps w.1)
within_back n k (CommentAt p ∷ ps) w = ((omega (arith, w.0.0), omega (arith, w.0.1)), within_back n k ps w.1)
within_back n k (EndAt e ∷ ps) w = (omega (arith, w.0), within_back n k ps w.1)

fewer : (front : List Piece) (at : ℕ) (b : Bool) (more found : List Piece) → found ≡ front ++ end_at at b ∷ more → length more + 1 ≤ length found
fewer front at b more found is = subst (λ l. length more + 1 ≤ length l) (sym is) (by front)
  where
    by : (front : List Piece) → length more + 1 ≤ length (front ++ end_at at b ∷ more)
    by [] = omega arith
    by (p ∷ ps) = omega (arith, by ps)

same_length : (f : ℕ → ℕ) (ps : List Piece) → length (map (moved_piece f) ps) ≡ length ps
same_length f [] = refl
same_length f (p ∷ ps) = ap suc (same_length f ps)

-- the pieces from an offset on
reads_there : (text : List ℕ) (at : ℕ) (alone : List Piece) → IsOctetPieces (drop at text) alone → ReadsOctetsFrom text at (map Ok (map (moved_piece (λ i. at + i)) alone))
reads_there text at alone p =
    (map Ok alone, inl (record { found = map (moved_piece (place_of (drop at text))) alone; is = map_ok (place_of (drop at text)) alone; placed = p }), sym (map_ok (λ i. at + i) alone))

-- pieces, at most in this number, are entries in a row
abbrev Rows : ℕ → List ℕ → Type 0
Rows n text = (at : ℕ) (alone : List Piece) → length alone ≤ n → IsOctetPieces (drop at text) alone → EachWithin (length (drop at text)) (map Ok alone)
    → InARow text at (entries_of_pieces (map (moved_piece (λ i. at + i)) alone))

one_more : (n : ℕ) (text : List ℕ) → Rows n text → Rows (suc n) text
one_more n text rows at alone few p w =
    subst (InARow text at) (sym f.entries)
    (⊎_elim last goes (octet_pieces_continue (drop at text) f.at within.0 f.front f.more f.blank (subst (IsOctetPieces (drop at text)) f.is p)))
  where
    f : First (λ i. at + i) alone
    f = first_of (λ i. at + i) alone (pieces_end (drop at text) alone p)

    within : (f.at ≤ length (drop at text)) × EachWithin (length (drop at text)) (map Ok f.more)
    within = end_within (length (drop at text)) f.front f.at f.blank f.more (subst (λ l. EachWithin (length (drop at text)) (map Ok l)) f.is w)

    given : List (Result Piece Fault)
    given = map Ok (map (moved_piece (λ i. at + i)) alone)

    end : EndOfEntry
    end = record { at = at + f.at; begins_blank = f.blank }

    last : f.more ≡ [] → InARow text at (tokens_of given ∷ entries_of_pieces (map (moved_piece (λ i. at + i)) f.more))
    last none =
        let rest : entries_of_pieces (map (moved_piece (λ i. at + i)) f.more) ≡ [] = ap (λ l. entries_of_pieces (map (moved_piece (λ i. at + i)) l)) none in
        (given, end, reads_there text at alone p, refl, f.stops ∙ (λ i. End end (is_nothing (none i))) ∙ (λ i. End end (is_nothing (sym rest i))), λ some. absurd (some rest))

    goes : (follow : List Piece) × IsOctetPieces (drop f.at (drop at text)) follow × (f.more ≡ map (moved_piece (λ i. f.at + i)) follow)
        → InARow text at (tokens_of given ∷ entries_of_pieces (map (moved_piece (λ i. at + i)) f.more))
    goes g =
        let there : drop f.at (drop at text) ≡ drop (at + f.at) text = drop-drop f.at at text in
        let pieces = subst (λ l. IsOctetPieces l g.0) there g.1 in
        let few' : length g.0 ≤ n = omega (arith, few, fewer f.front f.at f.blank f.more alone f.is, ap length g.2, same_length (λ i. f.at + i) g.0) in
        let left : length (drop at text) - f.at ≡ length (drop (at + f.at) text) = omega (arith, length-drop at text, length-drop (at + f.at) text) in
        let w' = subst (λ l. EachWithin l (map Ok g.0)) left
        (within_back (length (drop at text)) f.at g.0 (subst (λ l. EachWithin (length (drop at text)) (map Ok l)) g.2 within.1)) in
        let next = rows (at + f.at) g.0 few' pieces w' in
        let entries : entries_of_pieces (map (moved_piece (λ i. at + f.at + i)) g.0) ≡ entries_of_pieces (map (moved_piece (λ i. at + i)) f.more) =
        ap entries_of_pieces (sym (ap (map (moved_piece (λ i. at + i))) g.2 ∙ twice at f.at g.0)) in
        let follows = subst (InARow text (at + f.at)) entries next in
        let some : HasEnd g.0 = pieces_end (drop (at + f.at) text) g.0 pieces in
        let more : is_nothing f.more ≡ false = ap is_nothing g.2 ∙ moved_nothing (λ i. f.at + i) g.0 ∙ no_nothing g.0 some in
        let rest : is_nothing (entries_of_pieces (map (moved_piece (λ i. at + i)) f.more)) ≡ false = ap is_nothing (sym entries) ∙ ap is_nothing ((first_of (λ i. at + f.at + i) g.0 some).entries) in
        (given, end, reads_there text at alone p, refl, f.stops ∙ ap (End end) (more ∙ sym rest), λ _. follows)

row : (n : ℕ) (text : List ℕ) → Rows n text
row zero text at [] few p w = absurd (pieces_end (drop at text) [] p)
row zero text at (q ∷ alone) few p w = absurd (omega (arith, few))
row (suc n) text at alone few p w = one_more n text (row n text) at alone few p w

-- from the start
unmoved : (ps : List Piece) → map (moved_piece (λ i. 0 + i)) ps ≡ ps
unmoved [] = refl
unmoved (p ∷ ps) = (λ i. one p i ∷ unmoved ps i)
  where
    sum : (i : ℕ) → 0 + i ≡ i
    sum i = omega arith

    one : (p : Piece) → moved_piece (λ i. 0 + i) p ≡ p
    one (WordAt p) = (λ i. WordAt (record { start = sum p.start i; end = sum p.end i }))
    one (QuoteAt p) = (λ i. QuoteAt (record { start = sum p.start i; end = sum p.end i }))
    one (CommentAt p) = (λ i. CommentAt (record { start = sum p.start i; end = sum p.end i }))
    one (EndAt e) = (λ i. EndAt (record { at = sum e.at i; begins_blank = e.begins_blank }))

pub entries_in_a_row : (text : List ℕ) (found : List Piece) → IsOctetPieces text found → EachWithin (length text) (map Ok found) → InARow text 0 (entries_of_pieces found)
entries_in_a_row text found p w = subst (λ l. InARow text 0 (entries_of_pieces l)) (unmoved found) (row (length found) text 0 found (omega arith) p w)
