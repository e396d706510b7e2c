-- What is seen up to the end of an entry that is not the last stays the same, whatever follows.
use Rattle.std.proofs.Common.{ℕ, ◌≡◌, ◌<◌, ◌≤◌, ◌+◌, ◌-◌, Bool, true, false, List, [], ◌∷◌, ◌++◌, length, take, drop, refl, sym, ap, ◌∙◌, subst, arith, inl, inr, Option, Some, None, Ok}
use Rattle.std.specs.Prelude.{⊤, IfSome, map, nat_lt}
use Rattle.std.specs.List.{list_all}
use Rattle.std.proofs.Math.Seq.{drop-append_seam}
use Rattle.std.proofs.lemmas.Bool.{and_parts, cases_lt}
use Rattle.std.proofs.lemmas.List.Folds.{list_all-append}
use Rattle.std.proofs.lemmas.List.{append-nil, drop-append-le, length-drop, length-take-le, take-append-drop, take-append-le}
use Rattle.dns_lexer.specs.declared.pieces.EndOfEntry.{EndOfEntry}
use Rattle.dns_lexer.specs.declared.pieces.Piece.{Piece}
use Rattle.dns_lexer.specs.declared.pieces.Piece.TheVariants.{Word as WordAt, Quote as QuoteAt, Comment as CommentAt, End as EndAt}
use Rattle.dns_lexer.specs.EntryTokens.{EndIs, TokenIs, ends_at, quote_seen, seen_from, word_seen}
use Rattle.dns_lexer.specs.Pieces.{AreOctets, EachWithin, AreItemsOf, between, later, next_blank}
use Rattle.dns_lexer.specs.CursorStates.{AreItemsFrom, at_entry, blank_at}
use Rattle.dns_lexer.proofs.Blocks.{both_octets, entries_stay}
use Rattle.dns_lexer.proofs.EntryParts.{starts}
use Rattle.dns_lexer.proofs.Standings.{given_left, left_blank, left_entry}
use Rattle.zone_reader.specs.TextPieces.{EndedEntriesStay, seen_later}
use Rattle.zone_reader.proofs.RestsSeen.{Given, alone_later, end_given, given_last, pieces_there, some_given}

-- ---- whether an entry begins with a blank is known at its end

abbrev flag_of : List Piece → EndOfEntry → Bool
flag_of [] e = e.begins_blank
flag_of (WordAt p ∷ found) e = flag_of found e
flag_of (QuoteAt p ∷ found) e = flag_of found e
flag_of (CommentAt p ∷ found) e = flag_of found e
flag_of (EndAt x ∷ found) e = x.begins_blank

next_flag : (found : List Piece) (e : EndOfEntry) (rest : Given) → next_blank (map Ok found ++ (Ok (EndAt e) ∷ rest)) ≡ Some (flag_of found e)
next_flag [] e rest = refl
next_flag (WordAt p ∷ found) e rest = next_flag found e rest
next_flag (QuoteAt p ∷ found) e rest = next_flag found e rest
next_flag (CommentAt p ∷ found) e rest = next_flag found e rest
next_flag (EndAt x ∷ found) e rest = refl

flag_is : (octets : List ℕ) (at : ℕ) (found : List Piece) (e : EndOfEntry) (rest : Given) → AreOctets octets → AreItemsFrom octets at (map Ok found ++ (Ok (EndAt e) ∷ rest)) → blank_at octets at ≡ flag_of found e
flag_is octets at found e rest are g =
    let given : Given = map Ok found ++ (Ok (EndAt e) ∷ rest) in
    subst (λ o. IfSome o (λ x. blank_at octets at ≡ x)) (next_flag found e rest) (left_blank octets (at_entry at) given are (left_entry octets at are given g))

-- ---- texts that begin alike

abbrev SameBlanks : List ℕ → List ℕ → List Piece → Type 0
SameBlanks a b [] = ⊤
SameBlanks a b (WordAt p ∷ found) = SameBlanks a b found
SameBlanks a b (QuoteAt p ∷ found) = SameBlanks a b found
SameBlanks a b (CommentAt p ∷ found) = SameBlanks a b found
SameBlanks a b (EndAt e ∷ found) = (blank_at a e.at ≡ blank_at b e.at) × SameBlanks a b found

behind_one : (done : List Piece) (p : Piece) (rest : Given) → map Ok done ++ (Ok p ∷ rest) ≡ map Ok (done ++ p ∷ []) ++ rest
behind_one [] p rest = refl
behind_one (q ∷ done) p rest = ap (λ l. Ok q ∷ l) (behind_one done p rest)

some_behind : (found : List Piece) (e : EndOfEntry) (rest : Given) → 0 < length (map Ok found ++ (Ok (EndAt e) ∷ rest))
some_behind [] e rest = omega arith
some_behind (p ∷ found) e rest = omega arith

module _ (a b : List ℕ) (are : AreOctets a) (are_too : AreOctets b) (e : EndOfEntry) (rest other : Given) where
  abbrev tail : List Piece → Given
  tail found = map Ok found ++ (Ok (EndAt e) ∷ rest)

  abbrev tail_too : List Piece → Given
  tail_too found = map Ok found ++ (Ok (EndAt e) ∷ other)

  blanks_alike : (done found : List Piece) → AreItemsOf a (map Ok done ++ tail found) → AreItemsOf b (map Ok done ++ tail_too found) → SameBlanks a b found
  blanks_alike done [] g h = tt
  blanks_alike done (WordAt p ∷ found) g h =
      blanks_alike (done ++ WordAt p ∷ []) found (subst (AreItemsOf a) (behind_one done (WordAt p) (tail found)) g) (subst (AreItemsOf b) (behind_one done (WordAt p) (tail_too found)) h)
  blanks_alike done (QuoteAt p ∷ found) g h =
      blanks_alike (done ++ QuoteAt p ∷ []) found (subst (AreItemsOf a) (behind_one done (QuoteAt p) (tail found)) g) (subst (AreItemsOf b) (behind_one done (QuoteAt p) (tail_too found)) h)
  blanks_alike done (CommentAt p ∷ found) g h =
      blanks_alike (done ++ CommentAt p ∷ []) found (subst (AreItemsOf a) (behind_one done (CommentAt p) (tail found)) g) (subst (AreItemsOf b) (behind_one done (CommentAt p) (tail_too found)) h)
  blanks_alike done (EndAt x ∷ found) g h = (
    flag_is a x.at found e rest are (pieces_there a done x (tail found) are g (some_behind found e rest))
        ∙ sym (flag_is b x.at found e other are_too (pieces_there b done x (tail_too found) are_too h (some_behind found e other))),
    blanks_alike (done ++ EndAt x ∷ []) found (subst (AreItemsOf a) (behind_one done (EndAt x) (tail found)) g) (subst (AreItemsOf b) (behind_one done (EndAt x) (tail_too found)) h),
  )

between_front : (x r : List ℕ) (s t : ℕ) → t ≤ length x → between (x ++ r) s t ≡ between x s t
between_front x r s t h =
    elim (cases_lt t s) [
      | inl k ↦ (let none : t - s ≡ 0 = omega (arith, k) in ap (λ n. take n (drop s (x ++ r))) none ∙ sym (ap (λ n. take n (drop s x)) none))
      | inr k ↦ (let front : s ≤ length x = omega (arith, h, k) in ap (take (t - s)) (drop-append-le s x r front) ∙ take-append-le (t - s) (drop s x) r (omega (arith, length-drop s x, h, k)))
    ]

module _ (x r q : List ℕ) where
  between_both : (s t : ℕ) → t ≤ length x → between (x ++ r) s t ≡ between (x ++ q) s t
  between_both s t h = between_front x r s t h ∙ sym (between_front x q s t h)

  seen_alike : (began : ℕ) (ended : Option ℕ) (found : List Piece) → EachWithin (length x) (map Ok found) → blank_at (x ++ r) began ≡ blank_at (x ++ q) began → SameBlanks (x ++ r) (x ++ q) found
      → seen_from (x ++ r) began ended (map Ok found) ≡ seen_from (x ++ q) began ended (map Ok found)
  seen_alike began ended [] w b all = refl
  seen_alike began ended (WordAt p ∷ found) w b all =
      λ i. Ok (TokenIs (record { text = between_both p.start p.end w.0.1 i; is_quoted = false; is_adjacent = ends_at ended p.start; at = p.start }) (b i)) ∷ seen_alike began (Some p.end) found w.1 b all i
  seen_alike began ended (QuoteAt p ∷ found) w b all =
      let short : p.end - 1 ≤ length x = omega (arith, w.0.1) in
      λ i. Ok (TokenIs (record { text = between_both (p.start + 1) (p.end - 1) short i; is_quoted = true; is_adjacent = ends_at ended p.start; at = p.start }) (b i)) ∷ seen_alike began (Some p.end) found w.1 b all i
  seen_alike began ended (CommentAt p ∷ found) w b all = seen_alike began ended found w.1 b all
  seen_alike began ended (EndAt e ∷ found) w b all = ap (λ l. Ok (EndIs e) ∷ l) (seen_alike e.at None found w.1 all.0 all.1)

seen_up_to : (octets : List ℕ) (began : ℕ) (ended : Option ℕ) (found : List Piece) (e : EndOfEntry) (rest : Given)
    → seen_from octets began ended (map Ok found ++ (Ok (EndAt e) ∷ rest)) ≡ seen_from octets began ended (map Ok found) ++ (Ok (EndIs e) ∷ seen_from octets e.at None rest)
seen_up_to octets began ended [] e rest = refl
seen_up_to octets began ended (WordAt p ∷ found) e rest = ap (λ l. Ok (TokenIs (word_seen octets ended p) (blank_at octets began)) ∷ l) (seen_up_to octets began (Some p.end) found e rest)
seen_up_to octets began ended (QuoteAt p ∷ found) e rest = ap (λ l. Ok (TokenIs (quote_seen octets ended p) (blank_at octets began)) ∷ l) (seen_up_to octets began (Some p.end) found e rest)
seen_up_to octets began ended (CommentAt p ∷ found) e rest = seen_up_to octets began ended found e rest
seen_up_to octets began ended (EndAt x ∷ found) e rest = ap (λ l. Ok (EndIs x) ∷ l) (seen_up_to octets x.at None found e rest)

within_front : (n : ℕ) (found : List Piece) (rest : Given) → EachWithin n (map Ok found ++ rest) → EachWithin n (map Ok found)
within_front n [] rest w = tt
within_front n (p ∷ found) rest w = (w.0, within_front n found rest w.1)

within_end : (n : ℕ) (found : List Piece) (e : EndOfEntry) (rest : Given) → EachWithin n (map Ok found ++ (Ok (EndAt e) ∷ rest)) → e.at ≤ n
within_end n [] e rest w = w.0
within_end n (p ∷ found) e rest w = within_end n found e rest w.1

front_octets : (xs ys : List ℕ) → AreOctets (xs ++ ys) → AreOctets xs
front_octets xs ys h = (and_parts (list_all (λ c. nat_lt c 256) xs) (list_all (λ c. nat_lt c 256) ys) (sym (list_all-append (λ c. nat_lt c 256) xs ys) ∙ h)).0

pub ended_entries_stay : EndedEntriesStay
ended_entries_stay octets rest front left alone end are are_rest s some a =
    let h = end_given octets 0 None s.0 front end left (given_last octets s.0 s.1) (sym s.2) in
    let found : List Piece = h.found in
    let g : AreItemsOf octets (map Ok found ++ (Ok (EndAt end) ∷ h.rest)) = subst (AreItemsOf octets) h.is s.1 in
    let many = some_given octets end.at h.rest left h.left_is some in
    let x : List ℕ = take end.at octets in
    let back : List ℕ = drop end.at octets in
    let whole : x ++ back ≡ octets = take-append-drop end.at octets in
    let stay = entries_stay octets rest found end.at end.begins_blank h.rest a.0 are are_rest g many a.1 in
    let nothing = starts [] refl in
    let cut = entries_stay octets [] found end.at end.begins_blank h.rest nothing.0 are refl g many nothing.1 in
    let within : EachWithin (length x) (map Ok found) = within_front (length x) found _ (subst (λ l. EachWithin (length l) (map Ok found ++ (Ok (EndAt end) ∷ later end.at nothing.0))) (append-nil x) cut.1) in
    let are_all : AreOctets (x ++ rest) = both_octets x rest (front_octets x back (subst AreOctets (sym whole) are)) are_rest in
    let g_whole : AreItemsOf (x ++ back) (map Ok found ++ (Ok (EndAt end) ∷ h.rest)) = subst (λ o. AreItemsOf o (map Ok found ++ (Ok (EndAt end) ∷ h.rest))) (sym whole) g in
    let are_whole : AreOctets (x ++ back) = subst AreOctets (sym whole) are in
    let blanks = blanks_alike (x ++ back) (x ++ rest) are_whole are_all end h.rest (later end.at a.0) [] found g_whole stay in
    let first : blank_at (x ++ back) 0 ≡ blank_at (x ++ rest) 0 = flag_at (x ++ back) are_whole found end h.rest g_whole ∙ sym (flag_at (x ++ rest) are_all found end (later end.at a.0) stay) in
    let same : seen_from (x ++ back) 0 None (map Ok found) ≡ seen_from (x ++ rest) 0 None (map Ok found) = seen_alike x back rest 0 None found within first blanks in
    let front_is : front ≡ seen_from (x ++ rest) 0 None (map Ok found) = h.front_is ∙ ap (λ o. seen_from o 0 None (map Ok found)) (sym whole) ∙ same in
    let long : length x ≡ end.at = length-take-le end.at octets (within_end (length octets) found end h.rest g.1) in
    let behind : drop end.at (x ++ rest) ≡ rest = ap (λ n. drop n (x ++ rest)) (sym long) ∙ drop-append_seam x rest in
    let last : map (seen_later end.at) alone ≡ seen_from (x ++ rest) end.at None (later end.at a.0) =
    ap (map (seen_later end.at)) (a.2 ∙ ap (λ o. seen_from o 0 None a.0) (sym behind)) ∙ sym (alone_later (x ++ rest) end.at a.0) in (
      map Ok found ++ (Ok (EndAt end) ∷ later end.at a.0),
      stay,
      ap (λ l. l ++ (Ok (EndIs end) ∷ map (seen_later end.at) alone)) front_is ∙ ap (λ l. seen_from (x ++ rest) 0 None (map Ok found) ++ (Ok (EndIs end) ∷ l)) last
          ∙ sym (seen_up_to (x ++ rest) 0 None found end (later end.at a.0)),
    )
  where
    flag_at : (octets : List ℕ) → AreOctets octets → (found : List Piece) (e : EndOfEntry) (rest : Given) → AreItemsOf octets (map Ok found ++ (Ok (EndAt e) ∷ rest)) → blank_at octets 0 ≡ flag_of found e
    flag_at octets are found e rest g =
        let given : Given = map Ok found ++ (Ok (EndAt e) ∷ rest) in
        subst (λ o. IfSome o (λ x. blank_at octets 0 ≡ x)) (next_flag found e rest) (left_blank octets (at_entry 0) given are (given_left octets given are g))
