-- The first entry of octets, and of a text that begins with them.
use Rattle.std.proofs.Common.{◌≡◌, ℕ, ◌+◌, ◌-◌, ◌<◌, ◌≤◌, Bool, true, false, List, [], ◌∷◌, ◌++◌, length, take, drop, refl, sym, ap, ◌∙◌, subst, arith, inl, inr, append-nil, append_assoc, length-drop, length-take-le, take_all}
use Rattle.std.specs.Prelude.{◌⊎◌, ◌↔◌, IsTrue, map, Option, Some, None, Result, Ok, Err, encode_utf8_all}
use Rattle.std.proofs.lemmas.Bool.{cases_lt}
use Rattle.std.proofs.lemmas.List.{drop-append-le, map-append, take-append-drop, take-append-le}
use Rattle.dns_lexer.specs.declared.pieces.EndOfEntry.{EndOfEntry}
use Rattle.dns_lexer.specs.declared.pieces.Fault.{Fault}
use Rattle.dns_lexer.specs.declared.pieces.Piece.{Piece}
use Rattle.dns_lexer.specs.declared.pieces.Piece.TheVariants.{Word as WordAt, Quote as QuoteAt, Comment as CommentAt, End as EndAt}
use Rattle.dns_lexer.specs.EntryTokens.{EndIs, TokenIs, quote_seen, seen_from, token_at, word_seen}
use Rattle.dns_lexer.specs.Pieces.{AreOctets, EachWithin, AreItemsOf, Reads, between, end_at, later, moved, moved_fault, moved_piece, place_of}
use Rattle.dns_lexer.specs.CursorStates.{blank_at}
use Rattle.dns_lexer.proofs.Blocks.{back_octets, both_octets, entries_stay, faults_stay}
use Rattle.dns_lexer.proofs.OctetsOnce.{run_given}
use Rattle.zone_format.proofs.Givens.{moved_oks}
use Rattle.dns_lexer.specs.PassedLine.{HasNoEnd, PassesEntry}
use Rattle.zone_reader.specs.FirstEntry.{StopsFirst, piece_tokens}
use Rattle.zone_stream.specs.First.{BeginsEntryWith, parts_of}
use Rattle.dns_octets.specs.Room.{Room}
use Rattle.rdata_fields.specs.declared.record_error.RecordError.{RecordError}
use Rattle.zone_reader.specs.declared.entry.ParsedEntry.{ParsedEntry}
use Rattle.zone_reader.specs.declared.state.State.{State}
use Rattle.zone_stream.specs.Yielding.{ReadsStop}
use Rattle.zone_stream.specs.Placed.{NothingRemains}
use Rattle.zone_stream.proofs.LastEnds.{ends_all, some_end, within_after, within_before}

-- ---- pieces of one entry

pub record Open (given left : List (Result Piece Fault)) : Type 0 where
  pub found : List Piece
  pub is_open : HasNoEnd found
  pub is : given ≡ map Ok found ++ left

pub none_open : (given : List (Result Piece Fault)) → Open given given
none_open given = record { found = []; is_open = tt; is = refl }

one_more : (found : List Piece) (p : Piece) → HasNoEnd found → HasNoEnd (p ∷ []) → HasNoEnd (found ++ p ∷ [])
one_more [] p h k = k
one_more (WordAt x ∷ found) p h k = one_more found p h k
one_more (QuoteAt x ∷ found) p h k = one_more found p h k
one_more (CommentAt x ∷ found) p h k = one_more found p h k
one_more (EndAt x ∷ found) p h k = elim h [ ]

pub open_on : (given left now : List (Result Piece Fault)) (p : Piece) → now ≡ Ok p ∷ left → HasNoEnd (p ∷ []) → Open given now → Open given left
open_on given left now p e k x = record {
  found = x.found ++ p ∷ [];
  is_open = one_more x.found p x.is_open k;
  is = x.is ∙ ap (λ l. map Ok x.found ++ l) e ∙ sym (append_assoc (map Ok x.found) (Ok p ∷ []) left) ∙ ap (λ l. l ++ left) (sym (map-append Ok x.found (p ∷ [])));
}

pub ends_here : (octets : List ℕ) (given left now : List (Result Piece Fault)) (end : EndOfEntry) → now ≡ Ok (EndAt end) ∷ left → AreItemsOf octets given → Open given now → StopsFirst octets (Ok end) left
ends_here octets given left now end e g x = record { found = x.found; is_open = x.is_open; given = subst (AreItemsOf octets) (x.is ∙ ap (λ l. map Ok x.found ++ l) e) g }

-- a line that is skipped is the first entry
some_left : (left : List (Result Piece Fault)) → (left ≡ [] → ⊥) → 0 < length left
some_left [] h = absurd (h refl)
some_left (x ∷ left) h = omega arith

pub passed_first : (octets : List ℕ) (last : Bool) (given left : List (Result Piece Fault)) (at : ℕ) → AreItemsOf octets given → PassesEntry given at left
    → (end : EndOfEntry) × (more : List (Result Piece Fault)) × StopsFirst octets (Ok end) more × (end.at ≡ at) × ((0 < length more) ⊎ (last ≡ true))
passed_first octets last given left at g p =
    (p.end, left, record { found = p.found; is_open = p.is_open; given = subst (AreItemsOf octets) p.is g }, p.ends_at, inl (some_left left p.some))

-- a syntax error comes last
oks_no_fault : (xs ys : List Piece) (f : Fault) (l : List (Result Piece Fault)) → map Ok xs ++ Err f ∷ l ≡ map Ok ys → ⊥
oks_no_fault [] [] f l e = cc
oks_no_fault [] (y ∷ ys) f l e = cc
oks_no_fault (x ∷ xs) [] f l e = cc
oks_no_fault (x ∷ xs) (y ∷ ys) f l e = let t : map Ok xs ++ Err f ∷ l ≡ map Ok ys = cc in oks_no_fault xs ys f l t

last_fault : (xs ys : List Piece) (f g : Fault) (l : List (Result Piece Fault)) → map Ok xs ++ Err f ∷ l ≡ map Ok ys ++ Err g ∷ [] → l ≡ []
last_fault [] [] f g l e = cc
last_fault [] (y ∷ ys) f g l e = cc
last_fault (x ∷ xs) [] f g l e = cc
last_fault (x ∷ xs) (y ∷ ys) f g l e = let t : map Ok xs ++ Err f ∷ l ≡ map Ok ys ++ Err g ∷ [] = cc in last_fault xs ys f g l t

fault_last : (octets : List ℕ) (found : List Piece) (f : Fault) (left : List (Result Piece Fault)) → AreItemsOf octets (map Ok found ++ Err f ∷ left) → left ≡ []
fault_last octets found f left g = go g.0
  where
    shape : map (moved (place_of octets)) (map Ok found ++ Err f ∷ left) ≡ map Ok (map (moved_piece (place_of octets)) found) ++ Err (moved_fault (place_of octets) f) ∷ map (moved (place_of octets)) left
    shape = map-append (moved (place_of octets)) (map Ok found) (Err f ∷ left) ∙ ap (λ l. l ++ Err (moved_fault (place_of octets) f) ∷ map (moved (place_of octets)) left) (moved_oks (place_of octets) found)

    none : (l : List (Result Piece Fault)) → map (moved (place_of octets)) l ≡ [] → l ≡ []
    none [] e = refl
    none (x ∷ l) e = cc

    go : Reads (encode_utf8_all octets) (map (moved (place_of octets)) (map Ok found ++ Err f ∷ left)) → left ≡ []
    go (inl w) = absurd (oks_no_fault (map (moved_piece (place_of octets)) found) w.found (moved_fault (place_of octets) f) (map (moved (place_of octets)) left) (sym shape ∙ w.is))
    go (inr b) = none left (last_fault (map (moved_piece (place_of octets)) found) b.found (moved_fault (place_of octets) f) b.fault (map (moved (place_of octets)) left) (sym shape ∙ b.is))

pub fails_here : (octets : List ℕ) (given left now : List (Result Piece Fault)) (f : Fault) → now ≡ Err f ∷ left → AreItemsOf octets given → Open given now → StopsFirst octets (Err f) []
fails_here octets given left now f e g x =
    let here = subst (AreItemsOf octets) (x.is ∙ ap (λ l. map Ok x.found ++ l) e) g in
    record { found = x.found; is_open = x.is_open; given = subst (λ l. AreItemsOf octets (map Ok x.found ++ Err f ∷ l)) (fault_last octets x.found f left here) here }

pub never_ends : (octets : List ℕ) (given now : List (Result Piece Fault)) → now ≡ [] → AreItemsOf octets given → Open given now → ⊥
never_ends octets given now none g x = some_end octets x.found x.is_open (subst (AreItemsOf octets) (x.is ∙ ap (λ l. map Ok x.found ++ l) none ∙ append-nil (map Ok x.found)) g)

pub before_end : (at n : ℕ) (b : Bool) → (IsTrue b ↔ (n ≤ at)) → b ≡ false → at < n
before_end at n b h e = elim (cases_lt at n) [
  | inl less ↦ less
  | inr most ↦ let t : IsTrue false = subst IsTrue e (h.1 most) in cc
]

-- ---- what is seen of the first entry

module _ (octets : List ℕ) (began : ℕ) where
  pub seen_end : (ended : Option ℕ) (found : List Piece) (end : EndOfEntry) (left : List (Result Piece Fault)) → HasNoEnd found
      → seen_from octets began ended (map Ok found ++ Ok (EndAt end) ∷ left) ≡ parts_of (blank_at octets began) (piece_tokens octets ended found) ++ Ok (EndIs end) ∷ seen_from octets end.at None left
  seen_end ended [] end left h = refl
  seen_end ended (WordAt p ∷ found) end left h = ap (λ l. Ok (TokenIs (word_seen octets ended p) (blank_at octets began)) ∷ l) (seen_end (Some p.end) found end left h)
  seen_end ended (QuoteAt p ∷ found) end left h = ap (λ l. Ok (TokenIs (quote_seen octets ended p) (blank_at octets began)) ∷ l) (seen_end (Some p.end) found end left h)
  seen_end ended (CommentAt p ∷ found) end left h = seen_end ended found end left h
  seen_end ended (EndAt e ∷ found) end left h = elim h [ ]

  pub seen_fault : (ended : Option ℕ) (found : List Piece) (f : Fault) → HasNoEnd found
      → seen_from octets began ended (map Ok found ++ Err f ∷ []) ≡ parts_of (blank_at octets began) (piece_tokens octets ended found) ++ Err f ∷ []
  seen_fault ended [] f h = refl
  seen_fault ended (WordAt p ∷ found) f h = ap (λ l. Ok (TokenIs (word_seen octets ended p) (blank_at octets began)) ∷ l) (seen_fault (Some p.end) found f h)
  seen_fault ended (QuoteAt p ∷ found) f h = ap (λ l. Ok (TokenIs (quote_seen octets ended p) (blank_at octets began)) ∷ l) (seen_fault (Some p.end) found f h)
  seen_fault ended (CommentAt p ∷ found) f h = seen_fault ended found f h
  seen_fault ended (EndAt e ∷ found) f h = elim h [ ]

-- ---- tokens are among the first octets

between_front : (base extra : List ℕ) (s e : ℕ) → e ≤ length base → between (base ++ extra) s e ≡ between base s e
between_front base extra s e h = elim (cases_lt (length base) s) [
  | inl past ↦ let none : e - s ≡ 0 = omega (arith, h, past) in ap (λ n. take n (drop s (base ++ extra))) none ∙ sym (ap (λ n. take n (drop s base)) none)
  | inr on ↦ ap (take (e - s)) (drop-append-le s base extra on) ∙ take-append-le (e - s) (drop s base) extra (omega (arith, length-drop s base, h, on))
]

pub tokens_front : (base extra : List ℕ) (ended : Option ℕ) (found : List Piece) → EachWithin (length base) (map Ok found) → piece_tokens (base ++ extra) ended found ≡ piece_tokens base ended found
tokens_front base extra ended [] w = refl
tokens_front base extra ended (WordAt p ∷ found) w =
    ap (λ t. token_at t false p.start ended ∷ piece_tokens (base ++ extra) (Some p.end) found) (between_front base extra p.start p.end w.0.1)
    ∙ ap (λ l. word_seen base ended p ∷ l) (tokens_front base extra (Some p.end) found w.1)
tokens_front base extra ended (QuoteAt p ∷ found) w =
    ap (λ t. token_at t true p.start ended ∷ piece_tokens (base ++ extra) (Some p.end) found) (between_front base extra (p.start + 1) (p.end - 1) (omega (arith, w.0.1)))
    ∙ ap (λ l. quote_seen base ended p ∷ l) (tokens_front base extra (Some p.end) found w.1)
tokens_front base extra ended (CommentAt p ∷ found) w = tokens_front base extra ended found w.1
tokens_front base extra ended (EndAt e ∷ found) w = tokens_front base extra None found w.1

begins_end : (text base extra : List ℕ) (found : List Piece) (end : EndOfEntry) (left : List (Result Piece Fault)) → base ++ extra ≡ text → EachWithin (length base) (map Ok found) → HasNoEnd found
    → AreItemsOf text (map Ok found ++ Ok (EndAt end) ∷ left) → BeginsEntryWith text (blank_at text 0) (piece_tokens base None found) (Ok end)
begins_end text base extra found end left is w h g =
    let tokens : piece_tokens text None found ≡ piece_tokens base None found = ap (λ l. piece_tokens l None found) (sym is) ∙ tokens_front base extra None found w in (
      seen_from text end.at None left,
      (
        map Ok found ++ Ok (EndAt end) ∷ left,
        g,
        ap (λ t. parts_of (blank_at text 0) t ++ Ok (EndIs end) ∷ seen_from text end.at None left) (sym tokens) ∙ sym (seen_end text 0 None found end left h),
      ),
    )

begins_fault : (text base extra : List ℕ) (found : List Piece) (f : Fault) → base ++ extra ≡ text → EachWithin (length base) (map Ok found) → HasNoEnd found
    → AreItemsOf text (map Ok found ++ Err f ∷ []) → BeginsEntryWith text (blank_at text 0) (piece_tokens base None found) (Err f)
begins_fault text base extra found f is w h g =
    let tokens : piece_tokens text None found ≡ piece_tokens base None found = ap (λ l. piece_tokens l None found) (sym is) ∙ tokens_front base extra None found w in
    (map Ok found ++ Err f ∷ [], g, ap (λ t. parts_of (blank_at text 0) t ++ Err f ∷ []) (sym tokens) ∙ sym (seen_fault text 0 None found f h))

-- ---- an entry is read alone, and is the same whatever follows

none_given : AreItemsOf [] (Ok (end_at 0 false) ∷ [])
none_given = run_given [] refl

module _ (rest : List ℕ) (ok : AreOctets rest) (end : EndOfEntry) where
  pub end_within : (left : List (Result Piece Fault)) → StopsFirst rest (Ok end) left → end.at ≤ length rest
  end_within left x = (within_after (length rest) x.found (Ok (EndAt end) ∷ left) x.given.1).0

  pub taken_length : (left : List (Result Piece Fault)) → StopsFirst rest (Ok end) left → length (take end.at rest) ≡ end.at
  taken_length left x = length-take-le end.at rest (end_within left x)

  all_taken : (x : StopsFirst rest (Ok end) []) → take end.at rest ≡ rest
  all_taken x = take_all end.at rest (omega (arith, ends_all rest x.found end x.given))

  -- the octets up to its end are the entry alone
  pub alone : (left : List (Result Piece Fault)) (x : StopsFirst rest (Ok end) left)
      → (behind : List (Result Piece Fault)) × AreItemsOf (take end.at rest) (map Ok x.found ++ Ok (EndAt end) ∷ behind) × NothingRemains (length (take end.at rest)) (Ok end) behind
  alone [] x = ([], subst (λ l. AreItemsOf l (map Ok x.found ++ Ok (EndAt end) ∷ [])) (sym (all_taken x)) x.given, sym (taken_length [] x))
  alone (y ∷ left) x =
      let stay = entries_stay rest [] x.found end.at end.begins_blank (y ∷ left) (Ok (end_at 0 false) ∷ []) ok refl x.given (omega arith) none_given in
      let n : ℕ = length (take end.at rest) in
      let here : end.at + 0 ≡ n = omega (arith, taken_length (y ∷ left) x) in (
        Ok (end_at n false) ∷ [],
        subst (λ l. AreItemsOf l (map Ok x.found ++ Ok (EndAt end) ∷ Ok (end_at n false) ∷ [])) (append-nil (take end.at rest))
            (subst (λ k. AreItemsOf (take end.at rest ++ []) (map Ok x.found ++ Ok (EndAt end) ∷ Ok (end_at k false) ∷ [])) here stay),
        (sym (taken_length (y ∷ left) x), refl),
      )

  pub found_within : (left : List (Result Piece Fault)) (x : StopsFirst rest (Ok end) left) → EachWithin (length (take end.at rest)) (map Ok x.found)
  found_within left x = let a = alone left x in within_before _ x.found (Ok (EndAt end) ∷ a.0) a.1.1

  -- the entry is the same, whatever follows
  pub stays : (left : List (Result Piece Fault)) (x : StopsFirst rest (Ok end) left) (more : List ℕ) → AreOctets more → (left ≡ [] → more ≡ [])
      → BeginsEntryWith (rest ++ more) (blank_at (rest ++ more) 0) (piece_tokens (take end.at rest) None x.found) (Ok end)
  stays [] x more m none =
      let same : rest ++ more ≡ rest = ap (λ l. rest ++ l) (none refl) ∙ append-nil rest in
      begins_end (rest ++ more) (take end.at rest) [] x.found end [] (append-nil (take end.at rest) ∙ all_taken x ∙ sym same) (found_within [] x) x.is_open
      (subst (λ l. AreItemsOf l (map Ok x.found ++ Ok (EndAt end) ∷ [])) (sym same) x.given)
  stays (y ∷ left) x more m none =
      let tail : List ℕ = drop end.at rest ++ more in
      let both : AreOctets tail = both_octets (drop end.at rest) more (back_octets (take end.at rest) (drop end.at rest) (subst AreOctets (sym (take-append-drop end.at rest)) ok)) m in
      go _ (run_given tail both)
    where
      go : (own : List (Result Piece Fault)) → AreItemsOf (drop end.at rest ++ more) own → BeginsEntryWith (rest ++ more) (blank_at (rest ++ more) 0) (piece_tokens (take end.at rest) None x.found) (Ok end)
      go own g =
          let tail : List ℕ = drop end.at rest ++ more in
          let both : AreOctets tail = both_octets (drop end.at rest) more (back_octets (take end.at rest) (drop end.at rest) (subst AreOctets (sym (take-append-drop end.at rest)) ok)) m in
          let shape : take end.at rest ++ tail ≡ rest ++ more = sym (append_assoc (take end.at rest) (drop end.at rest) more) ∙ ap (λ l. l ++ more) (take-append-drop end.at rest) in
          let stay = entries_stay rest tail x.found end.at end.begins_blank (y ∷ left) own ok both x.given (omega arith) g in
          begins_end (rest ++ more) (take end.at rest) tail x.found end (later end.at own) shape (found_within (y ∷ left) x) x.is_open
          (subst (λ l. AreItemsOf l (map Ok x.found ++ Ok (EndAt end) ∷ later end.at own)) shape stay)

-- and so is a syntax error
pub fault_stays : (rest : List ℕ) (f : Fault) (x : StopsFirst rest (Err f) []) (more : List ℕ) → AreOctets rest → AreOctets more → (f.at < length rest) ⊎ (more ≡ [])
    → BeginsEntryWith (rest ++ more) (blank_at (rest ++ more) 0) (piece_tokens rest None x.found) (Err f)
fault_stays rest f x more ok m why =
    begins_fault (rest ++ more) rest more x.found f refl (within_before (length rest) x.found (Err f ∷ []) x.given.1) x.is_open (go why)
  where
    go : (f.at < length rest) ⊎ (more ≡ []) → AreItemsOf (rest ++ more) (map Ok x.found ++ Err f ∷ [])
    go (inl less) = faults_stay rest more x.found f ok m x.given less
    go (inr none) = subst (λ l. AreItemsOf l (map Ok x.found ++ Err f ∷ [])) (sym (ap (λ l. rest ++ l) none ∙ append-nil rest)) x.given

-- ---- how the tokens are read

pub read_same : (room : Room) (slice octets : List ℕ) (b blank : Bool) (place at : ℕ) (before : State) (old : List ℕ) (read : Result ParsedEntry RecordError) (after : State) (new : List ℕ)
    → slice ≡ octets → b ≡ blank → place ≡ at → ReadsStop room slice b place before old read after new → ReadsStop room octets blank at before old read after new
read_same room slice octets b blank place at before old read after new e f h r =
    subst (λ l. ReadsStop room l blank at before old read after new) e (subst (λ (t : Bool). ReadsStop room slice t at before old read after new) f (subst (λ n. ReadsStop room slice b n before old read after new) h r))
