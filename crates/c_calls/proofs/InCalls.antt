-- What calls return one after another.
use Rattle.std.proofs.Common.{◌≡◌, ◌<◌, ◌≤◌, ◌+◌, ◌-◌, ℕ, zero, suc, Bool, List, [], ◌∷◌, ◌++◌, length, take, drop, refl, sym, ap, subst, ◌∙◌, arith, drop-drop, inl, inr, ◌⊎◌, ⊎_elim, Result, Ok, Err}
use Rattle.std.specs.Prelude.{map, min, nat_lt, encode_utf8_all}
use Rattle.std.proofs.lemmas.Bool.{and_parts, cases_lt}
use Rattle.std.proofs.lemmas.List.{length-drop, take-append-drop}
use Rattle.dns_octets.specs.Octets.{greatest_length}
use Rattle.dns_lexer.specs.Unclosed.{IsOpener}
use Rattle.dns_lexer.specs.Pieces.{AreOctets, EachWithin, AreItemsOf, ReadsOctetsFrom, between, tokens_by_entry, end_at, later, moved, moved_fault, moved_piece, place_of}
use Rattle.dns_lexer.specs.declared.pieces.Fault.{Fault as TextFault}
use Rattle.dns_lexer.specs.declared.pieces.Piece.{Piece}
use Rattle.dns_lexer.specs.declared.pieces.Piece.TheVariants.{Word as WordAt, Quote as QuoteAt, Comment as CommentAt, End as EndAt}
use Rattle.dns_lexer.specs.Splitting.{Entries, Splits, with_token}
use Rattle.dns_lexer.proofs.Agree.{octets_have_pieces}
use Rattle.dns_lexer.proofs.Blocks.{entries_stay, later_later, nothing_given}
use Rattle.dns_lexer.proofs.OctetsOnce.{given_once, octet_scalars, run_given}
use Rattle.dns_lexer.proofs.PieceGiven.{tail_of}
use Rattle.dns_lexer.proofs.PieceParts.{each_within}
use Rattle.dns_lexer.proofs.PieceSplit.{split_pieces}
use Rattle.dns_lexer.proofs.PieceWhole.{pieces_run}
use Rattle.dns_lexer.specs.declared.pieces.Wrong.{Wrong}
use Rattle.dns_lexer.specs.declared.pieces.Wrong.TheVariants.{Closing as NoneOpen, OpenParenthesis as NotClosed, OpenQuote as NotQuoted, LoneReturn as NoFeed, BadEscape as NoEscape}
use Rattle.c_calls.specs.Calls.{EntryReport, entry_report, with_token_before, reported_entries, CallReports, Calls, last_status, token_octets}
use Rattle.c_calls.specs.Entries.{bit, counted, is_nothing, refusal_of_wrong, stop_of, token_between, tokens_of, written_over_start, ReportsEntry, Opens, ReadsEntry}
use Rattle.c_calls.specs.declared.outcome.Refusal.TheVariants.{OpenParenthesis}
use Rattle.c_calls.proofs.Row.{map_ok}
use Rattle.c_calls.proofs.Begun.{Begins, begins_next, ends_with_line, opener_of_text}
use Rattle.c_calls.specs.Reports.{number_of}
use Rattle.c_calls.specs.declared.outcome.Outcome.{Outcome}
use Rattle.c_calls.specs.declared.tokens.Cursor.{Cursor}
use Rattle.c_calls.specs.declared.tokens.EntryEnd.{EntryEnd}
use Rattle.c_calls.specs.declared.tokens.EntryEnd.TheVariants.{End, Fault, Nothing}
use Rattle.c_calls.specs.declared.tokens.Token.{Token as TokenAt}

abbrev Given : Type 0
Given = List (Result Piece TextFault)

cancel : (xs l m : Given) → xs ++ l ≡ xs ++ m → l ≡ m
cancel [] l m e = e
cancel (x ∷ xs) l m e = cancel xs l m (ap tail_of e)

pub drop_octets : (n : ℕ) (octets : List ℕ) → AreOctets octets → AreOctets (drop n octets)
drop_octets zero octets h = h
drop_octets (suc n) [] h = h
drop_octets (suc n) (x ∷ octets) h = drop_octets n octets (and_parts (nat_lt x 256) _ h).1

within_back : (n k : ℕ) (given : Given) → EachWithin n (later k given) → EachWithin (n - k) given
within_back n k [] w = tt
within_back n k (Ok (WordAt p) ∷ given) w = ((omega (arith, w.0.0), omega (arith, w.0.1)), within_back n k given w.1)
within_back n k (Ok (QuoteAt p) ∷ given) w = ((omega (arith, w.0.0), omega (arith, w.0.1)), within_back n k given w.1)
within_back n k (Ok (CommentAt p) ∷ given) w = ((omega (arith, w.0.0), omega (arith, w.0.1)), within_back n k given w.1)
within_back n k (Ok (EndAt p) ∷ given) w = (omega (arith, w.0), within_back n k given w.1)
within_back n k (Err f ∷ given) w = (omega (arith, w.0), within_back n k given w.1)

end_within : (n : ℕ) (front : List Piece) (at : ℕ) (b : Bool) (left : Given) → EachWithin n (map Ok front ++ Ok (end_at at b) ∷ left) → at ≤ n
end_within n [] at b left w = w.0
end_within n (p ∷ front) at b left w = end_within n front at b left w.1

pub some_given : (octets : List ℕ) → AreOctets octets → (given : Given) × AreItemsOf octets given
some_given octets o = (_, run_given octets o)

-- the pieces from an offset on are those of the octets from there
pub once : (text : List ℕ) (at : ℕ) (given alone : Given) → ReadsOctetsFrom text at given → EachWithin (length text) given → AreItemsOf (drop at text) alone → given ≡ later at alone
once text at given alone r w g =
    let far = within_back (length text) at r.0 (subst (EachWithin (length text)) r.2 w) in
    let here = subst (λ n. EachWithin n r.0) (sym (length-drop at text)) far in
    r.2 ∙ ap (later at) (given_once (drop at text) r.0 alone (r.1, here) g)

-- the pieces after an entry's end are those of the octets from there
follows : (octets : List ℕ) (alone next left : Given) (front : List Piece) (end : ℕ) (blank : Bool) → AreOctets octets → alone ≡ map Ok front ++ Ok (end_at end blank) ∷ left → 0 < length left
    → AreItemsOf octets alone → AreItemsOf (drop end octets) next → left ≡ later end next
follows octets alone next left front end blank o is some g h =
    let here = subst (AreItemsOf octets) is g in
    let stay = entries_stay octets (drop end octets) front end blank left next o (drop_octets end octets o) here some h in
    let there = subst (λ l. AreItemsOf l (map Ok front ++ Ok (end_at end blank) ∷ later end next)) (take-append-drop end octets) stay in
    ap tail_of (cancel (map Ok front) (Ok (end_at end blank) ∷ left) (Ok (end_at end blank) ∷ later end next)
    (given_once octets (map Ok front ++ Ok (end_at end blank) ∷ left) (map Ok front ++ Ok (end_at end blank) ∷ later end next) here there))

-- the first entry ends, or a syntax error stops it
record Ends (at : ℕ) (alone : Given) : Type 0 where
  front : List Piece
  end : ℕ
  blank : Bool
  left : Given
  is : alone ≡ map Ok front ++ Ok (end_at end blank) ∷ left
  stops : stop_of (later at alone) ≡ End (record { at = at + end; begins_blank = blank }) (is_nothing left)
  tells : reported_entries (later at alone) ≡ entry_report (tokens_of (later at alone)) 0 0 ∷ reported_entries (later at left)

record Fails (at : ℕ) (alone : Given) : Type 0 where
  fault : TextFault
  stops : stop_of (later at alone) ≡ Fault fault
  tells : reported_entries (later at alone) ≡ entry_report (tokens_of (later at alone)) (number_of (refusal_of_wrong fault.wrong)) fault.at ∷ []

abbrev Heads : ℕ → Given → Type 0
Heads at alone = Ends at alone ⊎ Fails at alone ⊎ (stop_of (later at alone) ≡ Nothing)

nothing_moved : (at : ℕ) (left : Given) → is_nothing (later at left) ≡ is_nothing left
nothing_moved at [] = refl
nothing_moved at (x ∷ left) = refl

heads : (at : ℕ) (alone : Given) → Heads at alone
heads at [] = inr (inr refl)
heads at (Ok (WordAt p) ∷ alone) = go (heads at alone)
  where
    t : TokenAt
    t = token_between (at + p.start) (at + p.end) 0

    go : Heads at alone → Heads at (Ok (WordAt p) ∷ alone)
    go (inl e) = inl (record { front = WordAt p ∷ e.front; end = e.end; blank = e.blank; left = e.left; is = ap (λ l. Ok (WordAt p) ∷ l) e.is; stops = e.stops; tells = ap (with_token_before t) e.tells })
    go (inr (inl f)) = inr (inl (record { fault = f.fault; stops = f.stops; tells = ap (with_token_before t) f.tells }))
    go (inr (inr n)) = inr (inr n)
heads at (Ok (QuoteAt p) ∷ alone) = go (heads at alone)
  where
    t : TokenAt
    t = token_between (at + p.start) (at + p.end) 1

    go : Heads at alone → Heads at (Ok (QuoteAt p) ∷ alone)
    go (inl e) = inl (record { front = QuoteAt p ∷ e.front; end = e.end; blank = e.blank; left = e.left; is = ap (λ l. Ok (QuoteAt p) ∷ l) e.is; stops = e.stops; tells = ap (with_token_before t) e.tells })
    go (inr (inl f)) = inr (inl (record { fault = f.fault; stops = f.stops; tells = ap (with_token_before t) f.tells }))
    go (inr (inr n)) = inr (inr n)
heads at (Ok (CommentAt p) ∷ alone) = go (heads at alone)
  where
    go : Heads at alone → Heads at (Ok (CommentAt p) ∷ alone)
    go (inl e) = inl (record { front = CommentAt p ∷ e.front; end = e.end; blank = e.blank; left = e.left; is = ap (λ l. Ok (CommentAt p) ∷ l) e.is; stops = e.stops; tells = e.tells })
    go (inr (inl f)) = inr (inl (record { fault = f.fault; stops = f.stops; tells = f.tells }))
    go (inr (inr n)) = inr (inr n)
heads at (Ok (EndAt p) ∷ alone) =
    inl (record {
      front = [];
      end = p.at;
      blank = p.begins_blank;
      left = alone;
      is = refl;
      stops = ap (End (record { at = at + p.at; begins_blank = p.begins_blank })) (nothing_moved at alone);
      tells = refl;
    })
heads at (Err f ∷ alone) = inr (inl (record { fault = moved_fault (λ i. at + i) f; stops = refl; tells = refl }))

-- if all tokens fit, all are written
written_take : (tokens before : List TokenAt) → length tokens ≤ length before → take (length tokens) (written_over_start tokens before) ≡ tokens
written_take [] before h = refl
written_take (t ∷ tokens) [] h = absurd (omega (arith, h))
written_take (t ∷ tokens) (b ∷ before) h = ap (λ l. t ∷ l) (written_take tokens before (omega (arith, h)))

all_taken : (tokens before after : List TokenAt) (count n : ℕ) → after ≡ written_over_start tokens before → count ≡ counted (length tokens) → n ≡ count → n ≤ length before
    → length before < greatest_length → take n after ≡ tokens
all_taken tokens before after count n is counts same fits few =
    let all : n ≡ length tokens = omega (arith, counts, same, fits, few) in
    ap (take n) is ∙ ap (λ k. take k (written_over_start tokens before)) all ∙ written_take tokens before (omega (arith, all, fits))

same_entry : (entry : EntryReport) (tokens : List TokenAt) (status place : ℕ) → entry.tokens ≡ tokens → entry.status ≡ status → entry.place ≡ place → entry ≡ entry_report tokens status place
same_entry entry tokens status place t s p =
    ap (λ l. entry_report l entry.status entry.place) t ∙ ap (λ n. entry_report tokens n entry.place) s ∙ ap (entry_report tokens status) p

-- the status of a syntax error is not 0
some_status : (w : Wrong) → number_of (refusal_of_wrong w) ≡ 0 → ⊥
some_status NotClosed e = cc
some_status NoneOpen e = cc
some_status (NotQuoted i) e = cc
some_status NoFeed e = cc
some_status NoEscape e = cc

-- the status of an open parenthesis
open_status : (w : Wrong) → number_of (refusal_of_wrong w) ≡ number_of OpenParenthesis → w ≡ NotClosed
open_status NotClosed e = refl
open_status NoneOpen e = cc
open_status (NotQuoted i) e = cc
open_status NoFeed e = cc
open_status NoEscape e = cc

module _ (text : List ℕ) (o : AreOctets text) (last : Cursor) where
  abbrev Opened : List EntryReport → ℕ → Type 0
  Opened entries at = last_status entries ≡ number_of OpenParenthesis → Begins text at → IsOpener (encode_utf8_all text) (place_of text last.opened)

  abbrev Right : List EntryReport → Type 0
  Right entries = (cursor : Cursor) (alone : Given) → cursor.at ≤ length text → AreItemsOf (drop cursor.at text) alone → cursor.is_done ≡ 0 → Calls text cursor entries last
      → (entries ≡ reported_entries (later cursor.at alone)) × Opened entries cursor.at

  -- once the text is done, calls find no further entry
  none_more : (cursor : Cursor) (more : List EntryReport) → cursor.is_done ≡ 1 → Calls text cursor more last → (more ≡ []) × (cursor ≡ last)
  none_more cursor [] d c = (refl, c.1)
  none_more cursor (e ∷ more) d c = absurd (c.1.some ((c.1.answers.done (λ z. omega (arith, d, z))).0))

  module _ (entry : EntryReport) (more : List EntryReport) (right : Right more) (cursor new : Cursor) (alone : Given) (within : cursor.at ≤ length text) (g : AreItemsOf (drop cursor.at text) alone)
      (going : cursor.is_done ≡ 0) (tells : CallReports text cursor new entry) (calls : Calls text new more last) where
    abbrev Answer : Type 0
    Answer = (entry ∷ more ≡ reported_entries (later cursor.at alone)) × Opened (entry ∷ more) cursor.at

    abbrev octets : List ℕ
    octets = drop cursor.at text

    abbrev tokens : List TokenAt
    tokens = tokens_of (later cursor.at alone)

    read : ReadsEntry text cursor new tells.before tells.after entry.status tells.outcome
    read = tells.answers.reads going within

    same : read.given ≡ later cursor.at alone
    same = once text cursor.at read.given alone read.reads read.within g

    stopped : (stop : EntryEnd) → stop_of (later cursor.at alone) ≡ stop → ReportsEntry text read.count stop (length tells.before) entry.status cursor new tells.outcome
    stopped stop is = subst (λ s. ReportsEntry text read.count s (length tells.before) entry.status cursor new tells.outcome) (read.entry.stop_is ∙ ap stop_of same ∙ is) read.told

    all : tells.outcome.length ≡ read.count → tells.outcome.length ≤ length tells.before → entry.tokens ≡ tokens
    all counts fits =
        tells.tokens ∙ all_taken (tokens_of read.given) tells.before tells.after read.count tells.outcome.length read.entry.tokens_are read.entry.count_is counts fits tells.slice
        ∙ ap tokens_of same

    by_end : Ends cursor.at alone → Answer
    by_end e = (ap (λ x. x ∷ more) here ∙ ap (λ l. entry_report tokens 0 0 ∷ l) (rest e.left refl).0 ∙ sym e.tells, (rest e.left refl).1)
      where
        s : ReportsEntry text read.count (End (record { at = cursor.at + e.end; begins_blank = e.blank }) (is_nothing e.left)) (length tells.before) entry.status cursor new tells.outcome
        s = stopped (End (record { at = cursor.at + e.end; begins_blank = e.blank }) (is_nothing e.left)) e.stops

        counts : tells.outcome.length ≡ read.count
        counts = ap (λ (x : Outcome). x.length) s.0

        fits : read.count ≤ length tells.before
        fits =
            ⊎_elim
            (λ more.
            let lacks : entry.status ≡ 2 = (s.2 more).0 in
            let less = tells.fits (λ z. omega (arith, z, lacks)) in
            absurd (omega (arith, more, counts, less)))
            (λ enough. enough)
            (cases_lt (length tells.before) read.count)

        ok : (entry.status ≡ 0) × (new ≡ record { at = cursor.at + e.end; begins_blank = bit e.blank; is_done = bit (is_nothing e.left); opened = cursor.opened })
        ok = s.1 fits

        here : entry ≡ entry_report tokens 0 0
        here = same_entry entry tokens 0 0 (all counts (omega (arith, counts, fits))) ok.0 (tells.place ∙ ap (λ (x : Outcome). x.place) s.0)

        at : new.at ≡ cursor.at + e.end
        at = ap (λ (c : Cursor). c.at) ok.1

        done : new.is_done ≡ bit (is_nothing e.left)
        done = ap (λ (c : Cursor). c.is_done) ok.1

        -- a call after this one has that status
        after : (l : List EntryReport) → last_status (entry ∷ l) ≡ number_of OpenParenthesis → last_status l ≡ number_of OpenParenthesis
        after [] h = absurd (omega (arith, h, ok.0))
        after (x ∷ l) h = h

        rest : (left : Given) → left ≡ e.left → (more ≡ reported_entries (later cursor.at e.left)) × Opened (entry ∷ more) cursor.at
        rest [] is =
            let none = none_more new more (done ∙ ap (λ l. bit (is_nothing l)) (sym is)) calls in
            (none.0 ∙ ap (λ l. reported_entries (later cursor.at l)) is, λ h b. absurd (omega (arith, after [] (ap (λ l. last_status (entry ∷ l)) (sym none.0) ∙ h))))
        rest (x ∷ left) is =
            let there : drop e.end octets ≡ drop (cursor.at + e.end) text = drop-drop e.end cursor.at text in
            let then = some_given (drop e.end octets) (drop_octets e.end octets (drop_octets cursor.at text o)) in
            let next : Given = then.0 in
            let fits : e.end ≤ length octets = end_within (length octets) e.front e.end e.blank e.left (subst (EachWithin (length octets)) e.is g.1) in
            let some : 0 < length e.left = omega (arith, ap length is) in
            let left_is : e.left ≡ later e.end next = follows octets alone next e.left e.front e.end e.blank (drop_octets cursor.at text o) e.is some g then.1 in
            let line = ends_with_line octets alone e.left e.front e.end e.blank (drop_octets cursor.at text o) fits e.is some g in
            let r = right new next (omega (arith, at, fits, within, length-drop cursor.at text)) (subst (λ t. AreItemsOf t next) (there ∙ ap (λ n. drop n text) (sym at)) then.1)
            (done ∙ ap (λ l. bit (is_nothing l)) (sym is)) calls in (
              r.0 ∙ ap (λ n. reported_entries (later n next)) at ∙ ap reported_entries (sym (later_later cursor.at e.end next) ∙ ap (later cursor.at) (sym left_is)),
              λ h b. r.1 (after more h) (subst (Begins text) (sym at) (begins_next text cursor.at within e.end b line)),
            )

    by_fault : Fails cursor.at alone → Answer
    by_fault f =
        let s = stopped (Fault f.fault) f.stops in
        let status : ℕ = number_of (refusal_of_wrong f.fault.wrong) in
        let less = tells.fits (λ z. some_status f.fault.wrong (sym s.1 ∙ z)) in
        let cut : tells.outcome.length ≡ min read.count (length tells.before) = ap (λ (x : Outcome). x.length) s.0 in
        let counts : tells.outcome.length ≡ read.count = omega (arith, cut, less) in
        let here : entry ≡ entry_report tokens status f.fault.at = same_entry entry tokens status f.fault.at (all counts (omega (arith, less))) s.1 (tells.place ∙ ap (λ (x : Outcome). x.place) s.0) in
        let none = none_more new more (ap (λ (c : Cursor). c.is_done) s.2) calls in (
          ap (λ x. x ∷ more) here ∙ ap (λ l. entry_report tokens status f.fault.at ∷ l) none.0 ∙ sym f.tells,
          λ h b.
              let w : f.fault.wrong ≡ NotClosed = open_status f.fault.wrong (sym s.1 ∙ ap (λ l. last_status (entry ∷ l)) (sym none.0) ∙ h) in
              let opens : Opens text cursor.at NotClosed cursor.opened new.opened = subst (λ v. Opens text cursor.at v cursor.opened new.opened) w s.3 in
              let place : cursor.at + opens.0 ≡ last.opened = sym opens.1 ∙ ap (λ (c : Cursor). c.opened) none.1 in
              subst (λ n. IsOpener (encode_utf8_all text) (place_of text n)) place (opener_of_text text cursor.at within opens.0 b opens.3),
        )

    by_head : Heads cursor.at alone → Answer
    by_head (inl e) = by_end e
    by_head (inr (inl f)) = by_fault f
    by_head (inr (inr n)) = absurd (tells.some ((stopped Nothing n).1))

  right : (entries : List EntryReport) → Right entries
  right [] cursor alone within g going calls = absurd (calls.0 going)
  right (entry ∷ more) cursor alone within g going calls = by_head entry more (right more) cursor calls.0 alone within g going calls.1 calls.2 (heads cursor.at alone)

later_zero : (text : List ℕ) (given : Given) → AreOctets text → AreItemsOf text given → later 0 given ≡ given
later_zero text given o g = sym (given_once text given (later 0 given) g (nothing_given text given o g))

-- the tokens of pieces are the text between their offsets
with_token_octets : (text : List ℕ) (t : TokenAt) (es : List EntryReport) → map (token_octets text) (with_token_before t es) ≡ with_token (between text t.start t.end) (map (token_octets text) es)
with_token_octets text t [] = refl
with_token_octets text t (e ∷ es) = refl

told_cut : (text : List ℕ) (found : List Piece) → map (token_octets text) (reported_entries (map Ok found)) ≡ tokens_by_entry text found
told_cut text [] = refl
told_cut text (WordAt p ∷ found) =
    with_token_octets text (token_between p.start p.end 0) (reported_entries (map Ok found)) ∙ ap (with_token (between text p.start p.end)) (told_cut text found)
told_cut text (QuoteAt p ∷ found) =
    with_token_octets text (token_between p.start p.end 1) (reported_entries (map Ok found)) ∙ ap (with_token (between text p.start p.end)) (told_cut text found)
told_cut text (CommentAt p ∷ found) = told_cut text found
told_cut text (EndAt p ∷ found) = ap (λ l. [] ∷ l) (told_cut text found)

-- the pieces of a text that splits, cut where entries end, are its entries
pub split_given : (text : List ℕ) (e : Entries) → AreOctets text → Splits text e → (found : List Piece) × AreItemsOf text (map Ok found) × (tokens_by_entry text found ≡ e)
split_given text e o s =
    let p = split_pieces text e s in
    let octets = octets_have_pieces text (octet_scalars text o) p.0 p.1 in
    let within = subst (EachWithin (length text)) (pieces_run text p.0 p.1) (each_within text _) in
    let is : map (moved (place_of text)) (map Ok p.0) ≡ map Ok (map (moved_piece (place_of text)) p.0) = map_ok (place_of text) p.0 in
    (p.0, (inl (record { found = map (moved_piece (place_of text)) p.0; is = is; placed = octets }), within), p.2)

module _ (text : List ℕ) (cursor last : Cursor) (entries : List EntryReport) (o : AreOctets text) (start : cursor.at ≡ 0) (going : cursor.is_done ≡ 0) (calls : Calls text cursor entries last) where
  from_start : (given : Given) → AreItemsOf text given → (entries ≡ reported_entries (later cursor.at given)) × Opened text o last entries cursor.at
  from_start given g = right text o last entries cursor given (omega (arith, start)) (subst (λ n. AreItemsOf (drop n text) given) (sym start) g) going calls

  -- calls from the start of a text return all its entries
  pub tell_all : (given : Given) → AreItemsOf text given → entries ≡ reported_entries given
  tell_all given g = (from_start given g).0 ∙ ap (λ n. reported_entries (later n given)) start ∙ ap reported_entries (later_zero text given o g)

  -- so they return the entries of a text that splits
  pub tell_entries : (e : Entries) → Splits text e → map (token_octets text) entries ≡ e
  tell_entries e s =
      let p = split_given text e o s in
      ap (map (token_octets text)) (tell_all (map Ok p.0) p.1) ∙ told_cut text p.0 ∙ p.2

  -- and the offset of the outermost parenthesis that is left open
  pub tell_opener : last_status entries ≡ number_of OpenParenthesis → IsOpener (encode_utf8_all text) (place_of text last.opened)
  tell_opener h = let g = some_given text o in (from_start g.0 g.1).1 h (inl start)
