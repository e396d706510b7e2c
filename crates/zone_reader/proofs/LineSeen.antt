-- An entry that ends with its line, as a reader that starts there reads it.
use Rattle.std.proofs.Common.{ℕ, ◌≡◌, ◌+◌, ◌-◌, ◌<◌, Bool, true, false, List, [], ◌∷◌, ◌++◌, length, take, drop, refl, sym, ap, ◌∙◌, subst, arith}
use Rattle.std.specs.Prelude.{IfSome, map, Option, Some, None, Ok}
use Rattle.std.specs.Borrow.{Bor}
use Rattle.std.proofs.lemmas.List.{length-drop, length-take, map-append, take-append-drop}
use Rattle.dns_octets.specs.Room.{Room}
use Rattle.dns_lexer.specs.declared.pieces.EndOfEntry.{EndOfEntry}
use Rattle.dns_lexer.specs.declared.pieces.Piece.{Piece}
use Rattle.dns_lexer.specs.declared.pieces.Piece.TheVariants.{Word as WordAt, Quote as QuoteAt, Comment as CommentAt, End as EndAt}
use Rattle.dns_lexer.specs.EntryTokens.{BeginsToken, EndIs, IsOpen, IsSeenFrom, TokenIs, TokenSeen, quote_seen, seen_from, word_seen}
use Rattle.dns_lexer.specs.PassedLine.{HasNoEnd}
use Rattle.dns_lexer.specs.Pieces.{AreOctets, between, later, next_blank}
use Rattle.dns_lexer.specs.CursorStates.{at_entry, blank_at}
use Rattle.dns_lexer.proofs.Blocks.{back_octets}
use Rattle.dns_lexer.proofs.Standings.{given_left, left_blank}
use Rattle.zone_reader.specs.FirstEntry.{piece_tokens}
use Rattle.zone_reader.specs.TapeSource.{UnreadSeen, token_after, tokens_after}
use Rattle.zone_reader.specs.Tape.{FillsLine, IsSpanIn, span_token}
use Rattle.zone_reader.specs.declared.tape.TokenSpan.{TokenSpan}
use Rattle.zone_reader.specs.EntryReading.{ReadsZoneEntry}
use Rattle.zone_reader.specs.Line.{ReadsLine, line_seen, tokens_at}
use Rattle.zone_reader.specs.Source.{parts_after_tokens, last_token_end, token_end, tokens_first}
use Rattle.zone_reader.specs.TextPieces.{seen_later}
use Rattle.zone_reader.specs.declared.line.LineRead.{LineRead}
use Rattle.zone_reader.specs.declared.state.State.{State}
use Rattle.zone_reader.proofs.SeenParts.{Parts}
use Rattle.zone_reader.proofs.RestsSeen.{Given, alone_later}
use Rattle.zone_reader.proofs.TokenEnds.{quoted_end, word_end}

-- the parts of one entry's tokens
abbrev pub parts_with : Bool → List TokenSeen → Parts
parts_with blank tokens = map (λ t. Ok (TokenIs t blank)) tokens

-- ---- where a token ends

span_long : (octets : List ℕ) (s : TokenSpan) → IsSpanIn octets s → length (between octets s.start s.end) ≡ s.end - s.start
span_long octets s h = omega (arith, h.0, h.1, h.2, length-take (s.end - s.start) (drop s.start octets), length-drop s.start octets)

module _ (octets : List ℕ) (base : ℕ) (s : TokenSpan) (h : IsSpanIn octets s) where
  pub quote_ends : s.is_quoted ≡ true → token_end (token_after base (span_token octets s)) ≡ base + s.offset + (s.end - s.start) + 2
  quote_ends q = omega (arith, quoted_end (token_after base (span_token octets s)) q, span_long octets s h)

  pub word_ends : s.is_quoted ≡ false → token_end (token_after base (span_token octets s)) ≡ base + s.offset + (s.end - s.start)
  word_ends q = omega (arith, word_end (token_after base (span_token octets s)) q, span_long octets s h)

-- ---- the parts of an entry's octets

seen_end : (octets : List ℕ) (began : ℕ) (ended : Option ℕ) (found : List Piece) (end : EndOfEntry) (left : Given) → HasNoEnd found
    → seen_from octets began ended (map Ok found ++ Ok (EndAt end) ∷ left) ≡ parts_with (blank_at octets began) (piece_tokens octets ended found) ++ Ok (EndIs end) ∷ seen_from octets end.at None left
seen_end octets began ended [] end left h = refl
seen_end octets began ended (WordAt p ∷ found) end left h = ap (λ l. Ok (TokenIs (word_seen octets ended p) (blank_at octets began)) ∷ l) (seen_end octets began (Some p.end) found end left h)
seen_end octets began ended (QuoteAt p ∷ found) end left h = ap (λ l. Ok (TokenIs (quote_seen octets ended p) (blank_at octets began)) ∷ l) (seen_end octets began (Some p.end) found end left h)
seen_end octets began ended (CommentAt p ∷ found) end left h = seen_end octets began ended found end left h
seen_end octets began ended (EndAt e ∷ found) end left h = elim h [ ]

end_blank : (found : List Piece) (e : EndOfEntry) (left : Given) → HasNoEnd found → next_blank (map Ok found ++ Ok (EndAt e) ∷ left) ≡ Some e.begins_blank
end_blank [] e left h = refl
end_blank (WordAt p ∷ found) e left h = end_blank found e left h
end_blank (QuoteAt p ∷ found) e left h = end_blank found e left h
end_blank (CommentAt p ∷ found) e left h = end_blank found e left h
end_blank (EndAt x ∷ found) e left h = elim h [ ]

later_parts : (n : ℕ) (b : Bool) (tokens : List TokenSeen) → map (seen_later n) (parts_with b tokens) ≡ parts_with b (tokens_after n tokens)
later_parts n b [] = refl
later_parts n b (t ∷ tokens) = ap (λ l. Ok (TokenIs (token_after n t) b) ∷ l) (later_parts n b tokens)

spans_after : (octets : List ℕ) (base : ℕ) (spans : List TokenSpan) → tokens_at octets base spans ≡ tokens_after base (map (span_token octets) spans)
spans_after octets base [] = refl
spans_after octets base (s ∷ spans) = ap (λ l. token_after base (span_token octets s) ∷ l) (spans_after octets base spans)

-- ---- tokens and an end, and what comes after them

first_tokens : (b : Bool) (tokens : List TokenSeen) (e : EndOfEntry) (behind : Parts) → tokens_first (parts_with b tokens ++ Ok (EndIs e) ∷ behind) ≡ tokens
first_tokens b [] e behind = refl
first_tokens b (t ∷ tokens) e behind = ap (λ l. t ∷ l) (first_tokens b tokens e behind)

after_tokens : (b : Bool) (tokens : List TokenSeen) (e : EndOfEntry) (behind : Parts) → parts_after_tokens (parts_with b tokens ++ Ok (EndIs e) ∷ behind) ≡ Ok (EndIs e) ∷ behind
after_tokens b [] e behind = refl
after_tokens b (t ∷ tokens) e behind = after_tokens b tokens e behind

open_with : (b : Bool) (tokens : List TokenSeen) (e : EndOfEntry) (behind : Parts) → e.begins_blank ≡ b → IsOpen b (parts_with b tokens ++ Ok (EndIs e) ∷ behind)
open_with b [] e behind h = h
open_with b (t ∷ tokens) e behind h = (refl, open_with b tokens e behind h)

begins_token : (octets : List ℕ) (base : ℕ) (b : Bool) (spans : List TokenSpan) (e : EndOfEntry) (behind : Parts) → 0 < length spans → BeginsToken (parts_with b (tokens_at octets base spans) ++ Ok (EndIs e) ∷ behind)
begins_token octets base b [] e behind h = absurd (omega (arith, h))
begins_token octets base b (s ∷ spans) e behind h = tt

-- ---- an entry that ends with its line is read

module _ (room : Room) (text : Bor (List ℕ)) (at : ℕ) (spans : List TokenSpan) (count : ℕ) (are : AreOctets text.now) (line : FillsLine (drop at text.now) spans count) where
  abbrev rest : List ℕ
  rest = drop at text.now

  abbrev blank : Bool
  blank = blank_at rest 0

  abbrev end : EndOfEntry
  end = record { at = at + line.0.stop.at; begins_blank = line.0.stop.begins_blank }

  abbrev given : Given
  given = map Ok line.0.first.found ++ Ok (EndAt line.0.stop) ∷ line.0.left

  abbrev behind : Parts
  behind = map (seen_later at) (seen_from rest line.0.stop.at None line.0.left)

  abbrev tokens : List TokenSeen
  tokens = tokens_at rest at spans

  abbrev parts : Parts
  parts = parts_with blank tokens ++ Ok (EndIs end) ∷ behind

  parts_are : parts ≡ seen_from text.now at None (later at given)
  parts_are =
      let own : List TokenSeen = piece_tokens rest None line.0.first.found in
      let same : tokens ≡ tokens_after at own = spans_after rest at spans ∙ ap (tokens_after at) line.0.tokens in
      sym (alone_later text.now at given ∙ ap (map (seen_later at)) (seen_end rest 0 None line.0.first.found line.0.stop line.0.left line.0.first.is_open)
      ∙ map-append (seen_later at) (parts_with blank own) (Ok (EndIs line.0.stop) ∷ seen_from rest line.0.stop.at None line.0.left)
      ∙ ap (λ l. l ++ Ok (EndIs end) ∷ behind) (later_parts at blank own) ∙ ap (λ l. parts_with blank l ++ Ok (EndIs end) ∷ behind) (sym same))

  seen : IsSeenFrom text.now at parts
  seen = (later at given, (given, line.0.first.given, refl), parts_are)

  flag : end.begins_blank ≡ blank
  flag =
      let ok : AreOctets rest = back_octets (take at text.now) rest (subst AreOctets (sym (take-append-drop at text.now)) are) in
      sym (subst (λ o. IfSome o (λ x. blank ≡ x)) (end_blank line.0.first.found line.0.stop line.0.left line.0.first.is_open)
      (left_blank rest (at_entry 0) given ok (given_left rest given ok line.0.first.given)))

  pub line_read : (own : Bool) (p : UnreadSeen) (before after : State) (old new : List ℕ) (found : LineRead) → 0 < length spans → own ≡ blank → p ≡ line_seen rest at spans at
      → ReadsZoneEntry room own p.end.at p.tokens before old found.read after new → found.end ≡ at + count → ReadsLine room text.now at before old found after new
  line_read own p before after old new found some is_blank is reads ends =
      let first : tokens_first parts ≡ tokens = first_tokens blank tokens end behind in
      let zone : ReadsZoneEntry room blank (last_token_end at tokens) tokens before old found.read after new =
      subst (λ b. ReadsZoneEntry room b (last_token_end at tokens) tokens before old found.read after new) is_blank
      (subst (λ (q : UnreadSeen). ReadsZoneEntry room own q.end.at q.tokens before old found.read after new) is reads) in record {
        reader = record { octets = text; source = record { began = at; is_open = false; taken = None; parts = parts }; state = before };
        starts = record { octets_is = refl; parts = seen; closed = refl; began = refl; taken = refl; state_is = refl };
        next = record { octets = text; source = record { began = end.at; is_open = false; taken = None; parts = behind }; state = after };
        reads = record {
          start = Ok (Some (record { at = at; begins_blank = blank }));
          begun = record { began = at; is_open = true; taken = None; parts = parts };
          begins = record { ends = []; passed = refl; began = refl; start = (refl, refl, open_with blank tokens end behind flag, begins_token rest at blank spans end behind some, refl) };
          reads = (
            found.read,
            Ok end,
            subst (λ l. ReadsZoneEntry room blank (last_token_end at l) l before old found.read after new) (sym first) zone,
            (after_tokens blank tokens end behind, refl, refl, refl),
            refl,
          );
          octets_stay = refl;
        };
        state_is = refl;
        ends = ap (λ n. at + n) line.0.ends ∙ sym ends;
      }
