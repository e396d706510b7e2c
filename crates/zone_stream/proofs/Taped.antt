-- The tokens on a tape are those of the first entry.
use Rattle.std.proofs.Common.{◌≡◌, ℕ, ◌+◌, Bool, List, [], ◌∷◌, take, drop, refl, sym, ap, ◌∙◌, subst}
use Rattle.std.specs.Prelude.{map, None, Result, Ok}
use Rattle.std.proofs.lemmas.List.{take-append-drop}
use Rattle.dns_octets.specs.Room.{Room}
use Rattle.dns_lexer.specs.Pieces.{AreOctets}
use Rattle.zone_reader.specs.FirstEntry.{StopsFirst, piece_tokens, stop_offset}
use Rattle.zone_reader.specs.TapeSource.{UnreadSeen, tape_seen, token_after, tokens_after}
use Rattle.zone_reader.specs.Tape.{FillsWith, span_token}
use Rattle.zone_reader.specs.declared.tape.TokenSpan.{TokenSpan}
use Rattle.zone_reader.proofs.TapeOnce.{filled_once, first_once}
use Rattle.rdata_fields.specs.declared.record_error.RecordError.{RecordError}
use Rattle.zone_reader.specs.EntryReading.{ReadsZoneEntry}
use Rattle.zone_reader.specs.declared.entry.ParsedEntry.{ParsedEntry}
use Rattle.zone_reader.specs.declared.state.State.{State}
use Rattle.zone_stream.specs.Yielding.{ReadsStop}
use Rattle.zone_stream.specs.Placed.{BeginsPlaced}
use Rattle.zone_stream.proofs.Stops.{alone, found_within, tokens_front}

spans_after : (octets : List ℕ) (base : ℕ) (spans : List TokenSpan) → map (λ s. token_after base (span_token octets s)) spans ≡ tokens_after base (map (span_token octets) spans)
spans_after octets base [] = refl
spans_after octets base (s ∷ spans) = ap (λ l. token_after base (span_token octets s) ∷ l) (spans_after octets base spans)

-- reading these tokens is reading the entry
pub read_by : (room : Room) (octets : List ℕ) (base at : ℕ) (blank : Bool) (p : UnreadSeen) (spans : List TokenSpan) (before : State) (old : List ℕ) (read : Result ParsedEntry RecordError) (after : State) (new : List ℕ)
    → FillsWith octets spans at → p ≡ tape_seen octets base spans at → ReadsZoneEntry room blank p.end.at p.tokens before old read after new → ReadsStop room octets blank base before old read after new
read_by room octets base at blank p spans before old read after new f e r stop left x a =
    let own = tokens_after base (piece_tokens octets None x.found) in
    let once = filled_once octets spans at f stop left x in
    let tokens : p.tokens ≡ own = ap (λ (q : UnreadSeen). q.tokens) e ∙ spans_after octets base spans ∙ ap (tokens_after base) once.0 in
    let end : p.end.at ≡ base + stop_offset stop = ap (λ (q : UnreadSeen). q.end.at) e ∙ ap (λ i. base + i) (sym once.2) in
    subst (λ i. ReadsZoneEntry room blank i own before old read after new) end (subst (λ l. ReadsZoneEntry room blank p.end.at l before old read after new) tokens r)

-- and so without a tape
pub read_placed : (room : Room) (octets : List ℕ) (base : ℕ) (blank : Bool) (p : UnreadSeen) (before : State) (old : List ℕ) (read : Result ParsedEntry RecordError) (after : State) (new : List ℕ)
    → BeginsPlaced octets base p → ReadsZoneEntry room blank p.end.at p.tokens before old read after new → ReadsStop room octets blank base before old read after new
read_placed room octets base blank p before old read after new b r stop left x a =
    let same = b stop left x a in
    let own = tokens_after base (piece_tokens octets None x.found) in
    subst (λ i. ReadsZoneEntry room blank i own before old read after new) same.1 (subst (λ l. ReadsZoneEntry room blank p.end.at l before old read after new) same.0 r)

-- and so with a tape of octets that continue after the entry: its tokens are those of the entry alone
pub read_within : (room : Room) (octets : List ℕ) (base at : ℕ) (blank : Bool) (p : UnreadSeen) (spans : List TokenSpan) (before : State) (old : List ℕ) (read : Result ParsedEntry RecordError) (after : State) (new : List ℕ)
    → AreOctets octets → FillsWith octets spans at → p ≡ tape_seen octets base spans at → ReadsZoneEntry room blank p.end.at p.tokens before old read after new → ReadsStop room (take at octets) blank base before old read after new
read_within room octets base at blank p spans before old read after new ok f e r = subst (λ n. ReadsStop room (take n octets) blank base before old read after new) f.ends go
  where
    front : List ℕ
    front = take f.stop.at octets

    own : StopsFirst front (Ok f.stop) (alone octets ok f.stop f.left f.first).0
    own = record { found = f.first.found; is_open = f.first.is_open; given = (alone octets ok f.stop f.left f.first).1 }

    same : piece_tokens octets None f.first.found ≡ piece_tokens front None f.first.found
    same = ap (λ l. piece_tokens l None f.first.found) (sym (take-append-drop f.stop.at octets)) ∙ tokens_front front (drop f.stop.at octets) None f.first.found (found_within octets ok f.stop f.left f.first)

    go : ReadsStop room front blank base before old read after new
    go stop left x a =
        let once = first_once front stop (Ok f.stop) left (alone octets ok f.stop f.left f.first).0 x own in
        let tokens : p.tokens ≡ tokens_after base (piece_tokens front None x.found) =
        ap (λ (q : UnreadSeen). q.tokens) e ∙ spans_after octets base spans ∙ ap (tokens_after base) (f.tokens ∙ same ∙ ap (piece_tokens front None) (sym once.0)) in
        let end : p.end.at ≡ base + stop_offset stop = ap (λ (q : UnreadSeen). q.end.at) e ∙ ap (λ i. base + i) (sym (ap stop_offset once.1 ∙ f.ends)) in
        subst (λ i. ReadsZoneEntry room blank i (tokens_after base (piece_tokens front None x.found)) before old read after new) end (subst (λ l. ReadsZoneEntry room blank p.end.at l before old read after new) tokens r)
