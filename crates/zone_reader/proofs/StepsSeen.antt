-- What a call of `next_entry` reads, as an entry of the text.
use Rattle.std.proofs.Common.{ℕ, ◌≡◌, Bool, true, false, List, [], ◌∷◌, ◌++◌, refl, sym, ap, ◌∙◌, subst, append_assoc, Option, Some, None, Result, Ok, Err}
use Rattle.std.specs.Prelude.{map, unwrap_or}
use Rattle.dns_octets.specs.Room.{Room}
use Rattle.dns_lexer.specs.declared.pieces.EndOfEntry.{EndOfEntry}
use Rattle.dns_lexer.specs.declared.pieces.Fault.{Fault}
use Rattle.dns_lexer.specs.EntryTokens.{BeginsToken, EndIs, TokenIs, TokenSeen}
use Rattle.rdata_fields.specs.RecordErrors.{error_of_fault}
use Rattle.rdata_fields.specs.declared.record_error.RecordError.{RecordError}
use Rattle.zone_reader.specs.EntryReading.{ReadsZoneEntry}
use Rattle.zone_reader.specs.Records.{ReadsBegun, ReadsNextEntry, IsAfterEntry, result_of_entry}
use Rattle.zone_reader.specs.Source.{BeginsEntry, SourceSeen, StartsAfterLine, parts_after_unread, parts_after_tokens, entry_end, unread_entry_tokens, last_token_end, tokens_first}
use Rattle.zone_reader.specs.TextEntries.{TextEntry, end_seen, entry_counts, parts_of_entry, tokens_end}
use Rattle.zone_reader.specs.declared.entry.ParsedEntry.{ParsedEntry}
use Rattle.zone_reader.specs.declared.entry.ParsedEntry.TheVariants.{Empty}
use Rattle.zone_reader.specs.declared.records.RecordReader.{RecordReader}
use Rattle.zone_reader.specs.declared.source.StartOfEntry.{StartOfEntry}
use Rattle.zone_reader.specs.declared.state.State.{State}
use Rattle.zone_reader.proofs.EntryJoins.{nothing_read}
use Rattle.zone_reader.proofs.SeenParts.{Parts}
use Rattle.zone_reader.proofs.Passing.{ends_of}
use Rattle.zone_reader.proofs.TextParts.{closed_left, open_parts, tokens_count}

-- after an end the source has the rest; after a syntax error it starts again
abbrev pub GoesOn : List ℕ → Result EndOfEntry Fault → Parts → SourceSeen → Type 0
GoesOn octets (Ok e) rest s = (s.parts ≡ rest) × (s.is_open ≡ false) × (s.began ≡ e.at) × (s.taken ≡ None)
GoesOn octets (Err f) rest s = (rest ≡ []) × StartsAfterLine octets f.at s

pub record StepSeen (room : Room) (octets : List ℕ) (parts : Parts) (before : State) (old : List ℕ) (result : Result ParsedEntry RecordError) (after : State) (source : SourceSeen) (new : List ℕ) : Type 0 where
  pub ends : List EndOfEntry
  pub entry : TextEntry
  pub rest : Parts
  pub parts_are : parts ≡ ends_of ends ++ (parts_of_entry entry ++ rest)
  pub counts : entry_counts entry ≡ true
  pub read : Result ParsedEntry RecordError
  pub reads : ReadsZoneEntry room entry.begins_blank (tokens_end entry.tokens) entry.tokens before old read after new
  pub given : result ≡ result_of_entry entry.end read
  pub goes_on : GoesOn octets entry.end rest source

pub open_left : (s : SourceSeen) → s.is_open ≡ true → (unread_entry_tokens s ≡ tokens_first s.parts) × (parts_after_unread s ≡ parts_after_tokens s.parts)
open_left s = go s.is_open
  where
    go : (b : Bool) → b ≡ true
        → (unread_entry_tokens (record { began = s.began; is_open = b; taken = s.taken; parts = s.parts }) ≡ tokens_first s.parts) × (parts_after_unread (record { began = s.began; is_open = b; taken = s.taken; parts = s.parts }) ≡ parts_after_tokens s.parts)
    go true e = (refl, refl)
    go false e = cc

-- where the tokens of the open entry end
same_last : (parts : Parts) (n m : ℕ) → BeginsToken parts → last_token_end n (tokens_first parts) ≡ last_token_end m (tokens_first parts)
same_last [] n m h = absurd h
same_last (Ok (TokenIs t b) ∷ parts) n m h = refl
same_last (Ok (EndIs e) ∷ parts) n m h = absurd h
same_last (Err f ∷ parts) n m h = absurd h

end_place : (s : SourceSeen) → s.is_open ≡ true → BeginsToken s.parts → (entry_end s).at ≡ tokens_end (tokens_first s.parts)
end_place s = go s.is_open
  where
    go : (b : Bool) → b ≡ true → BeginsToken s.parts → (entry_end (record { began = s.began; is_open = b; taken = s.taken; parts = s.parts })).at ≡ tokens_end (tokens_first s.parts)
    go true e h = same_last s.parts (unwrap_or s.taken s.began) 0 h
    go false e h = cc

-- what comes after the tokens, and the source's state then
stands_rest : (octets : List ℕ) (begun after : SourceSeen) (end : Result EndOfEntry Fault) → IsAfterEntry octets begun end after → (rest : Parts) × (parts_after_unread begun ≡ end_seen end ∷ rest) × GoesOn octets end rest after
stands_rest octets begun after (Ok e) h = (after.parts, h.0, (refl, h.1, h.2, h.3))
stands_rest octets begun after (Err f) h = ([], h.0, (refl, h.1))

module _ (room : Room) (before after : RecordReader) (old new : List ℕ) (result : Result ParsedEntry RecordError) (closed : before.source.is_open ≡ false) where
  abbrev Seen : Type 0
  Seen = StepSeen room before.octets.now before.source.parts before.state old result after.state after.source new

  passed_parts : (begun : SourceSeen) (start : Result (Option StartOfEntry) Fault) (h : BeginsEntry before.source start begun) → before.source.parts ≡ ends_of h.ends ++ begun.parts
  passed_parts begun start h = sym (closed_left before.source closed) ∙ h.passed

  with_tokens : (begun : SourceSeen) (start : StartOfEntry) → BeginsEntry before.source (Ok (Some start)) begun → (read : Result ParsedEntry RecordError) (end : Result EndOfEntry Fault)
      → ReadsZoneEntry room start.begins_blank (entry_end begun).at (unread_entry_tokens begun) before.state old read after.state new → IsAfterEntry before.octets.now begun end after.source → Some result ≡ Some (result_of_entry end read) → Seen
  with_tokens begun start h read end reads stands is =
      let left = open_left begun h.start.0 in
      let rest = stands_rest before.octets.now begun after.source end stands in
      let tokens : List TokenSeen = tokens_first begun.parts in
      let blank : Bool = start.begins_blank in
      let all : begun.parts ≡ map (λ t. Ok (TokenIs t blank)) tokens ++ (end_seen end ∷ rest.0) =
      open_parts blank begun.parts h.start.2 ∙ ap (λ l. map (λ t. Ok (TokenIs t blank)) tokens ++ l) (sym left.1 ∙ rest.1) in
      record {
        ends = h.ends;
        entry = record { begins_blank = blank; tokens = tokens; end = end };
        rest = rest.0;
        parts_are = passed_parts begun (Ok (Some start)) h ∙ ap (λ l. ends_of h.ends ++ l) (all ∙ sym (append_assoc (map (λ t. Ok (TokenIs t blank)) tokens) (end_seen end ∷ []) rest.0));
        counts = tokens_count begun.parts end h.start.3;
        read = read;
        reads = subst (λ l. ReadsZoneEntry room blank (tokens_end tokens) l before.state old read after.state new) left.0
            (subst (λ n. ReadsZoneEntry room blank n (unread_entry_tokens begun) before.state old read after.state new) (end_place begun h.start.0 h.start.3) reads);
        given = cc;
        goes_on = rest.2;
      }

  with_fault : (begun : SourceSeen) (fault : Fault) → BeginsEntry before.source (Err fault) begun → Some result ≡ Some (Err (error_of_fault fault)) → StartsAfterLine before.octets.now fault.at after.source → after.state ≡ before.state → new ≡ old → Seen
  with_fault begun fault h is behind state octets = record {
    ends = h.ends;
    entry = record { begins_blank = false; tokens = []; end = Err fault };
    rest = [];
    parts_are = passed_parts begun (Err fault) h ∙ ap (λ l. ends_of h.ends ++ l) h.start.1;
    counts = refl;
    read = Ok Empty;
    reads = subst (λ s. ReadsZoneEntry room false 0 [] before.state old (Ok Empty) s new) (sym state)
        (subst (λ o. ReadsZoneEntry room false 0 [] before.state old (Ok Empty) before.state o) (sym octets) (nothing_read room false 0 [] before.state old refl));
    given = cc;
    goes_on = (refl, behind);
  }

  pub step_seen : ReadsNextEntry room before old (Some result) after new → Seen
  step_seen h = go h.start h.begins h.reads
    where
      go : (start : Result (Option StartOfEntry) Fault) → BeginsEntry before.source start h.begun → ReadsBegun room before.octets.now h.begun start before.state old (Some result) after new → Seen
      go (Ok (Some start)) b r = with_tokens h.begun start b r.0 r.1 r.2 r.3 r.4
      go (Ok None) b r = let no = r.0 in cc
      go (Err fault) b r = with_fault h.begun fault b r.0 r.1 r.2.0 r.2.1
