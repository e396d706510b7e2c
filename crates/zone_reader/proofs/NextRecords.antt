-- Directives are skipped.
use Rattle.std.proofs.Common.{ℕ, ◌≡◌, ◌≢◌, ◌<◌, ◌≤◌, List, [], ◌∷◌, ◌++◌, length, refl, sym, ap, ◌∙◌, subst, arith, Option, Some, None, Result, Ok, Err}
use Rattle.std.proofs.Common.{length-append}
use Rattle.std.specs.List.{AllByRecursion}
use Rattle.dns_octets.specs.Room.{Room}
use Rattle.dns_lexer.specs.declared.pieces.EndOfEntry.{EndOfEntry}
use Rattle.dns_lexer.specs.declared.pieces.Fault.{Fault}
use Rattle.dns_lexer.specs.EntryTokens.{EndIs, TokenIs, TokenSeen}
use Rattle.rdata_fields.specs.declared.record_error.RecordError.{RecordError}
use Rattle.zone_reader.specs.EntryMeanings.{EntryMeaning, says_nothing, says_origin, says_default_ttl, says_include, says_generate, says_record, says_refused}
use Rattle.zone_reader.specs.declared.header.RecordHeader.{RecordHeader}
use Rattle.zone_reader.specs.declared.header.HeaderError.{HeaderError}
use Rattle.rdata_fields.specs.Source.{next_place}
use Rattle.zone_reader.specs.EntryReading.{ReadsDataAfterHeader, ReadsMeaning, ReadsAfterHeader, record_with}
use Rattle.zone_reader.specs.Records.{AreSuccessiveResults, EntryResult, IsDirectiveResult, ReadsBegun, ReadsNextEntry, ReadsNextRecord, IsAfterEntry, given_next, result_of_entry, none_given}
use Rattle.zone_reader.specs.Source.{BeginsEntry, SourceSeen, parts_after_unread, parts_after_tokens, entry_end, unread_entry_tokens}
use Rattle.zone_reader.specs.declared.entry.ParsedEntry.{ParsedEntry}
use Rattle.zone_reader.specs.declared.entry.ParsedEntry.TheVariants.{Directive}
use Rattle.zone_reader.specs.declared.known.NameState.{NameState}
use Rattle.zone_reader.specs.declared.records.RecordReader.{RecordReader}
use Rattle.zone_reader.specs.declared.source.StartOfEntry.{StartOfEntry}
use Rattle.zone_reader.specs.declared.state.State.{State}
use Rattle.zone_reader.specs.declared.ttl.RecordTtl.{RecordTtl}
use Rattle.zone_reader.proofs.SeenParts.{Parts}
use Rattle.zone_reader.proofs.Passing.{ends_of}
use Rattle.zone_reader.proofs.StepsSeen.{open_left}
use Rattle.zone_reader.proofs.TextParts.{closed_left}

-- ---- a directive leaves the octets

-- a result that `record_with` never has is not read of a record
module _ (before : State) (room : Room) (at end : ℕ) (old new : List ℕ) (e : ParsedEntry) (never : (data_at after : ℕ) (w : RecordHeader) (ttl : Option RecordTtl) → record_with before at data_at after w ttl ≡ Ok e → ⊥) where
  not_behind : (data_at : ℕ) (w : RecordHeader) (r : Result (Unit {0}) RecordError) → ReadsDataAfterHeader before at data_at end w old r new (Ok e) → ⊥
  not_behind data_at w (Err r) h = cc
  not_behind data_at w (Ok u) h = never data_at end w _ (sym h.2.2)

  pub not_words : (first : Result (Unit {0}) RecordError) (words : Result RecordHeader HeaderError) (left : List TokenSeen) → ReadsAfterHeader before room at end first words left old (Ok e) new → ⊥
  not_words (Err x) words left h = let no = h.0 in cc
  not_words (Ok u) (Err x) left h = let no = h.0 in cc
  not_words (Ok u) (Ok w) left h = not_behind (next_place left end) w h.0 h.3

no_record : (before : State) (at data_at end : ℕ) (w : RecordHeader) (ttl : Option RecordTtl) → record_with before at data_at end w ttl ≡ Ok Directive → ⊥
no_record before at data_at end w None e = cc
no_record before at data_at end w (Some t) e = cc

directive_is_read : (before : State) (room : Room) (end : ℕ) (tokens : List TokenSeen) (m : EntryMeaning) (old new : List ℕ) (owner : NameState) → ReadsMeaning before room end tokens m old (Ok Directive) owner new → new ≡ old
directive_is_read before room end tokens says_nothing old new owner h = h.1
directive_is_read before room end tokens (says_origin t) old new owner h = h.1
directive_is_read before room end tokens (says_default_ttl r) old new owner h = h.1
directive_is_read before room end tokens (says_include file token) old new owner h = let no = h.1 in cc
directive_is_read before room end tokens says_generate old new owner h = h.1
directive_is_read before room end tokens (says_record token words left) old new owner h = absurd (not_words before room _ end old new Directive (no_record before _) h.0 words left h.2)
directive_is_read before room end tokens (says_refused r) old new owner h = cc

-- ---- and fewer parts are left

fewer_behind : (parts : Parts) → length (parts_after_tokens parts) ≤ length parts
fewer_behind [] = omega arith
fewer_behind (Ok (TokenIs t b) ∷ parts) = let h = fewer_behind parts in omega (arith, h)
fewer_behind (Ok (EndIs e) ∷ parts) = omega arith
fewer_behind (Err f ∷ parts) = omega arith

pub read_of : (end : Result EndOfEntry Fault) (read : Result ParsedEntry RecordError) (x : ParsedEntry) → Some (result_of_entry end read) ≡ Some (Ok x) → (e : EndOfEntry) × (end ≡ Ok e) × (read ≡ Ok x)
read_of (Ok e) (Ok y) x is = (e, refl, cc)
read_of (Ok e) (Err r) x is = cc
read_of (Err f) read x is = cc

module _ (room : Room) (before after : RecordReader) (old new : List ℕ) where
  abbrev Reads : ParsedEntry → Type 0
  Reads e = ReadsNextEntry room before old (Some (Ok e)) after new

  ended_entry : (begun : SourceSeen) (start : StartOfEntry) (b : BeginsEntry before.source (Ok (Some start)) begun) (e : EndOfEntry) → IsAfterEntry before.octets.now begun (Ok e) after.source
      → length (parts_after_unread after.source) < length (parts_after_unread before.source)
  ended_entry begun start b e stands =
      let left = open_left begun b.start.0 in
      let some : length (parts_after_tokens begun.parts) ≡ length (Ok (EndIs e) ∷ after.source.parts) = ap length (sym left.1 ∙ stands.0) in
      let closed : length (parts_after_unread after.source) ≡ length after.source.parts = ap length (closed_left after.source stands.1) in
      let all : length (parts_after_unread before.source) ≡ length (ends_of b.ends ++ begun.parts) = ap length b.passed in
      let fewer : length (parts_after_tokens begun.parts) ≤ length begun.parts = fewer_behind begun.parts in
      omega (arith, length-append (ends_of b.ends) begun.parts)

  fewer_left : (e : ParsedEntry) → Reads e → length (parts_after_unread after.source) < length (parts_after_unread before.source)
  fewer_left e h = go h.start h.begins h.reads
    where
      go : (start : Result (Option StartOfEntry) Fault) → BeginsEntry before.source start h.begun → ReadsBegun room before.octets.now h.begun start before.state old (Some (Ok e)) after new
          → length (parts_after_unread after.source) < length (parts_after_unread before.source)
      go (Ok (Some start)) b r =
          let is = read_of r.1 r.0 e (sym r.4) in
          ended_entry h.begun start b is.0 (subst (λ x. IsAfterEntry before.octets.now h.begun x after.source) is.1 r.3)
      go (Ok None) b r = let no = r.0 in cc
      go (Err fault) b r = let no = r.0 in cc

  octets_stay : Reads Directive → new ≡ old
  octets_stay h = go h.start h.reads
    where
      go : (start : Result (Option StartOfEntry) Fault) → ReadsBegun room before.octets.now h.begun start before.state old (Some (Ok Directive)) after new → new ≡ old
      go (Ok (Some start)) r =
          let is = read_of r.1 r.0 Directive (sym r.4) in
          let end : ℕ = (entry_end h.begun).at in
          let tokens : List TokenSeen = unread_entry_tokens h.begun in
          directive_is_read before.state room end tokens r.2.meaning old new after.state.owner
          (subst (λ x. ReadsMeaning before.state room end tokens r.2.meaning old x after.state.owner new) is.2 r.2.reads)
      go (Ok None) r = let no = r.0 in cc
      go (Err fault) r = let no = r.0 in cc

-- ---- directives in a row

pub record PassesDirectives (room : Room) (first : RecordReader) (old : List ℕ) (now : RecordReader) (new : List ℕ) : Type 0 where
  pub directives : List EntryResult
  pub row : AreSuccessiveResults room first directives now
  pub are : AllByRecursion (IsDirectiveResult old) directives
  pub stay : new ≡ old

all_more : {X : Type 0} (P : X → Type 0) (xs : List X) (x : X) → AllByRecursion P xs → P x → AllByRecursion P (xs ++ x ∷ [])
all_more P [] x h p = (p, tt)
all_more P (y ∷ xs) x h p = (h.0, all_more P xs x h.1 p)

pub passes_none : (room : Room) (first : RecordReader) (old : List ℕ) → PassesDirectives room first old first old
passes_none room first old = record { directives = []; row = none_given; are = tt; stay = refl }

module _ (room : Room) (first now after : RecordReader) (old middle new : List ℕ) (passed : PassesDirectives room first old now middle) where
  pub passes_one : (given : Option (Result ParsedEntry RecordError)) → given ≡ Some (Ok Directive) → ReadsNextEntry room now middle given after new
      → PassesDirectives room first old after new × (length (parts_after_unread after.source) < length (parts_after_unread now.source))
  passes_one given is h =
      let reads : ReadsNextEntry room now middle (Some (Ok Directive)) after new = subst (λ r. ReadsNextEntry room now middle r after new) is h in
      let same : new ≡ old = octets_stay room now after middle new reads ∙ passed.stay in
      let g : EntryResult = record { old = middle; result = Ok Directive; new = new; state = after.state } in (
        record {
          directives = passed.directives ++ g ∷ [];
          row = given_next passed.directives now after g passed.row reads refl;
          are = all_more (IsDirectiveResult old) passed.directives g passed.are (passed.stay, refl, same);
          stay = same;
        },
        fewer_left room now after middle new Directive reads,
      )

  pub stops : (given : Option (Result ParsedEntry RecordError)) → given ≢ Some (Ok Directive) → ReadsNextEntry room now middle given after new → ReadsNextRecord room first old given after new
  stops given is h = record {
    directives = passed.directives;
    middle = now;
    row = passed.row;
    are_directives = passed.are;
    last = subst (λ o. ReadsNextEntry room now o given after new) passed.stay h;
    is_last = is;
  }
