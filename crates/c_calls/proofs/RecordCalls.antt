-- Calls for records return, one after another, what one reader returns.
use Rattle.std.proofs.Common.{ℕ, ◌≡◌, ◌≢◌, ◌≤◌, ◌+◌, Bool, true, false, List, [], ◌∷◌, ◌++◌, length, drop, refl, sym, ap, subst, ◌∙◌, arith, append_assoc, drop-drop, inl, inr, ⊎_elim, Option, Some, None, Result, Ok, Err}
use Rattle.std.specs.Prelude.{◌⊎◌, map}
use Rattle.std.proofs.lemmas.Bool.{cases_lt}
use Rattle.std.proofs.lemmas.List.{length-drop}
use Rattle.rdata_fields.specs.declared.record_error.RecordError.{RecordError}
use Rattle.dns_octets.specs.Room.{Room, exactly}
use Rattle.dns_wire.proofs.OneAnswer.{name_same}
use Rattle.dns_lexer.specs.EntryTokens.{EndIs, IsSeen, IsSeenFrom, PartSeen, TokenIs, TokenSeen, seen_from}
use Rattle.dns_lexer.specs.Pieces.{AreOctets, EachWithin}
use Rattle.dns_lexer.specs.CursorStates.{ahead, at_entry}
use Rattle.dns_lexer.specs.declared.pieces.EndOfEntry.{EndOfEntry}
use Rattle.dns_lexer.specs.declared.pieces.Fault.{Fault}
use Rattle.dns_lexer.specs.declared.pieces.Piece.{Piece}
use Rattle.dns_lexer.specs.declared.pieces.Wrong.{Wrong}
use Rattle.dns_lexer.specs.declared.pieces.Piece.TheVariants.{End as EndAt}
use Rattle.dns_lexer.proofs.EntryLaws.{seen_once}
use Rattle.dns_lexer.proofs.EntryParts.{starts}
use Rattle.zone_reader.specs.Records.{AreSuccessiveResults, EntryResult, ReadsBegun, ReadsNextEntry, ReadsNextRecord, StartsText, given_next, none_given}
use Rattle.zone_reader.specs.Source.{BeginsEntry, SourceSeen}
use Rattle.zone_reader.specs.TextEntries.{counts_with, end_seen}
use Rattle.zone_reader.specs.TextPieces.{StartsAt, seen_later}
use Rattle.zone_reader.specs.declared.entry.ParsedEntry.{ParsedEntry}
use Rattle.zone_reader.specs.declared.entry.ParsedEntry.TheVariants.{Empty, Directive, Include, Generate, Record as RecordRead}
use Rattle.zone_reader.specs.declared.known.NameState.{NameState}
use Rattle.zone_reader.specs.declared.known.NameState.TheVariants.{Unset, Name, Rejected}
use Rattle.zone_reader.specs.declared.records.RecordReader.{RecordReader}
use Rattle.zone_reader.specs.declared.state.State.{State}
use Rattle.zone_reader.proofs.SeenParts.{Parts}
use Rattle.zone_reader.proofs.Passing.{ends_of}
use Rattle.zone_reader.proofs.RestsSeen.{end_given, given_last, alone_later, moved_end, rest_there, seen_alone, seen_from_once}
use Rattle.zone_reader.proofs.StepsSeen.{GoesOn, step_seen}
use Rattle.zone_reader.proofs.TextParts.{closed_left, seen_from_start}
use Rattle.zone_reader.proofs.TextPieces.{never_empty}
use Rattle.c_calls.specs.Kept.{HoldsName, HoldsState}
use Rattle.c_calls.specs.Reasons.{ReportsErrorText, syntax_of}
use Rattle.c_calls.specs.RecordCalls.{RecordCalls, RecordCallsReturnAll, CallsReturnRecords, ReportsNextRecord}
use Rattle.c_calls.specs.Records.{KeepsReader, NextRecord, ReadsZone, RecordCall, ReportsFound, ReportsResult}
use Rattle.c_calls.specs.Reports.{number_of}
use Rattle.c_calls.specs.declared.kept.KeptName.{KeptName}
use Rattle.c_calls.specs.declared.kept.Zone.{Zone}
use Rattle.c_calls.specs.declared.outcome.Outcome.{Outcome}
use Rattle.c_calls.specs.declared.outcome.Refusal.{Refusal}
use Rattle.c_calls.specs.declared.outcome.Refusal.TheVariants.{NoRoom, BadEscape, ShortInput, BadUtf8, BadSymbol, TooLong, BadEncoding, Closing, OpenParenthesis, OpenQuote, LoneReturn, BadCursor, EmptyLabel, LongLabel, BinaryLabel}
use Rattle.c_calls.specs.declared.outcome.Refusal.TheVariants.{BadLabel, Pointer, TrailingOctets, NoDigit, TooGreat, BadPlace, BadTtl, UnknownType, UnknownClass, BadHead, NotSupported, BadName, NoOrigin, NoOwner, RefusedOwner}
use Rattle.c_calls.specs.declared.outcome.Refusal.TheVariants.{BadData, NoTtl, RelativeName, BadGenerate}
use Rattle.c_calls.proofs.LastEnds.{nothing_behind}

abbrev room : Room
room = exactly 65535

-- ---- readers at one position, with one state, read the same

pub record SameReader (r s : RecordReader) : Type 0 where
  pub octets : r.octets.now ≡ s.octets.now
  pub source : r.source ≡ s.source
  pub state : r.state ≡ s.state

pub entry_of_other : (r s after : RecordReader) (old new : List ℕ) (result : Option (Result ParsedEntry RecordError)) → SameReader r s → ReadsNextEntry room r old result after new → ReadsNextEntry room s old result after new
entry_of_other r s after old new result same h = record {
  start = h.start;
  begun = h.begun;
  begins = subst (λ x. BeginsEntry x h.start h.begun) same.source h.begins;
  reads = subst (λ x. ReadsBegun room s.octets.now h.begun h.start x old result after new) same.state (subst (λ x. ReadsBegun room x h.begun h.start r.state old result after new) same.octets h.reads);
  octets_stay = h.octets_stay ∙ same.octets;
}

row_of_other : (r s last : RecordReader) (given : List EntryResult) → SameReader r s → AreSuccessiveResults room r given last → (end : RecordReader) × AreSuccessiveResults room s given end × SameReader last end
row_of_other r s last given same none_given = (s, none_given, same)
row_of_other r s last given same (given_next before middle end g row next state) =
    let k = row_of_other r s middle before same row in
    (end, given_next before k.0 end g k.1 (entry_of_other middle k.0 end g.old g.new (Some g.result) k.2 next) state, record { octets = refl; source = refl; state = refl })

record_of_other : (r s after : RecordReader) (old new : List ℕ) (result : Option (Result ParsedEntry RecordError)) → SameReader r s → ReadsNextRecord room r old result after new → ReadsNextRecord room s old result after new
record_of_other r s after old new result same h =
    let k = row_of_other r s h.middle h.directives same h.row in
    record { directives = h.directives; middle = k.0; row = k.1; are_directives = h.are_directives; last = entry_of_other h.middle k.0 after old new result k.2 h.last; is_last = h.is_last }

-- ---- ends among the octets

given_within : (n : ℕ) (found : List Piece) (e : EndOfEntry) (rest : List (Result Piece Fault)) → EachWithin n (map Ok found ++ Ok (EndAt e) ∷ rest) → e.at ≤ n
given_within n [] e rest w = w.0
given_within n (p ∷ found) e rest w = given_within n found e rest w.1

module _ (octets : List ℕ) (at : ℕ) (front left : Parts) (e : EndOfEntry) (s : IsSeenFrom octets at (front ++ (Ok (EndIs e) ∷ left))) where
  end_within : at ≤ length octets → e.at ≤ length octets
  end_within h =
      let g = s.1 in
      let rest : List ℕ = drop at octets in
      let m = moved_end at (seen_from rest 0 None g.0) front e left (sym (s.2 ∙ ap (seen_from octets at None) g.2 ∙ alone_later octets at g.0)) in
      let x = end_given rest 0 None g.0 m.front m.end m.rest (given_last rest g.0 g.1) m.is in
      let w : m.end.at ≤ length rest = given_within (length rest) x.found m.end x.rest (subst (EachWithin (length rest)) x.is g.1.1) in
      omega (arith, w, m.at, length-drop at octets, h)

  last_end : [] ≡ left → drop e.at octets ≡ []
  last_end none =
      let g = s.1 in
      let rest : List ℕ = drop at octets in
      let m = moved_end at (seen_from rest 0 None g.0) front e left (sym (s.2 ∙ ap (seen_from octets at None) g.2 ∙ alone_later octets at g.0)) in
      let x = end_given rest 0 None g.0 m.front m.end m.rest (given_last rest g.0 g.1) m.is in
      let quiet : [] ≡ m.rest = unmoved m.rest (none ∙ m.left_is) in
      let behind : drop m.end.at rest ≡ [] = nothing_behind rest g.0 x.found m.end x.rest g.1 x.is (quiet ∙ x.left_is) in
      ap (λ n. drop n octets) m.at ∙ sym (drop-drop m.end.at at octets) ∙ behind
    where
      unmoved : (parts : Parts) → [] ≡ map (seen_later at) parts → [] ≡ parts
      unmoved [] h = refl
      unmoved (p ∷ parts) h = cc

-- ---- the reader after some calls: all parts are seen from there, or nothing is left

abbrev IsThere : List ℕ → SourceSeen → Type 0
IsThere octets s = ((s.parts ≡ []) × (drop s.began octets ≡ [])) ⊎ IsSeenFrom octets s.began s.parts

record Stands (octets : List ℕ) (r : RecordReader) : Type 0 where
  octets_is : r.octets.now ≡ octets
  closed : r.source.is_open ≡ false
  taken : r.source.taken ≡ None
  within : r.source.began ≤ length octets
  there : IsThere octets r.source

module _ (octets : List ℕ) (are : AreOctets octets) (at : ℕ) (ends tokens : Parts) (source : SourceSeen) where
  shape : (x : Result PartSeen Fault) (rest : Parts) → ends ++ ((tokens ++ x ∷ []) ++ rest) ≡ (ends ++ tokens) ++ (x ∷ rest)
  shape x rest = ap (λ l. ends ++ l) (append_assoc tokens (x ∷ []) rest) ∙ sym (append_assoc ends tokens (x ∷ rest))

  there_then : (end : Result EndOfEntry Fault) (rest : Parts) → GoesOn octets end rest source → IsSeenFrom octets at (ends ++ ((tokens ++ end_seen end ∷ []) ++ rest)) → IsThere octets source
  there_then (Ok e) [] k s =
      let all = subst (IsSeenFrom octets at) (shape (Ok (EndIs e)) []) s in
      inl (k.0, ap (λ n. drop n octets) k.2 ∙ last_end octets at (ends ++ tokens) [] e all refl)
  there_then (Ok e) (x ∷ rest) k s =
      let there = rest_there octets at (ends ++ tokens) (x ∷ rest) e are (subst (IsSeenFrom octets at) (shape (Ok (EndIs e)) (x ∷ rest)) s) (omega arith) in
      inr (subst (λ l. IsSeenFrom octets source.began l) (sym k.0) (subst (λ n. IsSeenFrom octets n (x ∷ rest)) (sym k.2) there))
  there_then (Err f) rest k s = inr k.1.parts

  within_then : (end : Result EndOfEntry Fault) (rest : Parts) → GoesOn octets end rest source → at ≤ length octets → IsSeenFrom octets at (ends ++ ((tokens ++ end_seen end ∷ []) ++ rest))
      → source.began ≤ length octets
  within_then (Ok e) rest k h s =
      let n = end_within octets at (ends ++ tokens) rest e (subst (IsSeenFrom octets at) (shape (Ok (EndIs e)) rest) s) h in omega (arith, n, k.2)
  within_then (Err f) rest k h s = k.1.within

closed_then : (octets : List ℕ) (end : Result EndOfEntry Fault) (rest : Parts) (source : SourceSeen) → GoesOn octets end rest source → source.is_open ≡ false
closed_then octets (Ok e) rest source k = k.1
closed_then octets (Err f) rest source k = k.1.closed

taken_then : (octets : List ℕ) (end : Result EndOfEntry Fault) (rest : Parts) (source : SourceSeen) → GoesOn octets end rest source → source.taken ≡ None
taken_then octets (Ok e) rest source k = k.3
taken_then octets (Err f) rest source k = k.1.taken

stands_first : (octets : List ℕ) (state : State) (first : RecordReader) → StartsText octets state first → Stands octets first
stands_first octets state first h =
    let from = seen_from_start octets first.source.parts h.are_octets h.parts in
    record { octets_is = h.octets_is; closed = h.closed; taken = h.taken; within = omega (arith, h.began); there = inr (subst (λ n. IsSeenFrom octets n first.source.parts) (sym h.began) from) }

stands_next : (octets : List ℕ) (r after : RecordReader) (old new : List ℕ) (result : Result ParsedEntry RecordError) → AreOctets octets → Stands octets r → ReadsNextEntry room r old (Some result) after new → Stands octets after
stands_next octets r after old new result are s next =
    let q = step_seen room r after old new result s.closed next in
    let tokens : Parts = map (λ t. Ok (TokenIs t q.entry.begins_blank)) q.entry.tokens in
    let goes : GoesOn octets q.entry.end q.rest after.source = subst (λ o. GoesOn o q.entry.end q.rest after.source) s.octets_is q.goes_on in
    let seen : IsSeenFrom octets r.source.began (ends_of q.ends ++ ((tokens ++ end_seen q.entry.end ∷ []) ++ q.rest)) = elim s.there [
      | inl none ↦ absurd (never_empty (ends_of q.ends) tokens q.rest (end_seen q.entry.end) (sym none.0 ∙ q.parts_are))
      | inr from ↦ subst (IsSeenFrom octets r.source.began) q.parts_are from
    ] in
    record {
      octets_is = next.octets_stay ∙ s.octets_is;
      closed = closed_then octets q.entry.end q.rest after.source goes;
      taken = taken_then octets q.entry.end q.rest after.source goes;
      within = within_then octets are r.source.began (ends_of q.ends) tokens after.source q.entry.end q.rest goes s.within seen;
      there = there_then octets are r.source.began (ends_of q.ends) tokens after.source q.entry.end q.rest goes seen;
    }

stands_row : (octets : List ℕ) (r last : RecordReader) (given : List EntryResult) → AreOctets octets → Stands octets r → AreSuccessiveResults room r given last → Stands octets last
stands_row octets r last given are s none_given = s
stands_row octets r last given are s (given_next before middle end g row next state) = stands_next octets middle end g.old g.new g.result are (stands_row octets r middle before are s row) next

stands_record : (octets : List ℕ) (r after : RecordReader) (old new : List ℕ) (result : Result ParsedEntry RecordError) → AreOctets octets → Stands octets r → ReadsNextRecord room r old (Some result) after new → Stands octets after
stands_record octets r after old new result are s h = stands_next octets h.middle after old new result are (stands_row octets r h.middle h.directives are s h.row) h.last

-- ---- if nothing is left, nothing is returned

nothing_seen : (octets : List ℕ) (at : ℕ) (parts : Parts) → drop at octets ≡ [] → IsSeenFrom octets at parts → (e : EndOfEntry) × (parts ≡ Ok (EndIs e) ∷ [])
nothing_seen octets at parts none s =
    let alone = seen_alone octets at parts s in
    let is : alone.0 ≡ seen_from [] 0 None (ahead [] (at_entry 0)) = seen_once [] alone.0 (seen_from [] 0 None (ahead [] (at_entry 0))) (subst (λ o. IsSeen o alone.0) none alone.1) (starts [] refl) in
    (record { at = at + 0; begins_blank = false }, alone.2 ∙ ap (map (seen_later at)) is)

end_alone : (ends : List EndOfEntry) (tokens : List TokenSeen) (b : Bool) (end : Result EndOfEntry Fault) (rest : Parts) (e : EndOfEntry)
    → Ok (EndIs e) ∷ [] ≡ ends_of ends ++ ((map (λ t. Ok (TokenIs t b)) tokens ++ end_seen end ∷ []) ++ rest) → counts_with tokens end ≡ true → ⊥
end_alone [] [] b (Ok x) rest e is counts = cc
end_alone [] [] b (Err f) rest e is counts = cc
end_alone [] (t ∷ tokens) b end rest e is counts = cc
end_alone (x ∷ ends) tokens b end rest e is counts =
    let none : [] ≡ ends_of ends ++ ((map (λ t. Ok (TokenIs t b)) tokens ++ end_seen end ∷ []) ++ rest) = cc in never_empty (ends_of ends) (map (λ t. Ok (TokenIs t b)) tokens) rest (end_seen end) none

module _ (r : RecordReader) (closed : r.source.is_open ≡ false) where
  no_entry : (e : EndOfEntry) → r.source.parts ≡ Ok (EndIs e) ∷ [] → (after : RecordReader) (old new : List ℕ) (result : Result ParsedEntry RecordError) → ReadsNextEntry room r old (Some result) after new → ⊥
  no_entry e is after old new result next =
      let q = step_seen room r after old new result closed next in
      end_alone q.ends q.entry.tokens q.entry.begins_blank q.entry.end q.rest e (sym is ∙ q.parts_are) q.counts

  no_row : (e : EndOfEntry) → r.source.parts ≡ Ok (EndIs e) ∷ [] → (last : RecordReader) (given : List EntryResult) → AreSuccessiveResults room r given last → last ≡ r
  no_row e is last given none_given = refl
  no_row e is last given (given_next before middle end g row next state) =
      let same : middle ≡ r = no_row e is middle before row in
      absurd (no_entry e is end g.old g.new g.result (subst (λ x. ReadsNextEntry room x g.old (Some g.result) end g.new) same next))

  no_record : (e : EndOfEntry) → r.source.parts ≡ Ok (EndIs e) ∷ [] → (after : RecordReader) (old new : List ℕ) (result : Result ParsedEntry RecordError) → ReadsNextRecord room r old (Some result) after new → ⊥
  no_record e is after old new result h =
      no_entry e is after old new result (subst (λ x. ReadsNextEntry room x old (Some result) after new) (no_row e is h.middle h.directives h.row) h.last)

  none_next : r.source.parts ≡ [] → (old : List ℕ) → ReadsNextRecord room r old None r old
  none_next none old = record {
    directives = [];
    middle = r;
    row = none_given;
    are_directives = tt;
    last = record {
      start = Ok None;
      begun = r.source;
      begins = record { ends = []; passed = closed_left r.source closed; began = refl; start = (closed, none) };
      reads = (refl, refl, (refl, refl));
      octets_stay = refl;
    };
    is_last = λ e. cc;
  }

-- ---- a zone has one state

name_once : (kept : KeptName) (a b : NameState) → HoldsName kept (Some a) → HoldsName kept (Some b) → a ≡ b
name_once kept Unset Unset h k = refl
name_once kept Unset (Name m) h k = absurd (k.1 h.1)
name_once kept Unset Rejected h k = absurd (k h.0)
name_once kept (Name l) Unset h k = absurd (h.1 k.1)
name_once kept (Name l) (Name m) h k =
    let same : Ok l ≡ Ok m = name_same _ (Ok l) (Ok m) h.2.1 k.2.1 in cc
name_once kept (Name l) Rejected h k = absurd (k h.0)
name_once kept Rejected Unset h k = absurd (h k.0)
name_once kept Rejected (Name m) h k = absurd (h k.0)
name_once kept Rejected Rejected h k = refl

no_name : (kept : KeptName) (a : NameState) → HoldsName kept (Some a) → HoldsName kept None → ⊥
no_name kept Unset h k = k.1 h.1
no_name kept (Name l) h k =
    ⊎_elim (λ short. omega (arith, short, h.2.0)) (λ bad. let same : Ok l ≡ Err bad.0 = name_same _ (Ok l) (Err bad.0) h.2.1 bad.1 in cc) k.2
no_name kept Rejected h k = h k.0

pub state_once : (zone : Zone) (a b : State) → HoldsState zone (Some a) → HoldsState zone (Some b) → a ≡ b
state_once zone a b h k = λ i. record {
  origin = name_once zone.origin a.origin b.origin h.0 k.0 i;
  owner = name_once zone.owner a.owner b.owner h.1 k.1 i;
  default_ttl = (h.2 ∙ sym k.2) i;
  last_ttl = (h.3 ∙ sym k.3) i;
  class = (h.4 ∙ sym k.4) i;
}

no_state : (zone : Zone) (a : State) → HoldsState zone (Some a) → HoldsState zone None → ⊥
no_state zone a h = ⊎_elim (no_name zone.origin a.origin h.0) (no_name zone.owner a.owner h.1)

-- ---- statuses

never_one : (r : Refusal) → 1 ≡ number_of r → ⊥
never_one NoRoom h = cc
never_one BadEscape h = cc
never_one ShortInput h = cc
never_one BadUtf8 h = cc
never_one BadSymbol h = cc
never_one TooLong h = cc
never_one BadEncoding h = cc
never_one Closing h = cc
never_one OpenParenthesis h = cc
never_one OpenQuote h = cc
never_one LoneReturn h = cc
never_one BadCursor h = cc
never_one EmptyLabel h = cc
never_one LongLabel h = cc
never_one BinaryLabel h = cc
never_one BadLabel h = cc
never_one Pointer h = cc
never_one TrailingOctets h = cc
never_one NoDigit h = cc
never_one TooGreat h = cc
never_one BadPlace h = cc
never_one BadTtl h = cc
never_one UnknownType h = cc
never_one UnknownClass h = cc
never_one BadHead h = cc
never_one NotSupported h = cc
never_one BadName h = cc
never_one NoOrigin h = cc
never_one NoOwner h = cc
never_one RefusedOwner h = cc
never_one BadData h = cc
never_one NoTtl h = cc
never_one RelativeName h = cc
never_one BadGenerate h = cc

error_some : (wrong : Option Wrong) (e : RecordError) (old new : List ℕ) (told : ℕ) (outcome : Outcome) → ReportsErrorText wrong e old told new outcome → told ≢ 1
error_some (Some wrong) e old new told outcome t = λ one. never_one _ (sym one ∙ t.0.0)
error_some None e old new told outcome t = λ one. never_one _ (sym one ∙ t.told_is)

module _ (after : RecordReader) (octets : List ℕ) (call : RecordCall) where
  found_some : (status : ℕ) (octets : List ℕ) (name : NameState) (head : _) → status ≢ 1 → ReportsFound status after octets name head call → call.status ≢ 1
  found_some status octets name head some t =
      ⊎_elim (λ short. λ one. let none : call.status ≡ 2 = (t.lacks short).0 in omega (arith, none, one)) (λ fits. λ one. some (sym (t.given fits).0 ∙ one))
      (cases_lt (length call.before.octets) (length octets))

  found_keeps : (status : ℕ) (octets : List ℕ) (name : NameState) (head : _) → call.status ≢ 2 → ReportsFound status after octets name head call → KeepsReader after call.before.zone call.after.zone
  found_keeps status octets name head fits t =
      ⊎_elim (λ short. absurd (fits (t.lacks short).0)) (λ enough. (t.given enough).5) (cases_lt (length call.before.octets) (length octets))

  some_told : (given : Result ParsedEntry RecordError) → ReportsResult (Some given) after octets call → call.status ≢ 1
  some_told (Err e) t = error_some (syntax_of e.kind) e _ _ _ _ t.reason
  some_told (Ok (RecordRead at data_at end ttl class rtype)) t = found_some 0 _ _ _ (λ e. cc) t
  some_told (Ok (Include at end file has_origin)) t = found_some 26 _ _ _ (λ e. cc) t.1
  some_told (Ok (Generate at end)) t = found_some 36 _ _ _ (λ e. cc) t
  some_told (Ok Empty) t = absurd t
  some_told (Ok Directive) t = absurd t

  some_keeps : (given : Result ParsedEntry RecordError) → call.status ≢ 2 → ReportsResult (Some given) after octets call → KeepsReader after call.before.zone call.after.zone
  some_keeps (Err e) fits t = t.keeps
  some_keeps (Ok (RecordRead at data_at end ttl class rtype)) fits t = found_keeps 0 _ _ _ fits t
  some_keeps (Ok (Include at end file has_origin)) fits t = found_keeps 26 _ _ _ fits t.1
  some_keeps (Ok (Generate at end)) fits t = found_keeps 36 _ _ _ fits t
  some_keeps (Ok Empty) fits t = absurd t
  some_keeps (Ok Directive) fits t = absurd t

-- ---- a call reads what the reader reads

-- the zone has the state of the reader, and its offset
record Held (zone : Zone) (r : RecordReader) : Type 0 where
  holds : HoldsState zone (Some r.state)
  at : zone.at ≡ r.source.began

held : (r : RecordReader) (old new : Zone) → KeepsReader r old new → Held new r
held r old new k = record { holds = (k.origin.holds, k.owner.holds, k.default_ttl.0, k.last_ttl.0, k.class); at = k.at_is }

abbrev Told : RecordReader → RecordCall → Type 0
Told r call =
    ((after : RecordReader) × (given : Result ParsedEntry RecordError) × ReportsNextRecord r after given call)
    ⊎ ((after : RecordReader) × (octets : List ℕ) × ReadsNextRecord room r [] None after octets × (call.status ≡ 1))

module _ (text : List ℕ) (are : AreOctets text) (r : RecordReader) (stands : Stands text r) (call : RecordCall) (held : Held call.before.zone r) where
  -- a reader that starts at the zone's offset is in the same state, or nothing is left
  same_there : (before : RecordReader) (state : State) → state ≡ r.state → StartsAt text call.before.zone.at state before → IsSeenFrom text r.source.began r.source.parts → SameReader before r
  same_there before state is starts from =
      let there : IsSeenFrom text r.source.began before.source.parts = subst (λ n. IsSeenFrom text n before.source.parts) held.at starts.parts in
      let parts = seen_from_once text r.source.began before.source.parts r.source.parts there from in
      record {
        octets = starts.octets_is ∙ sym stands.octets_is;
        source = λ i. record { began = (starts.began ∙ held.at) i; is_open = (starts.closed ∙ sym stands.closed) i; taken = (starts.taken ∙ sym stands.taken) i; parts = parts i };
        state = starts.state_is ∙ is;
      }

  module _ (before after : RecordReader) (octets : List ℕ) where
    told_same : (given : Option (Result ParsedEntry RecordError)) → SameReader before r → ReadsNextRecord room before [] given after octets
        → ReportsResult given after octets call → Told r call
    told_same (Some given) same reads tells = inl (after, given, record { octets = octets; reads = record_of_other before r after [] octets (Some given) same reads; tells = tells })
    told_same None same reads tells = inr (after, octets, record_of_other before r after [] octets None same reads, tells.status_is)

    told_none : (given : Option (Result ParsedEntry RecordError)) → r.source.parts ≡ [] → before.source.is_open ≡ false → (e : EndOfEntry) → before.source.parts ≡ Ok (EndIs e) ∷ []
        → ReadsNextRecord room before [] given after octets → ReportsResult given after octets call → Told r call
    told_none (Some given) none closed e is reads tells = absurd (no_record before closed e is after [] octets given reads)
    told_none None none closed e is reads tells = inr (r, [], none_next r stands.closed none [], tells.status_is)

  told_by : (state : State) → state ≡ r.state → ReadsZone text state call → Told r call
  told_by state is z =
      ⊎_elim
      (λ none.
      let end = nothing_seen text call.before.zone.at z.before.source.parts (ap (λ n. drop n text) held.at ∙ none.1) z.starts.parts in
      told_none z.before z.after z.octets z.given none.0 z.starts.closed end.0 end.1 z.reads z.tells)
      (λ from. told_same z.before z.after z.octets z.given (same_there z.before state is z.starts from) z.reads z.tells)
      stands.there

  told_here : NextRecord text call → Told r call
  told_here (inl bad) = absurd (⊎_elim (no_state call.before.zone r.state held.holds) (λ past. omega (arith, past, held.at, stands.within)) bad.0)
  told_here (inr (state, holds, within, z)) = told_by state (state_once call.before.zone state r.state holds held.holds) z

-- ---- calls one after another

module _ (text : List ℕ) (are : AreOctets text) where
  tell_on : (calls : List RecordCall) (zone : Zone) (r : RecordReader) → Stands text r → Held zone r → RecordCalls text zone calls → CallsReturnRecords r calls
  tell_on [] zone r stands h calls = absurd calls
  tell_on (call ∷ []) zone r stands h (same, answers, one) =
      elim (told_here text are r stands call (subst (λ z. Held z r) (sym same) h) answers.answers) [
        | inl t ↦ absurd (some_told t.0 t.2.octets call t.1 t.2.tells one)
        | inr t ↦ (t.0, t.1, t.2)
      ]
  tell_on (call ∷ next ∷ more) zone r stands h (same, answers, some, calls) =
      elim (told_here text are r stands call (subst (λ z. Held z r) (sym same) h) answers.answers) [
        | inl t ↦ (
          t.0,
          t.1,
          t.2,
          tell_on (next ∷ more) call.after.zone t.0 (stands_record text r t.0 [] t.2.octets t.1 are stands t.2.reads)
              (held t.0 call.before.zone call.after.zone (some_keeps t.0 t.2.octets call t.1 answers.room t.2.tells)) calls,
        )
        | inr t ↦ absurd (some t.3)
      ]

  -- a reader at the start
  first_parts : (parts : Parts) → IsSeenFrom text 0 parts → IsSeen text parts
  first_parts parts s =
      let all : Parts = seen_from text 0 None (ahead text (at_entry 0)) in
      subst (IsSeen text) (sym (seen_from_once text 0 parts all s (seen_from_start text all are (starts text are)))) (starts text are)

  starts_text : (at : ℕ) (state : State) (r : RecordReader) → at ≡ 0 → StartsAt text at state r → StartsText text state r
  starts_text at state r zero s = record {
    are_octets = are;
    octets_is = s.octets_is;
    parts = first_parts r.source.parts (subst (λ n. IsSeenFrom text n r.source.parts) zero s.parts);
    closed = s.closed;
    began = s.began ∙ zero;
    taken = s.taken;
    state_is = s.state_is;
  }

  -- the reader of the first call
  first_reader : (state : State) (zone : Zone) (call : RecordCall) → zone.at ≡ 0 → HoldsState zone (Some state) → call.before.zone ≡ zone → NextRecord text call
      → (r : RecordReader) × StartsText text state r
  first_reader state zone call zero holds same (inl bad) =
      let here : HoldsState call.before.zone (Some state) = subst (λ z. HoldsState z (Some state)) (sym same) holds in
      let at : call.before.zone.at ≡ 0 = ap (λ (z : Zone). z.at) same ∙ zero in
      absurd (⊎_elim (no_state call.before.zone state here) (λ past. omega (arith, past, at)) bad.0)
  first_reader state zone call zero holds same (inr (other, found, within, z)) =
      let here : HoldsState call.before.zone (Some state) = subst (λ x. HoldsState x (Some state)) (sym same) holds in
      let at : call.before.zone.at ≡ 0 = ap (λ (x : Zone). x.at) same ∙ zero in
      let is : other ≡ state = state_once call.before.zone other state found here in
      (z.before, subst (λ x. StartsText text x z.before) is (starts_text call.before.zone.at other z.before at z.starts))

  tell_from : (state : State) (zone : Zone) (calls : List RecordCall) (r : RecordReader) → zone.at ≡ 0 → HoldsState zone (Some state) → RecordCalls text zone calls → StartsText text state r → CallsReturnRecords r calls
  tell_from state zone calls r zero holds all starts =
      tell_on calls zone r (stands_first text state r starts) (record { holds = subst (λ x. HoldsState zone (Some x)) (sym starts.state_is) holds; at = zero ∙ sym starts.began }) all

pub record_calls_return_all : RecordCallsReturnAll
record_calls_return_all text state zone [] are zero holds calls = absurd calls
record_calls_return_all text state zone (call ∷ []) are zero holds calls =
    let f = first_reader text are state zone call zero holds calls.0 calls.1.answers in (f.0, f.1, tell_from text are state zone (call ∷ []) f.0 zero holds calls f.1)
record_calls_return_all text state zone (call ∷ next ∷ more) are zero holds calls =
    let f = first_reader text are state zone call zero holds calls.0 calls.1.answers in (f.0, f.1, tell_from text are state zone (call ∷ next ∷ more) f.0 zero holds calls f.1)
