-- The next record of a zone needs one length, whichever call reads it.
use Rattle.std.proofs.Common.{ℕ, ◌≡◌, ◌<◌, Bool, true, false, List, [], ◌∷◌, ◌++◌, length, refl, sym, ap, subst, ◌∙◌, arith, append_assoc, inl, inr, Option, Some, None, Result, Ok, Err}
use Rattle.std.specs.Prelude.{map, unwrap_or}
use Rattle.std.specs.List.{AllByRecursion}
use Rattle.std.proofs.lemmas.Bool.{cases_lt}
use Rattle.dns_octets.specs.Room.{Room, exactly}
use Rattle.dns_lexer.specs.EntryTokens.{EndIs, TokenIs, TokenSeen}
use Rattle.dns_lexer.specs.declared.pieces.EndOfEntry.{EndOfEntry}
use Rattle.dns_lexer.specs.declared.pieces.Fault.{Fault as TextFault}
use Rattle.rdata.specs.ByType.{ReadsType}
use Rattle.rdata_fields.specs.Source.{next_place}
use Rattle.rdata_fields.specs.declared.record_error.RecordError.{RecordError}
use Rattle.rdata_values.specs.declared.classes.Class.{Class}
use Rattle.rdata_values.specs.declared.types.RecordType.{RecordType}
use Rattle.zone_reader.specs.EntryMeanings.{EntryMeaning, says_nothing, says_origin, says_default_ttl, says_include, says_generate, says_record, says_refused}
use Rattle.zone_reader.specs.EntryReading.{ReadsAfterHeader, ReadsDataAfterHeader, ReadsMeaning, ReadsZoneEntry, declared_by_entry, directive_with, record_with}
use Rattle.zone_reader.specs.Directives.{first_directive}
use Rattle.zone_reader.specs.Learning.{Updates}
use Rattle.zone_reader.specs.Past.{known_name}
use Rattle.zone_reader.specs.Records.{AreSuccessiveResults, EntryResult, IsDirectiveResult, ReadsNextEntry, ReadsNextRecord, given_next, none_given, result_of_entry}
use Rattle.zone_reader.specs.Source.{SourceSeen}
use Rattle.zone_reader.specs.TextEntries.{counts_with, end_seen, tokens_end}
use Rattle.zone_reader.specs.TextPieces.{StartsAt}
use Rattle.zone_reader.specs.declared.entry.ParsedEntry.{ParsedEntry}
use Rattle.zone_reader.specs.declared.entry.ParsedEntry.TheVariants.{Empty, Directive, Include, Generate, Record as RecordRead}
use Rattle.zone_reader.specs.declared.header.HeaderError.{HeaderError}
use Rattle.zone_reader.specs.declared.header.RecordHeader.{RecordHeader}
use Rattle.zone_reader.specs.declared.known.NameState.{NameState}
use Rattle.zone_reader.specs.declared.records.RecordReader.{RecordReader}
use Rattle.zone_reader.specs.declared.state.State.{State}
use Rattle.zone_reader.specs.declared.ttl.RecordTtl.{RecordTtl}
use Rattle.zone_reader.proofs.EntryLaws.{entries_say_once}
use Rattle.zone_reader.proofs.PastStates.{known_once, starts}
use Rattle.zone_reader.proofs.Passing.{ends_of}
use Rattle.zone_reader.proofs.RestsSeen.{seen_from_once}
use Rattle.zone_reader.proofs.SeenParts.{Parts}
use Rattle.zone_reader.proofs.StepsSeen.{GoesOn, step_seen}
use Rattle.c_calls.specs.EnoughRoom.{FillsOrKeeps, NextRecordCalls}
use Rattle.c_calls.specs.Kept.{HoldsState}
use Rattle.c_calls.specs.Reasons.{ReportsError}
use Rattle.c_calls.specs.Records.{Memory, RecordCall, ReportsFound, ReportsResult}
use Rattle.c_calls.specs.declared.kept.Zone.{Zone}
use Rattle.c_calls.specs.declared.outcome.Outcome.{Outcome}
use Rattle.rdata.proofs.OneSpelling.{type_once}
use Rattle.c_calls.proofs.DataRoom.{ends_passed, error_else, past_ends}
use Rattle.c_calls.proofs.RecordCalls.{SameReader, entry_of_other, state_once}
use Rattle.c_calls.proofs.Rooms.{all_before}
use Rattle.c_calls.proofs.RoomSaid.{enough_reported}

abbrev room : Room
room = exactly 65535

-- the number of octets that are returned for an entry
abbrev needed : ParsedEntry → List ℕ → ℕ
needed (RecordRead at data_at end ttl class rtype) octets = length octets
needed (Include at end file has_origin) octets = file
needed (Generate at end) octets = 0
needed Empty octets = 0
needed Directive octets = 0

-- ---- an entry is read as one

record AreAlike (x : ParsedEntry) (a : List ℕ) (y : ParsedEntry) (b : List ℕ) : Type 0 where
  directive : x ≡ Directive → y ≡ Directive
  needs : needed x a ≡ needed y b

alike_as : (x y p q : ParsedEntry) (a b : List ℕ) → x ≡ p → y ≡ q → AreAlike p a q b → AreAlike x a y b
alike_as x y p q a b is same h = subst (λ v. AreAlike v a y b) (sym is) (subst (λ w. AreAlike p a w b) (sym same) h)

module _ (before : State) (end : ℕ) (tokens : List TokenSeen) (x y : ParsedEntry) (a b : List ℕ) where
  abbrev Alike : Type 0
  Alike = AreAlike x a y b

  -- a record of these octets
  abbrev IsRecord : ParsedEntry → Type 0
  IsRecord e = (at : ℕ) × (data_at : ℕ) × (last : ℕ) × (ttl : RecordTtl) × (class : Class) × (rtype : RecordType) × (e ≡ RecordRead at data_at last ttl class rtype)

  record_so : (e : ParsedEntry) (at data_at : ℕ) (w : RecordHeader) (ttl : Option RecordTtl) → Ok e ≡ record_with before at data_at end w ttl → IsRecord e
  record_so e at data_at w None h = cc
  record_so e at data_at w (Some ttl) h = (_, _, _, _, _, _, same)
    where
      same : e ≡ RecordRead at data_at end ttl (unwrap_or w.class before.class) w.rtype
      same = cc h

  records_alike : IsRecord x → IsRecord y → a ≡ b → Alike
  records_alike h k same = alike_as x y _ _ a b h.6 k.6 (record { directive = λ d. cc; needs = ap length same })

  module _ (at : ℕ) (w : RecordHeader) (words left rest : List TokenSeen) where
    data_alike : (r s : Result (Unit {0}) RecordError) → ReadsType (known_name before.origin) room w.rtype end words [] r left a → ReadsDataAfterHeader before at (next_place words end) end w [] r a (Ok x)
        → ReadsType (known_name before.origin) room w.rtype end words [] s rest b → ReadsDataAfterHeader before at (next_place words end) end w [] s b (Ok y) → Alike
    data_alike (Err e) s h is k same = cc
    data_alike (Ok u) (Err e) h is k same = cc
    data_alike (Ok u) (Ok v) h is k same =
        let octets = type_once (known_name before.origin) words w.rtype h.1.0 k.1.0 h.1.1 k.1.1 in
        records_alike (record_so x at (next_place words end) w _ is.2.2) (record_so y at (next_place words end) w _ same.2.2) (h.1.2 ∙ octets ∙ sym k.1.2)

  header_alike : (at : ℕ) (first last : Result (Unit {0}) RecordError) (words : Result RecordHeader HeaderError) (left : List TokenSeen) → ReadsAfterHeader before room at end first words left [] (Ok x) a
      → ReadsAfterHeader before room at end last words left [] (Ok y) b → Alike
  header_alike at (Err e) last words left h k = let no = h.0 in cc
  header_alike at (Ok u) (Err e) words left h k = let no = k.0 in cc
  header_alike at (Ok u) (Ok v) (Err e) left h k = let no = h.0 in cc
  header_alike at (Ok u) (Ok v) (Ok w) left h k = data_alike at w left h.1 k.1 h.0 k.0 h.2 h.3 k.2 k.3

  both : (e : ParsedEntry) → (e ≡ Directive → Directive ≡ Directive) → x ≡ e → y ≡ e → needed e a ≡ needed e b → Alike
  both e d h k n = alike_as x y e e a b h k (record { directive = λ is. is; needs = n })

  ttl_alike : (r : Result ℕ RecordError) → Ok x ≡ directive_with r → Ok y ≡ directive_with r → Alike
  ttl_alike (Ok ttl) h k = both Directive (λ is. refl) (cc h) (cc k) refl
  ttl_alike (Err e) h k = cc

  meaning_alike : (m : EntryMeaning) (one other : NameState) → ReadsMeaning before room end tokens m [] (Ok x) one a → ReadsMeaning before room end tokens m [] (Ok y) other b → Alike
  meaning_alike says_nothing one other h k = let is = h.0 in let same = k.0 in both Empty (λ is. refl) (cc is) (cc same) refl
  meaning_alike (says_origin t) one other h k = both Directive (λ is. refl) h.0.0 k.0.0 refl
  meaning_alike (says_default_ttl r) one other h k = ttl_alike r h.0 k.0
  meaning_alike (says_include file token) one other h k = alike_as x y _ _ a b h.1 k.1 (record { directive = λ d. cc; needs = refl })
  meaning_alike says_generate one other h k = let is = h.0 in let same = k.0 in both (Generate (next_place tokens end) end) (λ is. refl) (cc is) (cc same) refl
  meaning_alike (says_record token words left) one other h k = header_alike _ h.0 k.0 words left h.2 k.2
  meaning_alike (says_refused e) one other h k = cc

module _ (blank : Bool) (end : ℕ) (tokens : List TokenSeen) (before : State) where
  entry_alike : (x y : ParsedEntry) (after other : State) (a b : List ℕ) → ReadsZoneEntry room blank end tokens before [] (Ok x) after a → ReadsZoneEntry room blank end tokens before [] (Ok y) other b → AreAlike x a y b
  entry_alike x y after other a b h k =
      let same = entries_say_once blank end tokens h.meaning k.meaning h.says k.says in
      meaning_alike before end tokens x y a b k.meaning after.owner other.owner (subst (λ m. ReadsMeaning before room end tokens m [] (Ok x) after.owner a) same h.reads) k.reads

  directive_state : (after other : State) (a b : List ℕ) → ReadsZoneEntry room blank end tokens before [] (Ok Directive) after a → ReadsZoneEntry room blank end tokens before [] (Ok Directive) other b → after ≡ other
  directive_state after other a b h k =
      let same = entries_say_once blank end tokens h.meaning k.meaning h.says k.says in
      let one = subst (λ m. Updates (declared_by_entry (first_directive blank tokens) m (Ok Directive)) before after) same h.learns in
      known_once before _ after other (one before [] (starts before)) (k.learns before [] (starts before))

-- ---- a reader reads one entry next

record Step (r after : RecordReader) (x : ParsedEntry) (new : List ℕ) : Type 0 where
  blank : Bool
  token : TokenSeen
  tokens : List TokenSeen
  end : EndOfEntry
  rest : Parts
  passed : past_ends r.source.parts ≡ Ok (TokenIs token blank) ∷ (map (λ t. Ok (TokenIs t blank)) tokens ++ (Ok (EndIs end) ∷ rest))
  reads : ReadsZoneEntry room blank (tokens_end (token ∷ tokens)) (token ∷ tokens) r.state [] (Ok x) after.state new
  source_is : after.source ≡ record { began = end.at; is_open = false; taken = None; parts = rest }

module _ (r after : RecordReader) (x : ParsedEntry) (new : List ℕ) where
  step_of : (ends : List EndOfEntry) (blank : Bool) (tokens : List TokenSeen) (end : Result EndOfEntry TextFault) (rest : Parts) (read : Result ParsedEntry RecordError)
      → r.source.parts ≡ ends_of ends ++ ((map (λ t. Ok (TokenIs t blank)) tokens ++ end_seen end ∷ []) ++ rest) → counts_with tokens end ≡ true
      → ReadsZoneEntry room blank (tokens_end tokens) tokens r.state [] read after.state new → Ok x ≡ result_of_entry end read → GoesOn r.octets.now end rest after.source → Step r after x new
  step_of ends blank [] (Ok e) rest read is counts reads given goes = cc
  step_of ends blank [] (Err f) rest read is counts reads given goes = cc
  step_of ends blank (t ∷ ts) (Err f) rest read is counts reads given goes = cc
  step_of ends blank (t ∷ ts) (Ok e) rest read is counts reads given goes = record {
    blank = blank;
    token = t;
    tokens = ts;
    end = e;
    rest = rest;
    passed = ap past_ends is ∙ ends_passed ends _ ∙ ap (λ l. Ok (TokenIs t blank) ∷ l) (append_assoc (map (λ t. Ok (TokenIs t blank)) ts) (Ok (EndIs e) ∷ []) rest);
    reads = subst (λ z. ReadsZoneEntry room blank (tokens_end (t ∷ ts)) (t ∷ ts) r.state [] z after.state new) (sym given) reads;
    source_is = λ i. record { began = goes.2 i; is_open = goes.1 i; taken = goes.3 i; parts = goes.0 i };
  }

  step : r.source.is_open ≡ false → ReadsNextEntry room r [] (Some (Ok x)) after new → Step r after x new
  step closed h =
      let s = step_seen room r after [] new (Ok x) closed h in
      step_of s.ends s.entry.begins_blank s.entry.tokens s.entry.end s.rest s.read s.parts_are s.counts s.reads s.given s.goes_on

record SameCut (b c : Bool) (ts us : List TokenSeen) (e f : EndOfEntry) (p q : Parts) : Type 0 where
  tokens_are : ts ≡ us
  end_is : e ≡ f
  rest_is : p ≡ q

cut_once : (b c : Bool) (ts us : List TokenSeen) (e f : EndOfEntry) (p q : Parts) → map (λ t. Ok (TokenIs t b)) ts ++ (Ok (EndIs e) ∷ p) ≡ map (λ t. Ok (TokenIs t c)) us ++ (Ok (EndIs f) ∷ q) → SameCut b c ts us e f p q
cut_once b c [] [] e f p q h = record { tokens_are = refl; end_is = cc h; rest_is = cc h }
cut_once b c [] (u ∷ us) e f p q h = cc
cut_once b c (t ∷ ts) [] e f p q h = cc
cut_once b c (t ∷ ts) (u ∷ us) e f p q h =
    let head : t ≡ u = cc h in
    let tail : map (λ t. Ok (TokenIs t b)) ts ++ (Ok (EndIs e) ∷ p) ≡ map (λ t. Ok (TokenIs t c)) us ++ (Ok (EndIs f) ∷ q) = cc h in
    let more = cut_once b c ts us e f p q tail in
    record { tokens_are = (λ i. head i ∷ more.tokens_are i); end_is = more.end_is; rest_is = more.rest_is }

record SameStep (r after other : RecordReader) (x y : ParsedEntry) (a b : List ℕ) : Type 0 where
  alike : AreAlike x a y b
  source : after.source ≡ other.source
  state : x ≡ Directive → y ≡ Directive → after.state ≡ other.state

module _ (r after other : RecordReader) (x y : ParsedEntry) (a b : List ℕ) where
  steps_same : Step r after x a → Step r other y b → SameStep r after other x y a b
  steps_same s k =
      let is = sym s.passed ∙ k.passed in
      let head : s.token ≡ k.token = cc is in
      let blank : s.blank ≡ k.blank = cc is in
      let tail : map (λ t. Ok (TokenIs t s.blank)) s.tokens ++ (Ok (EndIs s.end) ∷ s.rest) ≡ map (λ t. Ok (TokenIs t k.blank)) k.tokens ++ (Ok (EndIs k.end) ∷ k.rest) = cc is in
      let cut = cut_once s.blank k.blank s.tokens k.tokens s.end k.end s.rest k.rest tail in
      let tokens : s.token ∷ s.tokens ≡ k.token ∷ k.tokens = λ i. head i ∷ cut.tokens_are i in
      let reads : ReadsZoneEntry room k.blank (tokens_end (k.token ∷ k.tokens)) (k.token ∷ k.tokens) r.state [] (Ok x) after.state a =
      subst (λ z. ReadsZoneEntry room z (tokens_end (k.token ∷ k.tokens)) (k.token ∷ k.tokens) r.state [] (Ok x) after.state a) blank
      (subst (λ l. ReadsZoneEntry room s.blank (tokens_end l) l r.state [] (Ok x) after.state a) tokens s.reads) in
      record {
        alike = entry_alike k.blank (tokens_end (k.token ∷ k.tokens)) (k.token ∷ k.tokens) r.state x y after.state other.state a b reads k.reads;
        source = s.source_is ∙ (λ i. record { began = (cut.end_is i).at; is_open = false; taken = None; parts = cut.rest_is i }) ∙ sym k.source_is;
        state = λ d e. directive_state k.blank (tokens_end (k.token ∷ k.tokens)) (k.token ∷ k.tokens) r.state after.state other.state a b
            (subst (λ z. ReadsZoneEntry room k.blank (tokens_end (k.token ∷ k.tokens)) (k.token ∷ k.tokens) r.state [] (Ok z) after.state a) d reads)
            (subst (λ z. ReadsZoneEntry room k.blank (tokens_end (k.token ∷ k.tokens)) (k.token ∷ k.tokens) r.state [] (Ok z) other.state b) e k.reads);
      }

-- two readers at one position, with one state
next_same : (r s after other : RecordReader) (x y : ParsedEntry) (a b : List ℕ) → SameReader r s → s.source.is_open ≡ false → ReadsNextEntry room r [] (Some (Ok x)) after a → ReadsNextEntry room s [] (Some (Ok y)) other b
    → SameStep s after other x y a b
next_same r s after other x y a b same closed h k =
    steps_same s after other x y a b (step s after x a closed (entry_of_other r s after [] a (Some (Ok x)) same h)) (step s other y b closed k)

closed_next : (r after : RecordReader) (x : ParsedEntry) (a : List ℕ) → r.source.is_open ≡ false → ReadsNextEntry room r [] (Some (Ok x)) after a → after.source.is_open ≡ false
closed_next r after x a closed h = ap (λ (s : SourceSeen). s.is_open) (step r after x a closed h).source_is

-- ---- directives are read in a row, and then a record, a file or a directive to expand

data Row : RecordReader → RecordReader → Type 0 where
  row_done : (r : RecordReader) → Row r r
  row_next : (r middle last : RecordReader) (new : List ℕ) → ReadsNextEntry room r [] (Some (Ok Directive)) middle new → Row middle last → Row r last

row_more : (r middle last : RecordReader) (new : List ℕ) → Row r middle → ReadsNextEntry room middle [] (Some (Ok Directive)) last new → Row r last
row_more r middle last new (row_done s) h = row_next r last last new h (row_done last)
row_more r middle last new (row_next s one t passed first row) h = row_next r one last passed first (row_more one middle last new row h)

row_of : (r last : RecordReader) (given : List EntryResult) → AreSuccessiveResults room r given last → AllByRecursion (IsDirectiveResult []) given → Row r last
row_of r last given none_given all = row_done r
row_of r last given (given_next before middle end g row next state) all =
    let each = all_before (IsDirectiveResult []) before g all in
    row_more r middle last g.new (row_of r middle before row each.0)
    (subst (λ z. ReadsNextEntry room middle [] (Some z) last g.new) each.1.1 (subst (λ o. ReadsNextEntry room middle o (Some g.result) last g.new) each.1.0 next))

module _ (x y : ParsedEntry) (a b : List ℕ) (some : x ≡ Directive → ⊥) (more : y ≡ Directive → ⊥) where
  rows_once : (r s m n after other : RecordReader) → SameReader r s → r.source.is_open ≡ false → Row r m → Row s n → ReadsNextEntry room m [] (Some (Ok x)) after a → ReadsNextEntry room n [] (Some (Ok y)) other b
      → needed x a ≡ needed y b
  rows_once r s m n after other same closed (row_done p) (row_done q) h k =
      (next_same r s after other x y a b same (ap (λ (z : SourceSeen). z.is_open) (sym same.source) ∙ closed) h k).alike.needs
  rows_once r s m n after other same closed (row_done p) (row_next q one t passed first row) h k =
      let back : SameReader s r = record { octets = sym same.octets; source = sym same.source; state = sym same.state } in
      absurd (some ((next_same s r one after Directive x passed a back closed first h).alike.directive refl))
  rows_once r s m n after other same closed (row_next p one t passed first row) (row_done q) h k =
      absurd (more ((next_same r s one other Directive y passed b same (ap (λ (z : SourceSeen). z.is_open) (sym same.source) ∙ closed) first k).alike.directive refl))
  rows_once r s m n after other same closed (row_next p one t passed first row) (row_next q two u gone start line) h k =
      let next = next_same r s one two Directive Directive passed gone same (ap (λ (z : SourceSeen). z.is_open) (sym same.source) ∙ closed) first start in
      let here : SameReader one two = record { octets = first.octets_stay ∙ same.octets ∙ sym start.octets_stay; source = next.source; state = next.state refl refl } in
      rows_once one two m n after other here (closed_next r one Directive passed closed first) row line h k

-- ---- calls of one zone

module _ (text : List ℕ) (zone : Zone) where
  record IsNeeded (n : ℕ) : Type 0 where
    state : State
    holds : HoldsState zone (Some state)
    reader : RecordReader
    begins : StartsAt text zone.at state reader
    result : ParsedEntry
    after : RecordReader
    octets : List ℕ
    reads : ReadsNextRecord room reader [] (Some (Ok result)) after octets
    number : n ≡ needed result octets

  needed_once : (n m : ℕ) → IsNeeded n → IsNeeded m → n ≡ m
  needed_once n m h k =
      let state = state_once zone h.state k.state h.holds k.holds in
      let parts = seen_from_once text zone.at h.reader.source.parts k.reader.source.parts h.begins.parts k.begins.parts in
      let same : SameReader h.reader k.reader = record {
        octets = h.begins.octets_is ∙ sym k.begins.octets_is;
        source = λ i. record {
          began = (h.begins.began ∙ sym k.begins.began) i;
          is_open = (h.begins.closed ∙ sym k.begins.closed) i;
          taken = (h.begins.taken ∙ sym k.begins.taken) i;
          parts = parts i;
        };
        state = h.begins.state_is ∙ state ∙ sym k.begins.state_is;
      } in
      let one = row_of h.reader h.reads.middle h.reads.directives h.reads.row h.reads.are_directives in
      let other = row_of k.reader k.reads.middle k.reads.directives k.reads.row k.reads.are_directives in
      h.number
      ∙ rows_once h.result k.result h.octets k.octets (λ d. h.reads.is_last (ap (λ z. Some (Ok z)) d)) (λ d. k.reads.is_last (ap (λ z. Some (Ok z)) d))
      h.reader k.reader h.reads.middle k.reads.middle h.after k.after same h.begins.closed one other h.reads.last k.reads.last
      ∙ sym k.number

  module _ (call : RecordCall) (lacking : call.status ≡ 2) where
    record Lacks (n : ℕ) : Type 0 where
      told : call.outcome.length ≡ n
      short : length call.before.octets < n
      same : call.after ≡ call.before

    found_lacks : (status : ℕ) (reader : RecordReader) (octets : List ℕ) (name : NameState) (head : _) → (status ≡ 2 → ⊥) → ReportsFound status reader octets name head call → Lacks (length octets)
    found_lacks status reader octets name head other t = elim (cases_lt (length call.before.octets) (length octets)) [
      | inl less ↦ record { told = ap (λ (o : Outcome). o.length) t.outcome_is; short = less; same = (t.lacks less).1 }
      | inr fits ↦ absurd (other (sym (t.given fits).0 ∙ lacking))
    ]

    record Returned (given : Option (Result ParsedEntry RecordError)) (octets : List ℕ) : Type 0 where
      result : ParsedEntry
      is : given ≡ Some (Ok result)
      lacks : Lacks (needed result octets)

    result_lacks : (given : Option (Result ParsedEntry RecordError)) (reader : RecordReader) (octets : List ℕ) → ReportsResult given reader octets call → Returned given octets
    result_lacks None reader octets t = let no = t.status_is in absurd (omega (arith, no, lacking))
    result_lacks (Some (Err e)) reader octets t = absurd (error_else e call.before.octets call.after.octets call.outcome (subst (λ s. ReportsError e call.before.octets s call.after.octets call.outcome) lacking t.reason))
    result_lacks (Some (Ok (RecordRead at data_at end ttl class rtype))) reader octets t =
        record { result = RecordRead at data_at end ttl class rtype; is = refl; lacks = found_lacks 0 reader octets reader.state.owner _ (λ e. omega (arith, e)) t }
    result_lacks (Some (Ok (Include at end file has_origin))) reader octets t =
        record { result = Include at end file has_origin; is = refl; lacks = subst Lacks (sym t.0.count) (found_lacks 26 reader t.0.name _ _ (λ e. omega (arith, e)) t.1) }
    result_lacks (Some (Ok (Generate at end))) reader octets t = record { result = Generate at end; is = refl; lacks = found_lacks 36 reader [] _ _ (λ e. omega (arith, e)) t }
    result_lacks (Some (Ok Empty)) reader octets t = absurd t
    result_lacks (Some (Ok Directive)) reader octets t = absurd t

  record Lacking (old new : List ℕ) (outcome : Outcome) : Type 0 where
    needs : IsNeeded outcome.length
    short : length old < outcome.length
    same : new ≡ old

  call_lacks : (old new : List ℕ) (outcome : Outcome) → NextRecordCalls text zone old 2 new outcome → Lacking old new outcome
  call_lacks old new outcome (later, before, found, inl bad) = let no : 2 ≡ 13 = bad.1.0 in absurd (omega (arith, no))
  call_lacks old new outcome (later, before, found, inr (state, holds, within, z)) =
      let r = result_lacks _ refl z.given z.after z.octets z.tells in
      record {
        needs = record {
          state = state;
          holds = holds;
          reader = z.before;
          begins = z.starts;
          result = r.result;
          after = z.after;
          octets = z.octets;
          reads = subst (λ g. ReadsNextRecord room z.before [] g z.after z.octets) r.is z.reads;
          number = r.lacks.told;
        };
        short = subst (λ n. length old < n) (sym r.lacks.told) r.lacks.short;
        same = ap (λ (m : Memory). m.octets) r.lacks.same;
      }

pub record_filled : (text : List ℕ) (zone : Zone) → FillsOrKeeps (NextRecordCalls text zone)
record_filled text zone = record {
  room = enough_reported (NextRecordCalls text zone) (IsNeeded text zone) (needed_once text zone) (λ old new outcome h. let l = call_lacks text zone old new outcome h in (l.needs, l.short));
  keeps = λ old new outcome h. (call_lacks text zone old new outcome h).same;
}
