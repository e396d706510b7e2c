-- Rows of calls, each of which returns something.
use Rattle.std.proofs.Common.{ℕ, ◌≡◌, ◌≢◌, Bool, true, false, List, [], ◌∷◌, ◌++◌, refl, sym, ◌∙◌, subst, append_assoc, append-nil, Option, Some, None, Result, Ok, Err}
use Rattle.dns_octets.specs.Room.{Room}
use Rattle.dns_lexer.specs.declared.pieces.Fault.{Fault}
use Rattle.dns_lexer.specs.EntryTokens.{BeginsToken, EndIs, TokenIs, TokenSeen}
use Rattle.rdata_fields.specs.declared.record_error.RecordError.{RecordError}
use Rattle.rdata_values.specs.declared.error.ErrorKind.{ErrorKind}
use Rattle.zone_reader.specs.EntryMeanings.{DirectiveMeans, EntryMeaning, EntryMeans, FirstTokenMeans, says_nothing, says_origin, says_default_ttl, says_include, says_generate, says_record, says_refused}
use Rattle.zone_reader.specs.declared.directive.Directive.{Directive}
use Rattle.zone_reader.specs.declared.directive.Directive.TheVariants.{Origin, Ttl, Include as OfInclude, Generate as OfGenerate}
use Rattle.zone_reader.specs.declared.header.RecordHeader.{RecordHeader}
use Rattle.zone_reader.specs.EntryReading.{ReadsMeaning, directive_with, record_with}
use Rattle.zone_reader.specs.Records.{AreSuccessiveResults, ReadsBegun, given_next, none_given}
use Rattle.zone_reader.specs.Source.{BeginsEntry, entry_end, unread_entry_tokens, tokens_first}
use Rattle.zone_reader.specs.WholeTexts.{RecordsEndRows, RowsJoin, NoCallIsBlank}
use Rattle.zone_reader.specs.declared.entry.ParsedEntry.TheVariants.{Empty}
use Rattle.zone_reader.specs.declared.known.NameState.{NameState}
use Rattle.zone_reader.specs.declared.source.StartOfEntry.{StartOfEntry}
use Rattle.zone_reader.specs.declared.state.State.{State}
use Rattle.zone_reader.specs.declared.ttl.RecordTtl.{RecordTtl}
use Rattle.zone_reader.proofs.NextRecords.{not_words, read_of}
use Rattle.zone_reader.proofs.SeenParts.{Parts}
use Rattle.zone_reader.proofs.StepsSeen.{open_left}

pub rows_join : RowsJoin
rows_join room first middle last given more h none_given = subst (λ l. AreSuccessiveResults room first l middle) (sym (append-nil given)) h
rows_join room first middle last given more h (given_next before now end g row next state) =
    subst (λ l. AreSuccessiveResults room first l end) (append_assoc given before (g ∷ [])) (given_next (given ++ before) now end g (rows_join room first middle now given before h row) next state)

pub records_end_rows : RecordsEndRows
records_end_rows room before after old new result h =
    (h.directives, given_next h.directives h.middle after (record { old = old; result = result; new = new; state = after.state }) h.row h.last refl)

-- ---- tokens mean something

directive_silent : (d : Directive) (end : ℕ) (tokens : List TokenSeen) → DirectiveMeans d end tokens says_nothing → ⊥
directive_silent Origin end [] h = cc
directive_silent Origin end (t ∷ []) h = cc
directive_silent Origin end (t ∷ u ∷ ts) h = cc
directive_silent Ttl end tokens h = let no = h.3 in cc
directive_silent OfInclude end [] h = cc
directive_silent OfInclude end (t ∷ []) h = cc
directive_silent OfInclude end (t ∷ u ∷ []) h = cc
directive_silent OfInclude end (t ∷ u ∷ v ∷ ts) h = cc
directive_silent OfGenerate end tokens h = cc

first_silent : (d : Option (Result Directive ErrorKind)) (end : ℕ) (t : TokenSeen) (tokens : List TokenSeen) → FirstTokenMeans d end t tokens says_nothing → ⊥
first_silent None end t tokens h = let no = h.3 in cc
first_silent (Some (Ok d)) end t tokens h = directive_silent d end tokens h
first_silent (Some (Err why)) end t tokens h = cc

silent : (blank : Bool) (end : ℕ) (tokens : List TokenSeen) → tokens ≢ [] → EntryMeans blank end tokens says_nothing → ⊥
silent blank end [] some h = some refl
silent true end (t ∷ tokens) some h = let no = h.3 in cc
silent false end (t ∷ tokens) some h = first_silent _ end t tokens h

-- and are read as something
no_directive : (r : Result ℕ RecordError) → Ok Empty ≡ directive_with r → ⊥
no_directive (Ok ttl) h = cc
no_directive (Err r) h = cc

no_record : (before : State) (at data_at end : ℕ) (w : RecordHeader) (ttl : Option RecordTtl) → record_with before at data_at end w ttl ≡ Ok Empty → ⊥
no_record before at data_at end w None h = cc
no_record before at data_at end w (Some ttl) h = cc

something_read : (before : State) (room : Room) (blank : Bool) (end : ℕ) (tokens : List TokenSeen) (m : EntryMeaning) (old new : List ℕ) (owner : NameState) → tokens ≢ [] → EntryMeans blank end tokens m
    → ReadsMeaning before room end tokens m old (Ok Empty) owner new → ⊥
something_read before room blank end tokens says_nothing old new owner some says h = silent blank end tokens some says
something_read before room blank end tokens (says_origin t) old new owner some says h = let no = h.0.0 in cc
something_read before room blank end tokens (says_default_ttl r) old new owner some says h = no_directive r h.0
something_read before room blank end tokens (says_include file token) old new owner some says h = let no = h.1 in cc
something_read before room blank end tokens says_generate old new owner some says h = let no = h.0 in cc
something_read before room blank end tokens (says_record token words left) old new owner some says h = not_words before room _ end old new Empty (no_record before _) h.0 words left h.2
something_read before room blank end tokens (says_refused r) old new owner some says h = cc

some_first : (parts : Parts) → BeginsToken parts → tokens_first parts ≢ []
some_first [] b = absurd b
some_first (Ok (TokenIs t b) ∷ parts) h = λ e. cc
some_first (Ok (EndIs e) ∷ parts) h = absurd h
some_first (Err f ∷ parts) h = absurd h

pub no_call_is_blank : NoCallIsBlank
no_call_is_blank room before after old new h = go h.start h.begins h.reads
  where
    go : (start : Result (Option StartOfEntry) Fault) → BeginsEntry before.source start h.begun → ReadsBegun room before.octets.now h.begun start before.state old (Some (Ok Empty)) after new → ⊥
    go (Ok (Some start)) b r =
        let is = read_of r.1 r.0 Empty (sym r.4) in
        let end : ℕ = (entry_end h.begun).at in
        let tokens : List TokenSeen = unread_entry_tokens h.begun in
        let left = open_left h.begun b.start.0 in
        let some : tokens ≢ [] = λ e. some_first h.begun.parts b.start.3 (sym left.0 ∙ e) in
        something_read before.state room start.begins_blank end tokens r.2.meaning old new after.state.owner some r.2.says
        (subst (λ x. ReadsMeaning before.state room end tokens r.2.meaning old x after.state.owner new) is.2 r.2.reads)
    go (Ok None) b r = let no = r.0 in cc
    go (Err fault) b r = let no = r.0 in cc
