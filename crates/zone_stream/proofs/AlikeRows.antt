-- Readers in alike states return the same.
use Rattle.std.proofs.Common.{◌≡◌, ℕ, List, [], ◌∷◌, ◌++◌, Option, Some, None, Result, Ok, Err, refl, sym, subst, ◌∙◌}
use Rattle.dns_octets.specs.Room.{Room}
use Rattle.dns_lexer.specs.declared.pieces.Fault.{Fault}
use Rattle.rdata_fields.specs.declared.record_error.RecordError.{RecordError}
use Rattle.zone_reader.specs.Records.{EntryResult, ReadsBegun, ReadsNextEntry, given_next, none_given}
use Rattle.zone_reader.specs.Source.{BeginsEntry, SourceSeen, entry_end, unread_entry_tokens}
use Rattle.zone_reader.specs.declared.entry.ParsedEntry.{ParsedEntry}
use Rattle.zone_reader.specs.declared.records.RecordReader.{RecordReader}
use Rattle.zone_reader.specs.declared.source.StartOfEntry.{StartOfEntry}
use Rattle.zone_reader.specs.declared.state.State.{State}
use Rattle.zone_stream.specs.Alike.{AreAlike, AreResultsAlike, IsResultAlike, ReadersAreAlike}
use Rattle.zone_stream.specs.CutLaws.{AlikeReadersReturnAlike}
use Rattle.zone_stream.proofs.AlikeStates.{read_alike}

-- a reader of the same octets at the position of another, with a given state
abbrev at_source : RecordReader → State → RecordReader
at_source r state = record { octets = r.octets; source = r.source; state = state }

module _ (room : Room) (octets old new : List ℕ) (before other : State) (alike : AreAlike before other) (after : RecordReader) (same : after.octets.now ≡ octets) (result : Result ParsedEntry RecordError) where
  abbrev Gives : SourceSeen → Result (Option StartOfEntry) Fault → Type 0
  Gives begun start = (end : RecordReader) × ReadsBegun room octets begun start other old (Some result) end new × ReadersAreAlike after end

  begun_alike : (begun : SourceSeen) (start : Result (Option StartOfEntry) Fault) → ReadsBegun room octets begun start before old (Some result) after new → Gives begun start
  begun_alike begun (Ok (Some start)) h =
      let read = read_alike room start.begins_blank (entry_end begun).at (unread_entry_tokens begun) before other after.state old new h.0 alike h.2 in
      (at_source after read.0, (h.0, h.1, read.1, h.3, h.4), record { octets = refl; source = refl; state = read.2 })
  begun_alike begun (Ok None) h = let no = h.0 in cc
  begun_alike begun (Err fault) h =
      (at_source after other, (h.0, h.1, (refl, h.2.1)), record { octets = refl; source = refl; state = subst (λ s. AreAlike s other) (sym h.2.0) alike })

next_alike : (room : Room) (before other after : RecordReader) (old new : List ℕ) (result : Result ParsedEntry RecordError) → ReadersAreAlike before other → ReadsNextEntry room before old (Some result) after new
    → (end : RecordReader) × ReadsNextEntry room other old (Some result) end new × ReadersAreAlike after end
next_alike room before other after old new result stand h =
    let found = begun_alike room before.octets.now old new before.state other.state stand.state after h.octets_stay result h.begun h.start h.reads in (
      found.0,
      record {
        start = h.start;
        begun = h.begun;
        begins = subst (λ s. BeginsEntry s h.start h.begun) stand.source h.begins;
        reads = subst (λ o. ReadsBegun room o h.begun h.start other.state old (Some result) found.0 new) stand.octets found.1;
        octets_stay = sym found.2.octets ∙ h.octets_stay ∙ stand.octets;
      },
      found.2,
    )

given_more : (gs hs : List EntryResult) (g h : EntryResult) → AreResultsAlike gs hs → IsResultAlike g h → AreResultsAlike (gs ++ g ∷ []) (hs ++ h ∷ [])
given_more [] [] g h all one = (one, tt)
given_more [] (y ∷ hs) g h all one = absurd all
given_more (x ∷ gs) [] g h all one = absurd all
given_more (x ∷ gs) (y ∷ hs) g h all one = (all.0, given_more gs hs g h all.1 one)

pub give_alike : AlikeReadersReturnAlike
give_alike room first other last given stand none_given = ([], other, none_given, tt, stand)
give_alike room first other last given stand (given_next before middle end g row next state) =
    let passed = give_alike room first other middle before stand row in
    let step = next_alike room middle passed.1 end g.old g.new g.result passed.4 next in
    let one : EntryResult = record { old = g.old; result = g.result; new = g.new; state = step.0.state } in (
      passed.0 ++ one ∷ [],
      step.0,
      given_next passed.0 passed.1 step.0 one passed.2 step.1 refl,
      given_more before passed.0 g one passed.3 (record { old = refl; result = refl; new = refl; state = subst (λ s. AreAlike s step.0.state) state step.2.state }),
      step.2,
    )
