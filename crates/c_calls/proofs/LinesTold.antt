-- A record that is read of a line is the next record of the text.
use Rattle.std.proofs.Common.{◌≡◌, ◌≢◌, ℕ, List, [], ap, sym, ◌∙◌, subst, Some, Ok, Err}
use Rattle.dns_octets.specs.Room.{exactly}
use Rattle.zone_reader.specs.Line.{ReadsLine}
use Rattle.zone_reader.specs.Records.{ReadsNextRecord, none_given}
use Rattle.zone_reader.specs.declared.entry.ParsedEntry.{ParsedEntry}
use Rattle.zone_reader.specs.declared.entry.ParsedEntry.TheVariants.{Empty, Directive, Include, Generate, Record as RecordRead}
use Rattle.zone_reader.specs.declared.line.LineRead.{LineRead}
use Rattle.zone_reader.specs.declared.records.RecordReader.{RecordReader}
use Rattle.zone_reader.specs.declared.state.State.{State}
use Rattle.c_calls.specs.Records.{IsHeadOfLine, ReadsZone, RecordCall, ReportsFound, ReportsResult, ReportsLine, head_in, head_with, returned_ttl}
use Rattle.c_calls.specs.declared.records.RecordNumbers.{RecordNumbers}
use Rattle.c_calls.proofs.Rooms.{IsNoError, any_room}

module _ (head : RecordNumbers) where
  record_told : (read : ParsedEntry) (reader : RecordReader) (octets : List ℕ) (call : RecordCall) → head_in read ≡ Some head → ReportsFound 0 reader octets reader.state.owner head call → ReportsResult (Some (Ok read)) reader octets call
  record_told (RecordRead at data_at end ttl class rtype) reader octets call is h =
      let same : head_with at data_at end (returned_ttl ttl) class rtype ≡ head = cc in subst (λ x. ReportsFound 0 reader octets reader.state.owner x call) (sym same) h
  record_told (Include at end file has_origin) reader octets call is h = cc
  record_told (Generate at end) reader octets call is h = cc
  record_told Empty reader octets call is h = cc
  record_told Directive reader octets call is h = cc

  no_directive : (read : ParsedEntry) → head_in read ≡ Some head → read ≡ Directive → ⊥
  no_directive (RecordRead at data_at end ttl class rtype) is e = cc
  no_directive (Include at end file has_origin) is e = cc
  no_directive (Generate at end) is e = cc
  no_directive Empty is e = cc
  no_directive Directive is e = cc

  module _ (text : List ℕ) (state after : State) (line : LineRead) (octets : List ℕ) (call : RecordCall) (is : IsHeadOfLine head line) where
    fits : IsNoError (Some line.read)
    fits e err = let one : Some (Ok is.0) ≡ Some (Err e) = ap Some (sym is.1) ∙ err in cc

    never : Some line.read ≢ Some (Ok Directive)
    never e =
        let one : Some (Ok is.0) ≡ Some (Ok Directive) = ap Some (sym is.1) ∙ e in
        let same : is.0 ≡ Directive = cc in no_directive is.0 is.2 same

    pub line_told : ReadsLine (exactly 512) text call.before.zone.at state [] line after octets → ReportsLine after line.end octets head call
        → ReadsZone text state call
    line_told r tells =
        let few : ReadsNextRecord (exactly 512) r.reader [] (Some line.read) r.next octets =
        record { directives = []; middle = r.reader; row = none_given; are_directives = tt; last = r.reads; is_last = never } in
        let told : ReportsFound 0 r.next octets r.next.state.owner head call = subst (λ (s : State). ReportsFound 0 r.next octets s.owner head call) (sym r.state_is) (tells r.next r.state_is r.ends) in record {
          before = r.reader;
          after = r.next;
          given = Some line.read;
          octets = octets;
          starts = r.starts;
          reads = any_room (exactly 512) (exactly 65535) r.reader r.next [] octets (Some line.read) fits few;
          tells = subst (λ x. ReportsResult (Some x) r.next octets call) (sym is.1) (record_told is.0 r.next octets call is.2 told);
        }
