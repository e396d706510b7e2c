-- Names that are stored, and the position of a reader.
use Rattle.std.proofs.Common.{◌≡◌, ◌≢◌, ℕ, ◌+◌, ◌≤◌, List, [], ◌∷◌, length, take, drop, ap, ◌∙◌, refl, sym, subst, arith, Bool, true, false, true≢false, Option, Some, None, Result, Ok, Err}
use Rattle.std.proofs.Math.Seq.{drop-append_seam, take-append_seam}
use Rattle.rdata_fields.specs.declared.record_error.RecordError.{RecordError}
use Rattle.dns_octets.specs.Room.{Room}
use Rattle.dns_wire.specs.FromOctets.{MakesName}
use Rattle.dns_wire.specs.Wire.{wire, wire_length, IsName, EndsInRoot}
use Rattle.dns_wire.specs.declared.error.NameError.{NameError}
use Rattle.dns_wire.proofs.OneAnswer.{name_same}
use Rattle.dns_wire.proofs.Wires.{length_wire, wire_length_append}
use Rattle.dns_lexer.specs.declared.pieces.EndOfEntry.{EndOfEntry}
use Rattle.dns_lexer.specs.declared.pieces.Fault.{Fault}
use Rattle.zone_reader.specs.Included.{OriginAppended, IsIncluded}
use Rattle.zone_reader.specs.Records.{ReadsBegun, ReadsNextEntry, ReadsNextRecord, IsAfterEntry}
use Rattle.zone_reader.specs.Source.{IsAtStart, SourceSeen}
use Rattle.zone_reader.specs.declared.entry.ParsedEntry.{ParsedEntry}
use Rattle.zone_reader.specs.declared.entry.ParsedEntry.TheVariants.{Empty, Directive, Include, Generate, Record as RecordRead}
use Rattle.zone_reader.specs.declared.known.NameState.TheVariants.{Name, Unset}
use Rattle.zone_reader.specs.declared.records.RecordReader.{RecordReader}
use Rattle.zone_reader.specs.declared.source.StartOfEntry.{StartOfEntry}
use Rattle.zone_reader.specs.declared.state.State.{State}
use Rattle.zone_reader.proofs.GivenRows.{no_call_is_blank}
use Rattle.zone_reader.proofs.Included.{files_are_appended}
use Rattle.zone_reader.proofs.NamesTaken.{made}
use Rattle.c_calls.specs.Kept.{HoldsState, MakesOrNot, known_if, optional_origin}
use Rattle.c_calls.specs.declared.kept.Zone.{Zone}
use Rattle.c_calls.specs.Records.{HasIncluded}

-- the octets of a name are stored as that name
pub held : (octets : List ℕ) (n : ℕ) (labels : List (List ℕ)) → n ≡ length (wire labels) → take (length (wire labels)) octets ≡ wire labels → length (wire labels) ≤ length octets
    → IsName labels → EndsInRoot labels → (n ≢ 0) × MakesOrNot octets n (Some (Name labels))
held octets n labels is put few name root =
    let long : wire_length labels ≡ wire_length root.0 + 1 = ap wire_length root.1 ∙ wire_length_append root.0 ([] ∷ []) in (
      omega (arith, is, length_wire labels, long),
      (omega (arith, is, few), made (take n octets) labels (ap (λ k. take k octets) is ∙ put) name root),
    )

-- between two calls no entry is open
closed_after : (octets : List ℕ) (begun : SourceSeen) (end : Result EndOfEntry Fault) (after : SourceSeen) → IsAfterEntry octets begun end after → after.is_open ≡ false
closed_after octets begun (Ok end) after h = h.1
closed_after octets begun (Err f) after h = h.1.closed

closed_begun : (room : Room) (octets : List ℕ) (begun : SourceSeen) (start : Result (Option StartOfEntry) Fault) (before : State) (old : List ℕ) (result : Option (Result ParsedEntry RecordError)) (after : RecordReader)
    (new : List ℕ) → IsAtStart start begun → ReadsBegun room octets begun start before old result after new → after.source.is_open ≡ false
closed_begun room octets begun (Ok (Some start)) before old result after new at reads = closed_after octets begun reads.1 after.source reads.3
closed_begun room octets begun (Ok None) before old result after new at reads = ap (λ s. s.is_open) reads.1 ∙ at.0
closed_begun room octets begun (Err fault) before old result after new at reads = reads.1.closed

pub closed : (room : Room) (before after : RecordReader) (old new : List ℕ) (result : Option (Result ParsedEntry RecordError)) → ReadsNextRecord room before old result after new → after.source.is_open ≡ false
closed room before after old new result r = closed_begun room r.middle.octets.now r.last.begun r.last.start r.middle.state old result after new r.last.begins.start r.last.reads

-- each call returns something
pub something : (room : Room) (before after : RecordReader) (old new : List ℕ) (result : Option (Result ParsedEntry RecordError)) → ReadsNextRecord room before old result after new → result ≢ Some (Ok Empty)
something room before after old new result r is = no_call_is_blank room r.middle after old new (subst (λ g. ReadsNextEntry room r.middle old g after new) is r.last)

-- for a file to include the octets are the file's and the origin's
pub included : (room : Room) (before after : RecordReader) (new : List ℕ) (result : Option (Result ParsedEntry RecordError)) → ReadsNextRecord room before [] result after new → HasIncluded result new
included room before after new None r = tt
included room before after new (Some (Err e)) r = tt
included room before after new (Some (Ok Empty)) r = tt
included room before after new (Some (Ok Directive)) r = tt
included room before after new (Some (Ok (Generate at end))) r = tt
included room before after new (Some (Ok (RecordRead at data_at end ttl class rtype))) r = tt
included room before after new (Some (Ok (Include at end file has_origin))) r =
    let h = files_are_appended room r.middle after [] new at end file has_origin r.last in
    subst (IsIncluded file has_origin) (sym h.1) h.2

-- the origin of a file is the name that its octets are
pub origin_made : (octets : List ℕ) (labels : List (List ℕ)) (r : Result (List (List ℕ)) NameError) → octets ≡ wire labels → IsName labels → EndsInRoot labels → MakesName octets r → r ≡ Ok labels
origin_made octets labels r is name root makes = sym (name_same octets (Ok labels) r (made octets labels is name root) makes)

pub origin_kept : (origin : Option (List (List ℕ))) (has_origin : Bool) (octets : List ℕ) (labels : List (List ℕ)) → OriginAppended origin has_origin octets → has_origin ≡ true → MakesName octets (Ok labels) → Name labels ≡ optional_origin origin
origin_kept None has_origin octets labels h has makes = absurd (true≢false (sym has ∙ h.has))
origin_kept (Some named) has_origin octets labels h has makes =
    let one : Ok labels ≡ Ok named = origin_made octets named (Ok labels) h.octets_are h.absolute.0 h.absolute.1 makes in
    let same : labels ≡ named = cc in ap Name same

pub origin_is_made : (origin : Option (List (List ℕ))) (has_origin : Bool) (octets : List ℕ) (e : NameError) → OriginAppended origin has_origin octets → has_origin ≡ true → MakesName octets (Err e) → ⊥
origin_is_made None has_origin octets e h has makes = true≢false (sym has ∙ h.has)
origin_is_made (Some named) has_origin octets e h has makes = let one : Err e ≡ Ok named = origin_made octets named (Err e) h.octets_are h.absolute.0 h.absolute.1 makes in cc

pub no_origin : (origin : Option (List (List ℕ))) (has_origin : Bool) (octets : List ℕ) → OriginAppended origin has_origin octets → has_origin ≡ false → Unset ≡ optional_origin origin
no_origin None has_origin octets h has = refl
no_origin (Some named) has_origin octets h has = absurd (true≢false (sym h.has ∙ has))

-- the octets up to the cut are the file, and those after it its origin
pub file_told : (file : ℕ) (has_origin : Bool) (octets front behind : List ℕ) (read : IsIncluded file has_origin octets) → front ≡ take file octets → behind ≡ drop file octets
    → (front ≡ read.name) × OriginAppended read.origin has_origin behind
file_told file has_origin octets front behind read first then = (
  first ∙ ap (λ n. take n octets) read.count ∙ ap (take (length read.name)) read.both ∙ take-append_seam read.name read.behind,
  subst (OriginAppended read.origin has_origin)
      (sym (then ∙ ap (λ n. drop n octets) read.count ∙ ap (drop (length read.name)) read.both ∙ drop-append_seam read.name read.behind)) read.said,
)

-- a state that is loaded
pub loaded : (zone : Zone) (ok : Bool) (state : State) → ok ≡ true → HoldsState zone (known_if ok state) → HoldsState zone (Some state)
loaded zone true state is h = h
loaded zone false state is h = cc
