-- The text with which a part of a zone file begins.
use Rattle.std.specs.Prelude.{⊤, ◌≡◌, ◌<◌, ◌^◌, ℕ, List, [], ◌∷◌, ◌++◌, codes, decimal, map, refl, unwrap_or, Option, Some, None}
use Rattle.std.specs.Borrow.{Bor}
use Rattle.std.specs.List.{AllByRecursion}
use Rattle.std.specs.Option.{option_to_list}
use Rattle.rdata.specs.GatewayKeys.{plain_word}
use Rattle.zone_record.specs.RdataPrinting.{token_steps}
use Rattle.rdata.specs.Rests.{PrintedToken}
use Rattle.rdata_fields.specs.declared.record_ref.RecordRef.{RecordRef}
use Rattle.zone_reader.specs.declared.known.NameState.{NameState}
use Rattle.zone_reader.specs.declared.known.NameState.TheVariants.{Unset, Name, Rejected}
use Rattle.zone_reader.specs.declared.state.State.{State}
use Rattle.zone_record.specs.Borrowed.{IsNoRecord, IsRecordOf}
use Rattle.zone_record.specs.DataTokens.{tokens_are_nested}
use Rattle.zone_record.specs.Records.{record_document, record_nests, record_tokens}
use Rattle.zone_record.specs.declared.record.Record.{Record}
use Rattle.rdata_tokens.specs.PrintedNames.{wire_name_text}
use Rattle.dns_wire.specs.Wire.{wire}
use Rattle.dns_zone.specs.Layout.{Step, newline}
use Rattle.dns_zone.specs.Nesting.{IsNested, lines_of}
use Rattle.dns_zone.specs.Forming.{nested_append, nested_lines}
use Rattle.dns_zone.specs.Printed.{printed}
use Rattle.dns_zone.specs.declared.zonefile_fmt.DisplayKind.TheVariants.{Simple}
use Rattle.zone_stream.specs.declared.cut_error.CutError.{CutError}
use Rattle.zone_stream.specs.declared.cut_error.CutError.TheVariants.{OutOfMemory, LongTtl, NoRecord}
use Rattle.zone_stream.specs.declared.head.PartHead.{PartHead}

-- the tokens of a line
abbrev pub Line : Type 0
Line = List PrintedToken

abbrev pub origin_lines : NameState → List Line
origin_lines Unset = []
origin_lines (Name labels) = (plain_word (codes "$ORIGIN") ∷ plain_word (wire_name_text (wire labels)) ∷ []) ∷ []
origin_lines Rejected = []

abbrev pub default_ttl_lines : Option ℕ → List Line
default_ttl_lines None = []
default_ttl_lines (Some ttl) = (plain_word (codes "$TTL") ∷ plain_word (decimal ttl) ∷ []) ∷ []

abbrev pub state_of : {N O : Type 0} → PartHead N O → State
state_of h = h.state.now

abbrev pub directive_lines : State → List Line
directive_lines s = origin_lines s.origin ++ default_ttl_lines s.default_ttl

-- the repeated record, if there is one, and the first of the part
abbrev pub head_records : {N O : Type 0} → PartHead N O → List (Record N O)
head_records h = option_to_list h.repeated ++ h.first ∷ []

-- a line for each directive, and one for each record
abbrev pub head_lines : {N O : Type 0} → PartHead N O → List Line
head_lines h = directive_lines (state_of h) ++ map record_tokens (head_records h)

-- the document of a record, and a line end
abbrev pub line_of : {N O : Type 0} → Record N O → List Step
line_of r = record_document r ++ newline ∷ []

abbrev pub repeated_document : {N O : Type 0} → Option (Record N O) → List Step
repeated_document None = []
repeated_document (Some r) = line_of r

abbrev pub head_document : {N O : Type 0} → PartHead N O → List Step
head_document h =
    lines_of token_steps (origin_lines (state_of h).origin) ++ (lines_of token_steps (default_ttl_lines (state_of h).default_ttl) ++ (repeated_document h.repeated ++ line_of h.first))

-- each TTL is below 2^31, as zone files require
abbrev pub HasShortTtls : {N O : Type 0} → PartHead N O → Type 0
HasShortTtls h = (unwrap_or (state_of h).default_ttl 0 < 2 ^ 31) × AllByRecursion (λ r. r.ttl < 2 ^ 31) (head_records h)

-- the head's lines are appended, and each TTL in them is below 2^31
abbrev pub PushesHead : {N O : Type 0} → PartHead N O → List ℕ → List ℕ → Type 0
PushesHead h old new = HasShortTtls h × (new ≡ old ++ printed Simple (head_document h))

-- two records have the same octets and numbers
abbrev pub HaveSameOctets : {N O M P : Type 0} → Record N O → Record M P → Type 0
HaveSameOctets a b = (octets : RecordRef) × IsRecordOf octets a × IsRecordOf octets b

-- the second is the first again, if there is one
abbrev pub IsRepeated : {N O M P : Type 0} → Option (Record N O) → Option (Record M P) → Type 0
IsRepeated None None = ⊤
IsRepeated (Some a) (Some b) = HaveSameOctets a b
IsRepeated None (Some b) = ⊥
IsRepeated (Some a) None = ⊥

-- the head of a part: it repeats the SOA, if there is one, and its first record is the last one that was read
pub record IsHeadOf {N O M P : Type 0} (state : State) (soa : Option (Record N O)) (read : RecordRef) (head : PartHead M P) : Type 0 where
  pub state_is : state_of head ≡ state
  pub repeated : IsRepeated soa head.repeated
  pub first : IsRecordOf read head.first

-- the lines of such a head are appended
pub record BeginsPart {N O : Type 0} (state : State) (soa : Option (Record N O)) (read : RecordRef) (old new : List ℕ) : Type 0 where
  pub head : PartHead (Bor (List ℕ)) (Bor (List ℕ))
  pub is_head : IsHeadOf state soa read head
  pub pushes : PushesHead head old new

-- why the lines of a head are not appended: a TTL is too long, or memory was out
abbrev pub IsHeadError : {N O : Type 0} → PartHead N O → CutError → Type 0
IsHeadError h LongTtl = HasShortTtls h → ⊥
IsHeadError h OutOfMemory = HasShortTtls h
IsHeadError h NoRecord = ⊥

-- why the lines of such a head are not appended
pub record HasHeadError {N O : Type 0} (state : State) (soa : Option (Record N O)) (read : RecordRef) (error : CutError) : Type 0 where
  pub head : PartHead (Bor (List ℕ)) (Bor (List ℕ))
  pub is_head : IsHeadOf state soa read head
  pub is_error : IsHeadError head error

-- why no part begins with the last record that was read
abbrev pub IsBeginError : {N O : Type 0} → State → Option (Record N O) → RecordRef → CutError → Type 0
IsBeginError state soa read NoRecord = IsNoRecord read
IsBeginError state soa read LongTtl = HasHeadError state soa read LongTtl
IsBeginError state soa read OutOfMemory = HasHeadError state soa read OutOfMemory

-- ---- lemmas

nested_line : {N O : Type 0} (r : Record N O) → IsNested (line_of r)
nested_line r = nested_append 0 (record_document r) (newline ∷ []) (record_nests r) refl

nested_repeated : {N O : Type 0} (r : Option (Record N O)) → IsNested (repeated_document r)
nested_repeated None = refl
nested_repeated (Some r) = nested_line r

pub head_nests : {N O : Type 0} (h : PartHead N O) → IsNested (head_document h)
head_nests h =
    let origin = origin_lines (state_of h).origin in
    let default = default_ttl_lines (state_of h).default_ttl in
    let records = nested_append 0 (repeated_document h.repeated) (line_of h.first) (nested_repeated h.repeated) (nested_line h.first) in
    let behind = nested_append 0 (lines_of token_steps default) (repeated_document h.repeated ++ line_of h.first) (nested_lines token_steps tokens_are_nested default) records in
    nested_append 0 (lines_of token_steps origin) (lines_of token_steps default ++ (repeated_document h.repeated ++ line_of h.first)) (nested_lines token_steps tokens_are_nested origin) behind
