-- The document of a head has a line end, and its text begins a part.
use Rattle.std.proofs.Common.{◌≡◌, ℕ, true, List, [], ◌∷◌, ◌++◌, refl}
use Rattle.std.specs.Borrow.{Bor}
use Rattle.std.specs.Prelude.{Option}
use Rattle.zone_record.specs.RdataPrinting.{token_steps}
use Rattle.zone_record.specs.Records.{record_document}
use Rattle.zone_record.specs.declared.record.Record.{Record}
use Rattle.dns_zone.specs.Layout.{Step, token, begin, end, comment, newline}
use Rattle.dns_zone.specs.Nesting.{has_line, lines_of}
use Rattle.zone_stream.specs.Heads.{BeginsPart, IsHeadError, IsHeadOf, IsBeginError, PushesHead, default_ttl_lines, head_document, line_of, origin_lines, repeated_document, state_of}
use Rattle.zone_reader.specs.declared.state.State.{State}
use Rattle.rdata_fields.specs.declared.record_ref.RecordRef.{RecordRef}
use Rattle.zone_stream.specs.declared.cut_error.CutError.{CutError}
use Rattle.zone_stream.specs.declared.cut_error.CutError.TheVariants.{OutOfMemory, LongTtl, NoRecord}
use Rattle.zone_stream.specs.declared.head.PartHead.{PartHead}

line_behind : (xs ys : List Step) → has_line ys ≡ true → has_line (xs ++ ys) ≡ true
line_behind [] ys h = h
line_behind (token bs ∷ xs) ys h = line_behind xs ys h
line_behind (comment bs ∷ xs) ys h = line_behind xs ys h
line_behind (begin ∷ xs) ys h = line_behind xs ys h
line_behind (end ∷ xs) ys h = line_behind xs ys h
line_behind (newline ∷ xs) ys h = refl

pub head_has_line : {N O : Type 0} (h : PartHead N O) → has_line (head_document h) ≡ true
head_has_line h =
    let default = lines_of token_steps (default_ttl_lines (state_of h).default_ttl) in
    let records = repeated_document h.repeated ++ line_of h.first in
    line_behind (lines_of token_steps (origin_lines (state_of h).origin)) (default ++ records)
    (line_behind default records (line_behind (repeated_document h.repeated) (line_of h.first) (line_behind (record_document h.first) (newline ∷ []) refl)))

-- a head whose lines were appended begins a part
pub part_begins : {N O : Type 0} (state : State) (soa : Option (Record N O)) (read : RecordRef) (old new : List ℕ) (head : PartHead (Bor (List ℕ)) (Bor (List ℕ))) → IsHeadOf state soa read head → PushesHead head old new → BeginsPart state soa read old new
part_begins state soa read old new head is pushes = record { head = head; is_head = is; pushes = pushes }

-- a head whose lines were not appended begins none
pub part_fails : {N O : Type 0} (state : State) (soa : Option (Record N O)) (read : RecordRef) (head : PartHead (Bor (List ℕ)) (Bor (List ℕ))) → IsHeadOf state soa read head → (error : CutError) → IsHeadError head error → IsBeginError state soa read error
part_fails state soa read head is OutOfMemory h = record { head = head; is_head = is; is_error = h }
part_fails state soa read head is LongTtl h = record { head = head; is_head = is; is_error = h }
part_fails state soa read head is NoRecord h = absurd h
