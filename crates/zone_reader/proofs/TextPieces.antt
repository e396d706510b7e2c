-- Reading that stops after an entry continues there.
use Rattle.std.proofs.Common.{ℕ, ◌≡◌, false, List, [], ◌∷◌, ◌++◌, length, sym, ap, ◌∙◌, subst, arith, append_assoc, inl, inr, None, Result, Ok, Err}
use Rattle.std.specs.Prelude.{◌⊎◌, map}
use Rattle.dns_octets.specs.Room.{Room}
use Rattle.dns_lexer.specs.declared.pieces.EndOfEntry.{EndOfEntry}
use Rattle.dns_lexer.specs.declared.pieces.Fault.{Fault}
use Rattle.dns_lexer.specs.EntryTokens.{EndIs, IsSeenFrom, PartSeen, TokenIs}
use Rattle.dns_lexer.specs.Pieces.{AreOctets}
use Rattle.zone_reader.specs.Records.{AreSuccessiveResults, EntryResult, StartsText, given_next, none_given}
use Rattle.zone_reader.specs.Source.{SourceSeen}
use Rattle.zone_reader.specs.TextEntries.{end_seen}
use Rattle.zone_reader.specs.TextPieces.{PiecesAreReadOn, PiecesAreIndependent, HasReadUpTo}
use Rattle.zone_reader.specs.declared.records.RecordReader.{RecordReader}
use Rattle.zone_reader.specs.declared.state.State.{State}
use Rattle.zone_reader.proofs.SeenParts.{Parts}
use Rattle.zone_reader.proofs.Passing.{ends_of}
use Rattle.zone_reader.proofs.RestsSeen.{rest_there, seen_alone, seen_from_once}
use Rattle.zone_reader.proofs.StepsSeen.{GoesOn, step_seen}
use Rattle.zone_reader.proofs.TextParts.{seen_from_start}

-- what is left is what is seen from the next entry's offset, or nothing is left
abbrev pub IsThere : List ℕ → SourceSeen → Type 0
IsThere octets s = (s.parts ≡ []) ⊎ IsSeenFrom octets s.began s.parts

pub never_empty : (ends tokens rest : Parts) (x : Result PartSeen Fault) → [] ≡ ends ++ ((tokens ++ x ∷ []) ++ rest) → ⊥
never_empty [] [] rest x e = cc
never_empty [] (t ∷ tokens) rest x e = cc
never_empty (y ∷ ends) tokens rest x e = cc

module _ (octets : List ℕ) (are : AreOctets octets) (at : ℕ) (ends tokens : Parts) (source : SourceSeen) where
  there_then : (end : Result EndOfEntry Fault) (rest : Parts) → GoesOn octets end rest source → IsSeenFrom octets at (ends ++ ((tokens ++ end_seen end ∷ []) ++ rest)) → IsThere octets source
  there_then (Ok e) [] k s = inl k.0
  there_then (Ok e) (x ∷ rest) k s =
      let shape : ends ++ ((tokens ++ Ok (EndIs e) ∷ []) ++ (x ∷ rest)) ≡ (ends ++ tokens) ++ (Ok (EndIs e) ∷ (x ∷ rest)) =
      ap (λ l. ends ++ l) (append_assoc tokens (Ok (EndIs e) ∷ []) (x ∷ rest)) ∙ sym (append_assoc ends tokens (Ok (EndIs e) ∷ (x ∷ rest))) in
      let there = rest_there octets at (ends ++ tokens) (x ∷ rest) e are (subst (IsSeenFrom octets at) shape s) (omega arith) in
      inr (subst (λ l. IsSeenFrom octets source.began l) (sym k.0) (subst (λ n. IsSeenFrom octets n (x ∷ rest)) (sym k.2) there))
  there_then (Err f) rest k s = inr k.1.parts

pub record Stops (octets : List ℕ) (r : RecordReader) : Type 0 where
  pub octets_is : r.octets.now ≡ octets
  pub closed : r.source.is_open ≡ false
  pub taken : r.source.taken ≡ None
  pub there : IsThere octets r.source

closed_then : (octets : List ℕ) (end : Result EndOfEntry Fault) (rest : Parts) (source : SourceSeen) → GoesOn octets end rest source → source.is_open ≡ false
closed_then octets (Ok e) rest source k = k.1
closed_then octets (Err f) rest source k = k.1.closed

taken_then : (octets : List ℕ) (end : Result EndOfEntry Fault) (rest : Parts) (source : SourceSeen) → GoesOn octets end rest source → source.taken ≡ None
taken_then octets (Ok e) rest source k = k.3
taken_then octets (Err f) rest source k = k.1.taken

pub calls_stop : (room : Room) (octets : List ℕ) (start : State) (first last : RecordReader) (given : List EntryResult) → StartsText octets start first → AreSuccessiveResults room first given last → Stops octets last
calls_stop room octets start first last given h none_given =
    let from = seen_from_start octets first.source.parts h.are_octets h.parts in
    record { octets_is = h.octets_is; closed = h.closed; taken = h.taken; there = inr (subst (λ n. IsSeenFrom octets n first.source.parts) (sym h.began) from) }
calls_stop room octets start first last given h (given_next before middle end g row next state) =
    let s = calls_stop room octets start first middle before h row in
    let q = step_seen room middle end g.old g.new g.result s.closed next in
    let tokens : Parts = map (λ t. Ok (TokenIs t q.entry.begins_blank)) q.entry.tokens in
    let goes : GoesOn octets q.entry.end q.rest end.source = subst (λ o. GoesOn o q.entry.end q.rest end.source) s.octets_is q.goes_on in
    record {
      octets_is = next.octets_stay ∙ s.octets_is;
      closed = closed_then octets q.entry.end q.rest end.source goes;
      taken = taken_then octets q.entry.end q.rest end.source goes;
      there = elim s.there [
        | inl none ↦ absurd (never_empty (ends_of q.ends) tokens q.rest (end_seen q.entry.end) (sym none ∙ q.parts_are))
        | inr from ↦ there_then octets h.are_octets middle.source.began (ends_of q.ends) tokens end.source q.entry.end q.rest goes (subst (IsSeenFrom octets middle.source.began) q.parts_are from)
      ];
    }

left_there : (room : Room) (octets : List ℕ) (start : State) (given : List EntryResult) (r : RecordReader) → HasReadUpTo room octets start given r → IsSeenFrom octets r.source.began r.source.parts
left_there room octets start given r h =
    elim (calls_stop room octets start h.first r given h.starts h.row).there [ inl none ↦ (let empty = ap length none in absurd (omega (arith, h.some, empty))) | inr from ↦ from ]

pub pieces_stand_alone : PiecesAreIndependent
pieces_stand_alone room octets start given stopped h = seen_alone octets stopped.source.began stopped.source.parts (left_there room octets start given stopped h)

pub pieces_are_read_on : PiecesAreReadOn
pieces_are_read_on room octets start given stopped other h k =
    let s = calls_stop room octets start h.first stopped given h.starts h.row in
    let parts = seen_from_once octets stopped.source.began other.source.parts stopped.source.parts k.parts (left_there room octets start given stopped h) in
    (k.octets_is ∙ sym s.octets_is, (λ i. record { began = k.began i; is_open = (k.closed ∙ sym s.closed) i; taken = (k.taken ∙ sym s.taken) i; parts = parts i }), k.state_is)
