-- The offsets of errors.
use Rattle.std.proofs.Common.{ℕ, ◌≡◌, ◌+◌, List, ap, sym, ◌∙◌, arith, refl}
use Rattle.std.specs.Prelude.{Result, Ok, Err}
use Rattle.dns_octets.specs.Room.{Room}
use Rattle.dns_lexer.specs.EntryTokens.{TokenSeen}
use Rattle.rdata_fields.specs.RecordErrors.{error_at, error_in_field, IsErrorAt}
use Rattle.rdata_fields.specs.declared.record_error.RecordError.{RecordError}
use Rattle.rdata_values.specs.declared.error.ErrorKind.{ErrorKind}
use Rattle.rdata.specs.Rests.{RestForm, ParsesInParts, ParsesTail, in_field_after}

pub placed : {at place : ℕ} (kind : ErrorKind) → at ≡ place → IsErrorAt place (error_at at kind)
placed kind is = ap (λ p. error_at p kind) is

pub moved : {at place : ℕ} (r : RecordError) → IsErrorAt at r → at ≡ place → IsErrorAt place r
moved r h is = h ∙ ap (λ p. error_at p r.kind) is

-- the kind of an error that is known
pub kind_of : {at : ℕ} {kind : ErrorKind} (r : RecordError) → r ≡ error_at at kind → r.kind ≡ kind
kind_of r h = ap (λ (e : RecordError). e.kind) h

-- an error that is known, at the same offset
pub known_at : {at place : ℕ} {kind : ErrorKind} (r : RecordError) → r ≡ error_at at kind → at ≡ place → IsErrorAt place r
known_at {at} {place} r h is = h ∙ ap (error_at at) (sym (kind_of r h)) ∙ ap (λ p. error_at p r.kind) is

-- an error of a field after others
pub part_error : (r e : RecordError) (field before part : ℕ) → r ≡ error_in_field field e → field ≡ before + part → r ≡ error_in_field (before + part) e
part_error r e field before part h is = h ∙ ap (λ f. error_in_field f e) is

pub field_error : (r e : RecordError) (field known at place : ℕ) (kind why : ErrorKind) → r ≡ error_in_field field e → e ≡ error_at at kind → field ≡ known → at ≡ place → kind ≡ why → r ≡ error_in_field known (error_at place why)
field_error r e field known at place kind why h k f p w = h ∙ ap (error_in_field field) k ∙ (λ i. error_in_field (f i) (error_at (p i) (w i)))

-- what has one part
pub one_part : (room : Room) (f : RestForm) (before end : ℕ) (tokens : List TokenSeen) (old : List ℕ) (r : Result (Unit {0}) RecordError) (left : List TokenSeen) (new : List ℕ) → ParsesTail room f end tokens old r left new
    → ParsesInParts room f (λ tokens left part. part ≡ 0) before end tokens old (in_field_after before r) left new
one_part room f before end tokens old (Ok x) left new h = h
one_part room f before end tokens old (Err e) left new h =
    let whole : before ≡ before + 0 = omega arith in (e, 0, ap (λ n. error_in_field n e) whole, h, refl)
