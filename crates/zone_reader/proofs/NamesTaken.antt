-- A name is parsed into a buffer of its own.
use Rattle.std.proofs.Common.{ℕ, ◌≡◌, ◌≤◌, List, [], ◌∷◌, ◌++◌, length, Option, Result, Ok, Err, refl, sym, subst, ap, ◌∙◌, inl, inr, arith}
use Rattle.std.specs.Prelude.{slice_get}
use Rattle.dns_octets.specs.Room.{exactly}
use Rattle.dns_wire.specs.FromOctets.{MakesName}
use Rattle.dns_wire.specs.Wire.{wire, IsName, EndsInRoot}
use Rattle.dns_wire.specs.declared.error.NameError.{NameError}
use Rattle.dns_wire.proofs.OneAnswer.{name_same}
use Rattle.dns_wire.proofs.Splitting.{none_at_root}
use Rattle.dns_wire.proofs.Wires.{wire_append, length_wire}
use Rattle.dns_lexer.specs.EntryTokens.{TokenSeen}
use Rattle.rdata_tokens.specs.NameSpelling.{SpellsName}
use Rattle.rdata_tokens.proofs.NameFronts.{name_front_plain}
use Rattle.rdata_fields.specs.Parsing.{SpellsField, RefusesNext, ParsesField}
use Rattle.rdata_fields.specs.declared.field.Field.TheVariants.{Name as OfName}
use Rattle.rdata_fields.specs.declared.record_error.RecordError.{RecordError}
use Rattle.rdata_fields.proofs.FormLaws.{fields_begun}
use Rattle.rdata_values.specs.declared.error.ErrorKind.{ErrorKind}
use Rattle.zone_reader.specs.Past.{NamedBy}
use Rattle.zone_reader.specs.Learning.{ParsesName}
use Rattle.zone_reader.specs.declared.known.NameState.TheVariants.{Rejected}

name_short : (origin : Option (List (List ℕ))) (text form : List ℕ) → SpellsName origin text form → length form ≤ 255
name_short origin text form h = omega (arith, ap length h.whole, length_wire h.labels, h.is_name.fits)

pub made : (octets : List ℕ) (labels : List (List ℕ)) → octets ≡ wire labels → IsName labels → EndsInRoot labels → MakesName octets (Ok labels)
made octets labels is name root =
    inr (
      omega (arith, ap length is, length_wire labels, name.fits),
      (
        root.0,
        0 ∷ [],
        record { spelled = is ∙ ap wire root.1 ∙ wire_append root.0 ([] ∷ []); plain = name_front_plain labels root.0 name root.1; ends = none_at_root (0 ∷ []) [] [] refl refl },
        (refl, root.1),
      ),
    )

-- the name was parsed so
abbrev pub TakenAs : Option (List (List ℕ)) → List TokenSeen → List TokenSeen → List ℕ → Type 0
TakenAs origin tokens left octets = (t : TokenSeen) × (tokens ≡ t ∷ left) × SpellsField origin OfName t octets

pub name_taken : (origin : Option (List (List ℕ))) (tokens left : List TokenSeen) (octets : List ℕ) (end : ℕ) (r : Result (List (List ℕ)) NameError) (labels : List (List ℕ))
    → TakenAs origin tokens left octets → MakesName octets r → r ≡ Ok labels → ParsesName origin end tokens (Ok labels) left
name_taken origin tokens left octets end r labels h makes is =
    let name = h.2.1 in
    let one : Ok name.labels ≡ Ok labels = name_same octets (Ok name.labels) r (made octets name.labels name.whole name.is_name name.absolute) makes ∙ is in
    let same : name.labels ≡ labels = cc in
    (h.0, h.1, subst (SpellsField origin OfName h.0) (name.whole ∙ ap wire same) h.2)

pub name_is_made : (origin : Option (List (List ℕ))) (tokens left : List TokenSeen) (octets : List ℕ) (r : Result (List (List ℕ)) NameError) (e : NameError)
    → TakenAs origin tokens left octets → MakesName octets r → r ≡ Err e → ⊥
name_is_made origin tokens left octets r e h makes is =
    let name = h.2.1 in
    let one : Ok name.labels ≡ Err e = name_same octets (Ok name.labels) r (made octets name.labels name.whole name.is_name name.absolute) makes ∙ is in cc

pub no_name : (origin : Option (List (List ℕ))) (tokens : List TokenSeen) (why : ErrorKind) → RefusesNext origin (exactly 255) OfName tokens [] why → NamedBy origin (slice_get tokens 0) Rejected
no_name origin [] why h = tt
no_name origin (t ∷ tokens) why (inl h) = λ octets spelled. omega (arith, h.1.2, fields_begun origin OfName t.is_quoted t.text h.1.0 octets h.1.1 spelled, name_short origin t.text octets spelled.1)
no_name origin (t ∷ tokens) why (inr h) = h.1

pub name_refused : (origin : Option (List (List ℕ))) (end : ℕ) (tokens left : List TokenSeen) (old new : List ℕ) (r : RecordError) → old ≡ [] → ParsesField origin (exactly 255) OfName end tokens old (Err r) left new
    → ParsesName origin end tokens (Err r) left
name_refused origin end tokens left old new r none h =
    let why = subst (λ o. RefusesNext origin (exactly 255) OfName tokens o r.kind) none h.2 in (h.0, h.1, why, no_name origin tokens r.kind why)

pub taken_as : (origin : Option (List (List ℕ))) (end : ℕ) (tokens left : List TokenSeen) (old new : List ℕ) (u : Unit {0}) → old ≡ [] → ParsesField origin (exactly 255) OfName end tokens old (Ok u) left new → TakenAs origin tokens left new
taken_as origin end tokens left old new u none h =
    let gains = h.2 in
    let same : gains.0 ≡ new = sym (gains.2 ∙ ap (λ o. o ++ gains.0) none) in
    (h.0, h.1, subst (SpellsField origin OfName h.0) same gains.1)
