-- Character strings to the end of an entry.
use Rattle.std.proofs.Common.{ℕ, Option, true, ◌≡◌, ◌≢◌, ◌<◌, ◌≤◌, ◌+◌, ◌⊎◌, List, [], ◌∷◌, ◌++◌, length, refl, sym, ap, subst, ◌∙◌, inl, inr}
use Rattle.std.proofs.lemmas.List.{append_assoc}
use Rattle.std.specs.Prelude.{Result, Ok, Err, OnErr}
use Rattle.dns_octets.specs.Room.{Room}
use Rattle.dns_octets.specs.Appending.{ExceedsRoom}
use Rattle.rdata_fields.specs.Parsing.{BeginsField, SpellsField, SpellsEach, RefusesNext, ParsesEachAs}
use Rattle.rdata_fields.specs.Forms.{StringReason}
use Rattle.rdata_fields.specs.declared.record_error.RecordError.{RecordError}
use Rattle.rdata_values.specs.declared.error.ErrorKind.{ErrorKind}
use Rattle.rdata_values.specs.declared.error.ErrorKind.TheVariants.{ShortBuf}
use Rattle.rdata_fields.specs.declared.field.Field.TheVariants.{String as OfString}
use Rattle.rdata_fields.proofs.Refused.{each_before, each_only_room, field_once, same_field}
use Rattle.dns_lexer.specs.EntryTokens.{TokenSeen}
use Rattle.rdata.specs.Rests.{ExceedsAfter, RefusesAs, RefusesRest, ParsesTail}
use Rattle.rdata.specs.RestKinds.{StringTokensReason, strings_form}
use Rattle.rdata.specs.TokenForms.{TokenForm, FieldReason, SpellOctets}
use Rattle.rdata.proofs.TokenRests.{each_exceeded, whole_within}

not_short : (origin : Option (List (List ℕ))) (before left : List TokenSeen) (e : ErrorKind) → StringTokensReason origin before left e → e ≡ ShortBuf → ⊥
not_short origin before [] e h is = absurd h
not_short origin before (t ∷ ts) e h is = subst (λ w. StringReason t.is_quoted t.text w) is h.1

module _ (origin : Option (List (List ℕ))) (room : Room) (end : ℕ) (tokens : List TokenSeen) (old : List ℕ) where
  string_why : (e : ErrorKind) (before left : List TokenSeen) (octets : List ℕ) → left ≢ [] → tokens ≡ before ++ left → SpellsEach origin OfString before octets → RefusesNext origin room OfString left (old ++ octets) e
      → ((e ≡ ShortBuf) × (strings_form origin).exceeds room tokens left old) ⊎ StringTokensReason origin before left e
  string_why e before [] octets some whole sp h = absurd (some refl)
  string_why e before (t ∷ ts) octets some whole sp (inl h) = inl (h.0, (before, octets, whole, sp, h.1))
  string_why e before (t ∷ ts) octets some whole sp (inr h) = inr ((octets, sp), h.0)

  string_refused : (r : RecordError) (left : List TokenSeen) (new : List ℕ) → left ≢ [] → ParsesEachAs origin room OfString end tokens old (Err r) left new
      → RefusesRest room (strings_form origin) end tokens old r left new
  string_refused r left new some h =
      let a = h.1 in
      let b = a.before in
      let same = same_field origin h.0 OfString a.field a.is_field in
      let only : (octets : List ℕ) → SpellsEach origin OfString tokens octets → (r.kind ≡ ShortBuf) × (room.fits < length old + length octets) =
      λ octets sp. each_only_room origin room OfString h.0 tokens old r.kind left new octets some a sp in
      let spelled : SpellsEach origin OfString b.taken b.octets = each_before origin room OfString h.0 tokens old r.kind left new a in
      let next : RefusesNext origin room OfString left a.middle r.kind = subst (λ f. RefusesNext origin room f left a.middle r.kind) (sym same) a.why in
      let why : ((r.kind ≡ ShortBuf) × (strings_form origin).exceeds room tokens left old) ⊎ StringTokensReason origin b.taken left r.kind =
      string_why r.kind b.taken left b.octets some b.whole spelled (subst (λ m. RefusesNext origin room OfString left m r.kind) b.gained next) in
      let refused : RefusesAs room (strings_form origin) tokens old left r.kind = elim why [
        | inl short ↦ inl short
        | inr reason ↦ inr ((b.taken, b.whole, reason), λ octets sp. not_short origin b.taken left r.kind reason (only octets sp).0)
      ] in
      record {
        at = h.2;
        why = refused;
        extends = (b.octets ++ a.extends.0, a.extends.1 ∙ ap (λ o. o ++ a.extends.0) b.gained ∙ append_assoc old b.octets a.extends.0);
      }

  pub strings_taken : (r : Result (Unit {0}) RecordError) (left : List TokenSeen) (new : List ℕ) → OnErr r (left ≢ []) → ParsesEachAs origin room OfString end tokens old r left new
      → ParsesTail room (strings_form origin) end tokens old r left new
  strings_taken (Ok x) left new some h = h
  strings_taken (Err r) left new some h = string_refused r left new some h

-- ---- strings as tokens of one form

module _ (origin : Option (List (List ℕ))) where
  abbrev string_token : TokenForm
  string_token = record {
    spells = SpellsField origin OfString;
    begins = BeginsField origin OfString;
    reason = FieldReason origin OfString;
    is_wire = λ octets. Unit {0};
    width = λ octets. 0;
    printed = λ octets. record { is_quoted = true; text = [] };
  }

  as_octets : (tokens : List TokenSeen) (octets : List ℕ) → SpellsEach origin OfString tokens octets → SpellOctets string_token tokens octets
  as_octets [] octets h = h
  as_octets (t ∷ ts) octets h = (h.0, h.1, h.2, h.3, as_octets ts h.1 h.4)

  as_tokens : (room : Room) (tokens left : List TokenSeen) (old : List ℕ) → (strings_form origin).exceeds room tokens left old → ExceedsAfter (SpellOctets string_token) string_token.begins room tokens left old
  as_tokens room tokens [] old h = absurd h
  as_tokens room tokens (t ∷ ts) old h = (h.0, h.1, h.2, as_octets h.0 h.1 h.3, h.4)

  pub strings_exceeded : (room : Room) (tokens left : List TokenSeen) (old octets : List ℕ) → (strings_form origin).exceeds room tokens left old → SpellsEach origin OfString tokens octets → room.fits < length old + length octets
  strings_exceeded room tokens left old octets h sp =
      each_exceeded string_token (λ t a b h k. field_once origin OfString t a b h k) (whole_within (SpellsField origin OfString) (λ t a b h k. field_once origin OfString t a b h k)) room tokens left old octets (as_tokens room tokens left old h) (as_octets tokens octets sp)
