-- A character string that may be omitted.
use Rattle.std.proofs.Common.{ℕ, Bool, true, false, true≢false, ◌≡◌, ◌≢◌, ◌<◌, ◌+◌, ◌-◌, ◌==◌, Option, None, List, [], ◌∷◌, length, refl, sym, ap, subst, ◌∙◌, inl, inr, arith, append-nil, slice_index}
use Rattle.std.specs.Prelude.{Result, Ok, Err, ◌≤◌, ◌↔◌, IsTrue}
use Rattle.std.proofs.lemmas.Bool.{eqb-true, eqb-false}
use Rattle.std.proofs.lemmas.List.Elements.{All-head, All-tail}
use Rattle.dns_octets.specs.Room.{Room}
use Rattle.dns_lexer.specs.EntryTokens.{TokenSeen}
use Rattle.rdata_tokens.specs.Spelling.{AreOctetValues, SpellsOctetList}
use Rattle.rdata_tokens.proofs.FormLaws.{octets_spelled, strings_spelled}
use Rattle.rdata_fields.specs.Parsing.{BeginsField, SpellsField}
use Rattle.rdata_fields.specs.Source.{next_place}
use Rattle.rdata_fields.specs.declared.field.Field.TheVariants.{String as OfString}
use Rattle.rdata_fields.specs.declared.record_error.RecordError.{RecordError}
use Rattle.rdata_fields.proofs.FormLaws.{fields_once}
use Rattle.rdata.specs.MaybeStrings.{ExceedsMaybeString, SpellsMaybeString, MaybeStringReason, IsMaybeString, printed_maybe_string, maybe_string_form}
use Rattle.rdata.specs.RestLaws.{HoldOctets}
use Rattle.rdata.specs.Rests.{ArePrinted, RefusesAs, ParsesTail}
use Rattle.rdata.specs.Texts.{ExpectsNoToken}
use Rattle.rdata.specs.TokenForms.{ParsesOneField, RefusesTokenAs, FieldReason}
use Rattle.rdata.proofs.ErrorPlaces.{kind_of, known_at, moved}

-- ---- laws of the form

pub maybe_string_once : (tokens : List TokenSeen) (a b : List ℕ) → SpellsMaybeString tokens a → SpellsMaybeString tokens b → a ≡ b
maybe_string_once [] a b h k = h ∙ sym k
maybe_string_once (t ∷ []) a b h k = fields_once None OfString t.is_quoted t.text a b h k
maybe_string_once (t ∷ u ∷ ts) a b h k = absurd h

-- a string that begins to exceed the room exceeds it
pub maybe_string_exceeded : (room : Room) (tokens left : List TokenSeen) (old octets : List ℕ) → ExceedsMaybeString room tokens left old → SpellsMaybeString tokens octets → room.fits < length old + length octets
maybe_string_exceeded room [] left old octets h k = absurd h
maybe_string_exceeded room (t ∷ []) left old octets h k = let same = fields_once None OfString t.is_quoted t.text h.1.0 octets h.1.1 k in omega (arith, h.1.2, ap length same)
maybe_string_exceeded room (t ∷ u ∷ ts) left old octets h k = absurd k

pub maybe_string_is_wire : (tokens : List TokenSeen) (octets : List ℕ) → HoldOctets tokens → SpellsMaybeString tokens octets → IsMaybeString octets
maybe_string_is_wire [] octets h k = inl k
maybe_string_is_wire (t ∷ []) octets h k = inr (strings_spelled.spelled t.text octets h.0 k)
maybe_string_is_wire (t ∷ u ∷ ts) octets h k = absurd k

string_back : (s : List ℕ) (tokens : List TokenSeen) → AreOctetValues s → length s ≤ 255 → ArePrinted (printed_maybe_string (length s ∷ s)) tokens → SpellsMaybeString tokens (length s ∷ s)
string_back s [] values short p = absurd p
string_back s (t ∷ []) values short p = record { octets = s; spelled = subst (λ text. SpellsOctetList text s) (sym p.1) (octets_spelled.back s values); short = short; whole = refl }
string_back s (t ∷ u ∷ ts) values short p = absurd p.3

none_back : (tokens : List TokenSeen) → ArePrinted [] tokens → SpellsMaybeString tokens []
none_back [] p = refl
none_back (t ∷ ts) p = absurd p

pub maybe_string_back : (octets : List ℕ) (tokens : List TokenSeen) → IsMaybeString octets → ArePrinted (printed_maybe_string octets) tokens → SpellsMaybeString tokens octets
maybe_string_back octets tokens (inl none) p = subst (SpellsMaybeString tokens) (sym none) (none_back tokens (subst (λ o. ArePrinted (printed_maybe_string o) tokens) none p))
maybe_string_back octets tokens (inr w) p =
    subst (SpellsMaybeString tokens) (sym w.whole) (string_back w.octets tokens w.values w.short (subst (λ o. ArePrinted (printed_maybe_string o) tokens) w.whole p))

-- the length octet counts the octets after it
counted : (o : ℕ) (os : List ℕ) → IsMaybeString (o ∷ os) → o ≡ length os
counted o os (inl none) = let no : o ∷ os ≡ [] = none in cc no
counted o os (inr w) =
    let whole : o ∷ os ≡ length w.octets ∷ w.octets = w.whole in
    let first : o ≡ length w.octets = cc whole in
    let rest : os ≡ w.octets = cc whole in
    first ∙ sym (ap length rest)

pub string_counted : (octets : List ℕ) → length octets ≢ 0 → IsMaybeString octets → slice_index octets 0 ≡ length octets - 1
string_counted [] some h = absurd (some refl)
string_counted (o ∷ os) some h = omega (arith, counted o os h)

pub counted_string : (octets : List ℕ) → AreOctetValues octets → length octets ≢ 0 → slice_index octets 0 ≡ length octets - 1 → IsMaybeString octets
counted_string [] values some h = absurd (some refl)
counted_string (o ∷ os) values some h =
    let is : o ≡ length os = omega (arith, h) in
    inr (record { octets = os; values = All-tail (λ b. b < 256) o os values; short = omega (arith, is, All-head (λ b. b < 256) o os values); whole = ap (λ n. n ∷ os) is })

-- whether the length octet counts them
pub string_test : (n : ℕ) (octets : List ℕ) → AreOctetValues octets → length octets ≢ 0 → n ≡ slice_index octets 0 → IsTrue (n == (length octets - 1)) ↔ IsMaybeString octets
string_test n octets values some is = by (n == (length octets - 1)) refl
  where
    by : (b : Bool) → (n == (length octets - 1)) ≡ b → IsTrue (n == (length octets - 1)) ↔ IsMaybeString octets
    by true e = (λ yes. counted_string octets values some (sym is ∙ eqb-true n (length octets - 1) e), λ h. e)
    by false e = (λ yes. absurd (true≢false (sym yes ∙ e)), λ h. absurd (eqb-false n (length octets - 1) e (is ∙ string_counted octets some h)))

-- ---- parsing

pub no_string_taken : (room : Room) (end : ℕ) (tokens : List TokenSeen) (old : List ℕ) → tokens ≡ [] → ParsesTail room maybe_string_form end tokens old (Ok tt) tokens old
no_string_taken room end tokens old none = (none, ([], subst (λ ts. SpellsMaybeString ts []) (sym none) refl, sym (append-nil old)))

module _ (origin : Option (List (List ℕ))) (room : Room) (end : ℕ) (old : List ℕ) where
  first_is : (t : TokenSeen) (ts : List TokenSeen) (octets : List ℕ) → SpellsMaybeString (t ∷ ts) octets → SpellsField None OfString t octets
  first_is t [] octets sp = sp
  first_is t (u ∷ us) octets sp = absurd sp

  pub string_refused : (tokens : List TokenSeen) (r : RecordError) (left : List TokenSeen) (new : List ℕ) → tokens ≢ [] → ParsesOneField origin room OfString end tokens old (Err r) left new
      → ParsesTail room maybe_string_form end tokens old (Err r) left new
  string_refused [] r left new some h = absurd (some refl)
  string_refused (t ∷ ts) r left new some h = record { at = moved r h.1 (ap (λ l. next_place l end) (sym h.0)); why = by h.2; extends = h.3 }
    where
      by : RefusesTokenAs room (BeginsField origin OfString) (SpellsField origin OfString) (FieldReason origin OfString) (t ∷ ts) old r.kind → RefusesAs room maybe_string_form (t ∷ ts) old left r.kind
      by (inl short) = inl (short.0, (h.0, short.1))
      by (inr bad) = inr (inl (h.0, bad.0), λ octets sp. bad.1 octets (first_is t ts octets sp))

  pub string_taken : (tokens : List TokenSeen) (r : Result (Unit {0}) RecordError) (begun : ℕ) (middle left : List TokenSeen) (new : List ℕ) → begun ≡ end → ParsesOneField origin room OfString end tokens old (Ok tt) middle new
      → ExpectsNoToken begun middle r left → ParsesTail room maybe_string_form end tokens old r left new
  string_taken tokens (Ok x) begun middle left new ends h k =
      let t = h.0 in
      let one : tokens ≡ t ∷ [] = h.1 ∙ ap (λ l. t ∷ l) k.0 in
      (k.1, (h.2.0, subst (λ ts. SpellsMaybeString ts h.2.0) (sym one) h.2.1, h.2.2))
  string_taken tokens (Err r) begun [] left new ends h k = absurd k
  string_taken tokens (Err r) begun (u ∷ us) left new ends h k =
      let t = h.0 in
      let all : tokens ≡ t ∷ u ∷ us = h.1 in
      let some : u ∷ us ≢ [] = λ none. cc none in
      record {
        at = known_at r k.1 (ap (λ l. next_place l end) (sym k.0));
        why = inr (subst (λ ts. MaybeStringReason ts left r.kind) (sym all) (inr (k.0, kind_of r k.1, (some, (h.2.0, h.2.1)))), λ octets sp. subst (λ ts. SpellsMaybeString ts octets) all sp);
        extends = (h.2.0, h.2.2);
      }
