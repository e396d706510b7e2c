-- A tail that is one token of a form.
use Rattle.std.proofs.Common.{ℕ, ◌≡◌, ◌≢◌, ◌<◌, ◌≤◌, ◌+◌, List, [], ◌∷◌, length, refl, sym, ap, subst, ◌∙◌, inl, inr, arith}
use Rattle.std.specs.Prelude.{Result, Ok, Err}
use Rattle.dns_octets.specs.Room.{Room}
use Rattle.dns_lexer.specs.EntryTokens.{TokenSeen}
use Rattle.rdata_fields.specs.Source.{next_place}
use Rattle.rdata_fields.specs.declared.record_error.RecordError.{RecordError}
use Rattle.rdata_values.specs.declared.error.ErrorKind.{ErrorKind}
use Rattle.rdata.specs.OneError.{RejectsOnce}
use Rattle.rdata.specs.OneToken.{ExceedsOne, OneReason, SpellsOne, one_form}
use Rattle.rdata.specs.Rests.{RefusesAs, ParsesTail}
use Rattle.rdata.specs.Texts.{ExpectsNoToken}
use Rattle.rdata.specs.TokenForms.{ParsesByForm, RefusesTokenAs, TokenForm}
use Rattle.rdata.proofs.ErrorPlaces.{kind_of, known_at, moved}
use Rattle.rdata.proofs.TokenRests.{BegunWithin, SpelledOnce}

module _ (f : TokenForm) where
  pub one_once : SpelledOnce f.spells → (tokens : List TokenSeen) (a b : List ℕ) → SpellsOne f tokens a → SpellsOne f tokens b → a ≡ b
  one_once once [] a b h k = absurd h
  one_once once (t ∷ []) a b h k = once t a b h k
  one_once once (t ∷ u ∷ ts) a b h k = absurd h

  -- a token that begins to exceed the room exceeds it
  pub one_exceeded : BegunWithin f.begins f.spells → (room : Room) (tokens left : List TokenSeen) (old octets : List ℕ) → ExceedsOne f room tokens left old → SpellsOne f tokens octets → room.fits < length old + length octets
  one_exceeded within room [] left old octets h k = absurd h
  one_exceeded within room (t ∷ []) left old octets h k = let few = within t h.1.0 octets h.1.1 k in omega (arith, h.1.2, few)
  one_exceeded within room (t ∷ u ∷ ts) left old octets h k = absurd k

  first_is : (t : TokenSeen) (ts : List TokenSeen) (octets : List ℕ) → SpellsOne f (t ∷ ts) octets → f.spells t octets
  first_is t [] octets sp = sp
  first_is t (u ∷ us) octets sp = absurd sp

  module _ (room : Room) (end : ℕ) (old : List ℕ) where
    pub one_refused : (tokens : List TokenSeen) (r : RecordError) (left : List TokenSeen) (new : List ℕ) → ParsesByForm room f end tokens old (Err r) left new → ParsesTail room (one_form f) end tokens old (Err r) left new
    one_refused tokens r left new h = record { at = moved r h.1 (ap (λ l. next_place l end) (sym h.0)); why = by tokens h.0 h.2; extends = h.3 }
      where
        by : (tokens : List TokenSeen) → left ≡ tokens → RefusesTokenAs room f.begins f.spells f.reason tokens old r.kind → RefusesAs room (one_form f) tokens old left r.kind
        by [] same why = inr ((same, why), λ octets sp. sp)
        by (t ∷ ts) same (inl short) = inl (short.0, (same, short.1))
        by (t ∷ ts) same (inr bad) = inr (inl (same, bad.0), λ octets sp. bad.1 octets (first_is t ts octets sp))

    pub one_taken : (tokens : List TokenSeen) (r : Result (Unit {0}) RecordError) (begun : ℕ) (middle left : List TokenSeen) (new : List ℕ) → begun ≡ end → ParsesByForm room f end tokens old (Ok tt) middle new
        → ExpectsNoToken begun middle r left → ParsesTail room (one_form f) end tokens old r left new
    one_taken tokens (Ok x) begun middle left new ends h k =
        let t = h.0 in
        let one : tokens ≡ t ∷ [] = h.1 ∙ ap (λ l. t ∷ l) k.0 in
        (k.1, (h.2.0, subst (λ ts. SpellsOne f ts h.2.0) (sym one) h.2.1, h.2.2))
    one_taken tokens (Err r) begun [] left new ends h k = absurd k
    one_taken tokens (Err r) begun (u ∷ us) left new ends h k =
        let t = h.0 in
        let all : tokens ≡ t ∷ u ∷ us = h.1 in
        let some : u ∷ us ≢ [] = λ none. cc none in
        record {
          at = known_at r k.1 (ap (λ l. next_place l end) (sym k.0));
          why = inr (subst (λ ts. OneReason f ts left r.kind) (sym all) (inr (k.0, kind_of r k.1, some, (h.2.0, h.2.1))), λ octets sp. subst (λ ts. SpellsOne f ts octets) all sp);
          extends = (h.2.0, h.2.2);
        }

  -- a token that is rejected is so for one reason, and spells nothing
  pub one_rejected : ((t : TokenSeen) (a b : ErrorKind) → f.reason t a → f.reason t b → a ≡ b) → ((t : TokenSeen) (e : ErrorKind) (octets : List ℕ) → f.reason t e → f.spells t octets → ⊥) → RejectsOnce (one_form f)
  one_rejected once excludes [] left last a b h k = (h.0 ∙ sym k.0, h.1 ∙ sym k.1)
  one_rejected once excludes (t ∷ ts) left last a b (inl h) (inl k) = (h.0 ∙ sym k.0, once t a b h.1 k.1)
  one_rejected once excludes (t ∷ ts) left last a b (inl h) (inr k) = let sp = k.3 in absurd (excludes t a sp.0 h.1 sp.1)
  one_rejected once excludes (t ∷ ts) left last a b (inr h) (inl k) = let sp = h.3 in absurd (excludes t b sp.0 k.1 sp.1)
  one_rejected once excludes (t ∷ ts) left last a b (inr h) (inr k) = (h.0 ∙ sym k.0, h.1 ∙ sym k.1)
