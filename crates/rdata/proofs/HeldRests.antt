-- A token whose octets are not at its place, before others.
use Rattle.std.proofs.Common.{ℕ, ◌≡◌, ◌<◌, ◌+◌, List, [], ◌∷◌, ◌++◌, length, refl, sym, ap, subst, ◌∙◌, inl, inr, append-nil}
use Rattle.std.specs.Prelude.{Result, Ok, Err}
use Rattle.dns_octets.specs.Room.{Room}
use Rattle.rdata_fields.specs.Source.{next_place}
use Rattle.rdata_fields.specs.declared.record_error.RecordError.{RecordError}
use Rattle.rdata_values.specs.declared.error.ErrorKind.{ErrorKind}
use Rattle.rdata_tokens.specs.Spelling.{AreOctetValues}
use Rattle.dns_lexer.specs.EntryTokens.{TokenSeen}
use Rattle.rdata.specs.HeldForms.{SpellsHeld, ExceedsHeld, IsHeldTail, RefusesHeld, ParsesHeld, held_form}
use Rattle.rdata.specs.RestLaws.{HoldOctets}
use Rattle.rdata.specs.Rests.{RestForm, ArePrinted, RefusesAs, RefusesRest, ParsesTail}
use Rattle.rdata.specs.TokenForms.{TokenForm, ThenReason}
use Rattle.rdata.proofs.ErrorPlaces.{moved}
use Rattle.rdata.proofs.TokenRests.{SpelledOnce}

module _ (shown : List ℕ → List ℕ) (f : TokenForm) (later : List ℕ → RestForm) where
  -- what tokens spell, if the first is known
  parts : SpelledOnce f.spells → (tokens : List TokenSeen) (t : TokenSeen) (ts : List TokenSeen) (own octets : List ℕ) → tokens ≡ t ∷ ts → f.spells t own → SpellsHeld f later tokens octets → (later own).spells ts octets
  parts once tokens t ts own octets is spelled sp =
      let all : t ∷ ts ≡ sp.first ∷ sp.last = sym is ∙ sp.tokens_are in
      let head : sp.first ≡ t = cc all in
      let tail : sp.last ≡ ts = cc all in
      let owns : sp.own ≡ own = once t sp.own own (subst (λ z. f.spells z sp.own) head sp.spelled) spelled in
      subst (λ o. (later o).spells ts octets) owns (subst (λ z. (later sp.own).spells z octets) tail sp.rest)

  pub held_once : SpelledOnce f.spells → ((own : List ℕ) (ts : List TokenSeen) (a b : List ℕ) → (later own).spells ts a → (later own).spells ts b → a ≡ b)
      → (tokens : List TokenSeen) (a b : List ℕ) → SpellsHeld f later tokens a → SpellsHeld f later tokens b → a ≡ b
  held_once once rest tokens a b h k = rest k.own k.last a b (parts once tokens k.first k.last k.own a k.tokens_are k.spelled h) k.rest

  pub held_exceeded : SpelledOnce f.spells → (room : Room) (left : List TokenSeen) (old octets : List ℕ) → ((own : List ℕ) (ts : List TokenSeen) → (later own).exceeds room ts left old → (later own).spells ts octets → room.fits < length old + length octets)
      → (tokens : List TokenSeen) → ExceedsHeld f later room tokens left old → SpellsHeld f later tokens octets → room.fits < length old + length octets
  held_exceeded once room left old octets rest [] h sp = absurd h
  held_exceeded once room left old octets rest (t ∷ ts) h sp = rest h.0 ts h.2 (parts once (t ∷ ts) t ts h.0 octets refl h.1 sp)

  module _ (room : Room) (end : ℕ) (tokens : List TokenSeen) (old : List ℕ) where
    pub held_refused : {V : Type 0} (octets_of : V → List ℕ) (r : RecordError) (left : List TokenSeen) → ParsesHeld {V = V} f octets_of end tokens (Err r) left → RefusesRest room (held_form shown f later) end tokens old r left old
    held_refused octets_of r left h = record { at = moved r h.1 (ap (λ l. next_place l end) (sym h.0)); why = by tokens h.0 h.2; extends = ([], sym (append-nil old)) }
      where
        first_is : (t : TokenSeen) (ts : List TokenSeen) (octets : List ℕ) (sp : SpellsHeld f later (t ∷ ts) octets) → f.spells t sp.own
        first_is t ts octets sp = let is : t ∷ ts ≡ sp.first ∷ sp.last = sp.tokens_are in let head : sp.first ≡ t = cc is in subst (λ t. f.spells t sp.own) head sp.spelled

        by : (tokens : List TokenSeen) → left ≡ tokens → RefusesHeld f tokens r.kind → RefusesAs room (held_form shown f later) tokens old left r.kind
        by [] none why = inr ((none, why), λ octets sp. (let is : [] ≡ sp.first ∷ sp.last = sp.tokens_are in cc is))
        by (t ∷ ts) same why = inr (inl (same, why.0, why.1), λ octets sp. why.1 sp.own (first_is t ts octets sp))

    module _ (once : SpelledOnce f.spells) (t : TokenSeen) (ts : List TokenSeen) (own : List ℕ) (is : tokens ≡ t ∷ ts) (spelled : f.spells t own) where
      why_later : (left : List TokenSeen) (e : ErrorKind) → RefusesAs room (later own) ts old left e → RefusesAs room (held_form shown f later) tokens old left e
      why_later left e (inl short) = inl (short.0, subst (λ z. ExceedsHeld f later room z left old) (sym is) (own, spelled, short.1))
      why_later left e (inr bad) = inr (subst (λ z. ThenReason f later z left e) (sym is) (inr (own, spelled, bad.0)), λ octets sp. bad.1 octets (parts once tokens t ts own octets is spelled sp))

      pub held_before : (begun : ℕ) (r : Result (Unit {0}) RecordError) (left : List TokenSeen) (new : List ℕ) → begun ≡ end → ParsesTail room (later own) begun ts old r left new → ParsesTail room (held_form shown f later) end tokens old r left new
      held_before begun (Ok x) left new ends h = (h.0, (h.1.0, record { first = t; last = ts; own = own; tokens_are = is; spelled = spelled; rest = h.1.1 }, h.1.2))
      held_before begun (Err r) left new ends h = record { at = moved r h.at (ap (next_place left) ends); why = why_later left r.kind h.why; extends = h.extends }

  pub held_wire : ((t : TokenSeen) (octets : List ℕ) → AreOctetValues t.text → f.spells t octets → f.is_wire octets)
      → ((own : List ℕ) (tokens : List TokenSeen) (octets : List ℕ) → HoldOctets tokens → (later own).spells tokens octets → (later own).is_wire octets)
      → (tokens : List TokenSeen) (octets : List ℕ) → HoldOctets tokens → SpellsHeld f later tokens octets → IsHeldTail f later octets
  held_wire each rest tokens octets h k = let held : HoldOctets (k.first ∷ k.last) = subst HoldOctets k.tokens_are h in (k.own, each k.first k.own held.0 k.spelled, rest k.own k.last octets held.1 k.rest)

  -- what is printed of octets is what the first token spells
  abbrev pub IsShown : Type 0
  IsShown = (own octets : List ℕ) → f.is_wire own → (later own).is_wire octets → shown octets ≡ own

  pub held_back : IsShown → ((octets : List ℕ) (t : TokenSeen) → f.is_wire octets → t.is_quoted ≡ (f.printed octets).is_quoted → t.text ≡ (f.printed octets).text → f.spells t octets) → (others : List ℕ → RestForm)
      → ((own octets : List ℕ) (tokens : List TokenSeen) → (later own).is_wire octets → ArePrinted ((later own).printed octets) tokens → (others own).spells tokens octets)
      → (octets : List ℕ) (tokens : List TokenSeen) → IsHeldTail f later octets → ArePrinted ((held_form shown f later).printed octets) tokens → SpellsHeld f others tokens octets
  held_back same back others rest octets [] is p = absurd p
  held_back same back others rest octets (t ∷ ts) is p =
      let own : List ℕ = is.0 in
      let known : shown octets ≡ own = same own octets is.1 is.2 in
      record {
        first = t;
        last = ts;
        own = own;
        tokens_are = refl;
        spelled = back own t is.1 (p.0 ∙ ap (λ o. (f.printed o).is_quoted) known) (p.1 ∙ ap (λ o. (f.printed o).text) known);
        rest = rest own octets ts is.2 (subst (λ o. ArePrinted ((later o).printed octets) ts) known p.3);
      }
