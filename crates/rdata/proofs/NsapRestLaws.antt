-- The address of a network service, as the one token of an entry.
use Rattle.std.proofs.Common.{ℕ, true, false, true≢false, ◌≡◌, ◌≢◌, ◌<◌, ◌≤◌, ◌+◌, ◌⊎◌, List, [], ◌∷◌, length, refl, sym, ap, subst, ◌∙◌, inl, inr}
use Rattle.dns_octets.specs.Room.{Room}
use Rattle.dns_lexer.specs.EntryTokens.{TokenSeen}
use Rattle.rdata_tokens.specs.Tokens.{DigitsContinue}
use Rattle.rdata_tokens.specs.declared.kind.DigitsKind.TheVariants.{Hex}
use Rattle.rdata_tails.specs.Nsap.{HasDigits, NsapFault, RefusesNsap, SpellsNsap, nsap_text}
use Rattle.rdata_tails.proofs.NsapLaws.{digits_once, nsap_is_read}
use Rattle.rdata_values.specs.declared.error.ErrorKind.{ErrorKind}
use Rattle.rdata_values.specs.declared.error.ErrorKind.TheVariants.{ExpectedHex, UnevenHex}
use Rattle.rdata.specs.NsapRest.{nsap_form, nsap_word_form}
use Rattle.rdata.specs.OneError.{RejectsOnce}
use Rattle.rdata.specs.OneToken.{SpellsOne}
use Rattle.rdata.specs.Rests.{ArePrinted}
use Rattle.rdata.specs.TokenForms.{RefusesTokenAs}
use Rattle.rdata.proofs.OneTokenLaws.{one_once, one_exceeded, one_rejected}

pub nsap_once : (tokens : List TokenSeen) (a b : List ℕ) → nsap_form.spells tokens a → nsap_form.spells tokens b → a ≡ b
nsap_once = one_once nsap_word_form (λ t a b h k. nsap_is_read.once t.text a b h.1 k.1)

pub nsap_exceeded : (room : Room) (tokens left : List TokenSeen) (old octets : List ℕ) → nsap_form.exceeds room tokens left old → nsap_form.spells tokens octets → room.fits < length old + length octets
nsap_exceeded = one_exceeded nsap_word_form (λ t front octets h k. nsap_is_read.within t.text front octets h.1 k.1)

pub nsap_is_wire : (tokens : List TokenSeen) (octets : List ℕ) → nsap_form.spells tokens octets → nsap_form.is_wire octets
nsap_is_wire [] octets h = absurd h
nsap_is_wire (t ∷ []) octets h = (h.1.2.bytes, h.1.3)
nsap_is_wire (t ∷ u ∷ ts) octets h = absurd h

pub nsap_back : (octets : List ℕ) (tokens : List TokenSeen) → nsap_form.is_wire octets → ArePrinted (nsap_form.printed octets) tokens → nsap_form.spells tokens octets
nsap_back octets [] is p = absurd p
nsap_back octets (t ∷ []) is p = (p.0, subst (λ text. SpellsNsap text octets) (sym p.1) (nsap_is_read.back octets is.0 is.1))
nsap_back octets (t ∷ u ∷ ts) is p = absurd p.3

-- why a word was not appended
pub word_refused : (room : Room) (t : TokenSeen) (ts : List TokenSeen) (old : List ℕ) (e : ErrorKind) → t.is_quoted ≡ false → RefusesNsap room t.text old e
    → RefusesTokenAs room nsap_word_form.begins nsap_word_form.spells nsap_word_form.reason (t ∷ ts) old e
word_refused room t ts old e plain (inl h) = inl (h.0, (h.1.0, (plain, h.1.1), h.1.2))
word_refused room t ts old e plain (inr h) = inr (inr (plain, h.0, h.1), λ octets sp. h.1 octets sp.1)

-- ---- one reason

abbrev WhyDigits : List ℕ → ErrorKind → Type 0
WhyDigits digits e = ((e ≡ ExpectedHex) × (DigitsContinue Hex digits → ⊥)) ⊎ ((e ≡ UnevenHex) × DigitsContinue Hex digits)

why_once : (digits : List ℕ) (a b : ErrorKind) → WhyDigits digits a → WhyDigits digits b → a ≡ b
why_once digits a b (inl h) (inl k) = h.0 ∙ sym k.0
why_once digits a b (inl h) (inr k) = absurd (h.1 k.1)
why_once digits a b (inr h) (inl k) = absurd (k.1 h.1)
why_once digits a b (inr h) (inr k) = h.0 ∙ sym k.0

fault_once : (text : List ℕ) (a b : ErrorKind) → NsapFault text a → NsapFault text b → a ≡ b
fault_once text a b (inl h) (inl k) = h.0 ∙ sym k.0
fault_once text a b (inl h) (inr k) = absurd (k.2 (h.1 k.0 k.1))
fault_once text a b (inr h) (inl k) = absurd (h.2 (k.1 h.0 h.1))
fault_once text a b (inr h) (inr k) = why_once k.0 a b (subst (λ d. WhyDigits d a) (digits_once text h.0 k.0 h.1 k.1) h.3) k.3

reason_once : (t : TokenSeen) (a b : ErrorKind) → nsap_word_form.reason t a → nsap_word_form.reason t b → a ≡ b
reason_once t a b (inl h) (inl k) = h.0 ∙ sym k.0
reason_once t a b (inl h) (inr k) = absurd (true≢false (sym h.1 ∙ k.0))
reason_once t a b (inr h) (inl k) = absurd (true≢false (sym k.1 ∙ h.0))
reason_once t a b (inr h) (inr k) = fault_once t.text a b h.1 k.1

reason_excludes : (t : TokenSeen) (e : ErrorKind) (octets : List ℕ) → nsap_word_form.reason t e → nsap_word_form.spells t octets → ⊥
reason_excludes t e octets (inl h) sp = true≢false (sym h.1 ∙ sp.0)
reason_excludes t e octets (inr h) sp = h.2 octets sp.1

pub nsap_rejected : RejectsOnce nsap_form
nsap_rejected = one_rejected nsap_word_form reason_once reason_excludes
