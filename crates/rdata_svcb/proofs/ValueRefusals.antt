-- Values that are rejected, by their kinds.
use Rattle.std.proofs.Common.{ℕ, ◌≡◌, List, refl, sym, ◌∙◌, Result, Ok, Err, inl, inr}
use Rattle.std.specs.Prelude.{IfErr}
use Rattle.dns_octets.specs.Room.{Room}
use Rattle.rdata_values.specs.declared.error.ErrorKind.{ErrorKind}
use Rattle.rdata_values.specs.declared.error.ErrorKind.TheVariants.{ShortBuf, BadEscape, IllegalBase64, TrailingBase64, IncompleteBase64}
use Rattle.rdata_tokens.specs.Tokens.{RefusesToken}
use Rattle.rdata_tokens.specs.declared.kind.DigitsKind.TheVariants.{Base64}
use Rattle.rdata_tokens.specs.Spelling.{RefusesOctets}
use Rattle.rdata_svcb.specs.declared.keys.ValueKind.TheVariants.{Digits, Octets}
use Rattle.rdata_svcb.specs.ParamRefusals.{RefusesValue}

digits_refused_by : (room : Room) (text old : List ℕ) (why : ErrorKind) → RefusesToken Base64 room text old why → RefusesValue room Digits text old why
digits_refused_by room text old why h = elim h.why [
  | inl e ↦ inl (e, h.exceeds e)
  | inr (inl u) ↦ (let none = h.none (λ e. (let j : IncompleteBase64 ≡ ShortBuf = sym u.0 ∙ e in absurd cc)) in inr (inl (u.0, u.1, none), none))
  | inr (inr (inl i, x)) ↦ inr (inr (inl i, x), h.none (λ e. (let j : IllegalBase64 ≡ ShortBuf = sym i.0 ∙ e in absurd cc)))
  | inr (inr (inr t, x)) ↦ inr (inr (inr t, x), h.none (λ e. (let j : TrailingBase64 ≡ ShortBuf = sym t.0 ∙ e in absurd cc)))
]

pub digits_refused : (r : Result (Unit {0}) ErrorKind) (room : Room) (text old : List ℕ) → IfErr r (λ e. RefusesToken Base64 room text old e) → IfErr r (RefusesValue room Digits text old)
digits_refused (Ok x) room text old h = tt
digits_refused (Err e) room text old h = digits_refused_by room text old e h

-- octets that a text spells
pub octets_refused : (r : Result (Unit {0}) ErrorKind) (room : Room) (text old : List ℕ) → IfErr r (RefusesOctets room text old) → IfErr r (RefusesValue room Octets text old)
octets_refused (Ok x) room text old h = tt
octets_refused (Err BadEscape) room text old h = inr ((refl, h.0), h.1)
octets_refused (Err ShortBuf) room text old h = inl (refl, h)
octets_refused (Err other) room text old h = absurd h
