-- Printing and reading together.
use Rattle.std.proofs.Common.{◌≡◌, ◌≢◌, ℕ, ◌+◌, ◌*◌, ◌/◌, ◌<◌, List, ◌++◌, length, ap, sym, ◌∙◌, inl, inr, arith}
use Rattle.dns_octets.specs.Room.{Room}
use Rattle.dns_codec.specs.Base.{base16, base32hex, base64}
use Rattle.rdata_tokens.specs.Spelled.{base_of, SpellsDigits}
use Rattle.rdata_tokens.specs.Reading.{DigitsState, HasRead, RefusesPiece}
use Rattle.rdata_values.specs.declared.error.ErrorKind.{ErrorKind}
use Rattle.rdata_values.specs.declared.error.ErrorKind.TheVariants.{ShortBuf}
use Rattle.rdata_tokens.proofs.Spelling.{fold_length, size16, size32, size64}
use Rattle.rdata_tokens.proofs.Pieces.{gains_next, is_short}
use Rattle.rdata_tokens.proofs.TakenDigit.{least_begun}

pub hex_digits : (text v : List ℕ) → SpellsDigits base16 text v → length text ≡ 2 * length v
hex_digits text v s = sym (fold_length base16 text) ∙ (ap length s.text_is ∙ size16 v)

pub base64_digits : (text v : List ℕ) → SpellsDigits base64 text v → length text ≡ 4 * ((length v + 2) / 3)
base64_digits text v s = sym (fold_length base64 text) ∙ (ap length s.text_is ∙ size64 v)

pub base32hex_digits : (text v : List ℕ) → SpellsDigits base32hex text v → length text ≡ (8 * length v + 4) / 5
base32hex_digits text v s = sym (fold_length base32hex text) ∙ (ap length s.text_is ∙ size32 v)

pub only_room : (room : Room) (s : DigitsState) (text piece rest octets read old : List ℕ) (e : ErrorKind)
    → SpellsDigits (base_of s.kind) (text ++ (piece ++ rest)) octets → HasRead s text read → RefusesPiece room s piece old e
    → (e ≡ ShortBuf) × ((later : List ℕ) × (octets ≡ read ++ later) × (room.fits < length old + length later))
only_room room s text piece rest octets read old e spelled h r =
    let next = gains_next s text piece rest octets read spelled h r.some in
    elim (is_short e) [
      | inl short ↦ (short, (next.0, next.2, (let x = r.exceeds short in omega (arith, x.2, least_begun s piece x.0 next.0 x.1 next.1))))
      | inr other ↦ absurd (r.none other next.0 next.1)
    ]

pub final : (room : Room) (s : DigitsState) (text piece rest octets read old : List ℕ) (e : ErrorKind)
    → HasRead s text read → RefusesPiece room s piece old e → e ≢ ShortBuf → SpellsDigits (base_of s.kind) (text ++ (piece ++ rest)) octets → ⊥
final room s text piece rest octets read old e h r other spelled =
    let next = gains_next s text piece rest octets read spelled h r.some in
    r.none other next.0 next.1
