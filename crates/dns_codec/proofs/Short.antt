-- Short texts, decoded at once: their octets are their characters, and only `ShortBuf` can result.
use Rattle.std.proofs.Common.{◌≡◌, ℕ, zero, suc, ◌≤◌, List, [], ◌∷◌, length, sym, ap, ◌∙◌, arith, Some, None, inl, inr}
use Rattle.std.specs.Str.{chars, IsAscii}
use Rattle.std.proofs.Math.Nat.{le-max_left}
use Rattle.std.proofs.lemmas.Bool.{cases_lt}
use Rattle.std.proofs.lemmas.Str.{chars-IsAscii, IsAscii-append}
use Rattle.std.proofs.lemmas.Str.Ascii.{IsAscii-nil}
use Rattle.dns_octets.specs.Room.{Room}
use Rattle.dns_codec.specs.Base.{Base, IsEncoding}
use Rattle.dns_codec.specs.Grammar.{HaveValues, Decodes}
use Rattle.dns_codec.specs.Outcome.{refusal, IsRefusedBy}
use Rattle.dns_codec.specs.declared.error.DecodeError.TheVariants.{ShortBuf}
use Rattle.dns_codec.proofs.Alphabets.{value-past}
use Rattle.dns_codec.proofs.Causes.{cases_error}
use Rattle.dns_codec.proofs.Each.{once}
use Rattle.dns_codec.proofs.Refusals.{unrefused, wants}
use Rattle.dns_codec.proofs.Texts.{marks_ascii}

-- characters that have values are ASCII
valued_ascii : (b : Base) → IsEncoding b → (cs ps : List ℕ) → HaveValues b cs ps → IsAscii cs
valued_ascii b known [] ps n i = IsAscii-nil i
valued_ascii b known (c ∷ cs) [] n i = absurd n
valued_ascii b known (c ∷ cs) (p ∷ ps) n zero = elim (cases_lt c 128) [
  | inl ascii ↦ ascii
  | inr past ↦
      let bad : None ≡ Some p = sym (value-past b known c past) ∙ n.0 in
      cc bad
]
valued_ascii b known (c ∷ cs) (p ∷ ps) n (suc i) = valued_ascii b known cs ps n.1 i

-- so the octets of a text of the grammar are its characters
pub chars_decodes : (b : Base) → IsEncoding b → (text octets : List ℕ) → Decodes b text octets → Decodes b (chars text) octets
chars_decodes b known text octets d =
    let ascii : IsAscii text = rw d.spelled (IsAscii-append _ _ (valued_ascii b known d.chars d.digits d.valued) (marks_ascii _)) in
    rw (chars-IsAscii text ascii) d

-- a text of the grammar fails with `ShortBuf` if its octets needn't fit
pub wants_room : (b : Base) → IsEncoding b → (room : Room) (text octets : List ℕ)
    → Decodes b text octets → (length octets ≤ room.fits → ⊥) → IsRefusedBy (refusal b) room text ShortBuf
wants_room b known room text octets d over = elim (cases_error (refusal b room.fits text)) [
  | inl none ↦
      let read = unrefused b known text room.fits none in
      let same : read.0 ≡ octets = once b known text read.0 octets read.1 d in
      absurd (over (rw same at read.2))
  | inr some ↦
      let is : some.0 ≡ ShortBuf = (wants b known text octets room.fits some.0 d).0 some.1 in
      record { limit = room.fits; is_limit = record { surely = omega arith; within = le-max_left room.fits room.capacity }; refused = some.1 ∙ ap Some is }
]
