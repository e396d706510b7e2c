-- The property that distinguishes the encodings: padding.
use Rattle.std.proofs.Common.{◌≡◌, ℕ, ◌+◌, ◌==◌, ◌&&◌, nat_lt, nat_le, Bool, true, false, if◌then◌else◌, List, length, Option, Some, None, refl, sym, ap, subst, ◌∙◌, inl, inr}
use Rattle.std.proofs.lemmas.Bool.{cases_Bool, and_right}
use Rattle.dns_octets.specs.Room.{Room}
use Rattle.dns_codec.specs.Base.{Base, base64, value, IsEncoding}
use Rattle.dns_codec.specs.Errors.{or_else}
use Rattle.dns_codec.specs.Group.{Group, step_from, character_step}
use Rattle.dns_codec.specs.Decoding.{DecoderState, PushesAfter}
use Rattle.dns_codec.specs.declared.error.DecodeError.{DecodeError}
use Rattle.dns_codec.specs.declared.base64.Padding.{Padding}
use Rattle.dns_codec.specs.declared.base64.Padding.TheVariants.{Absent, One, Complete}

pub unit_one : (b : Base) → IsEncoding b → nat_lt 1 b.unit ≡ false → b.unit ≡ 1
unit_one b (inl is) none = ap (λ (x : Base). x.unit) is
unit_one b (inr (inl is)) none = ap (λ (x : Base). x.unit) is
unit_one b (inr (inr is)) none = let bad : true ≡ false = sym (ap (λ (x : Base). nat_lt 1 x.unit) is) ∙ none in cc bad

pub is_base64 : (b : Base) → IsEncoding b → nat_lt 1 b.unit ≡ true → b ≡ base64
is_base64 b (inl is) some = let bad : false ≡ true = sym (ap (λ (x : Base). nat_lt 1 x.unit) is) ∙ some in cc bad
is_base64 b (inr (inl is)) some = let bad : false ≡ true = sym (ap (λ (x : Base). nat_lt 1 x.unit) is) ∙ some in cc bad
is_base64 b (inr (inr is)) some = is

-- ---- without padding there never is any

module _ (b : Base) (unpadded : nat_lt 1 b.unit ≡ false) where
  absent_by : (ps : List ℕ) (p : Padding) (c : ℕ) (o : Option ℕ) → p ≡ Absent → (step_from b ps p c o).group.padding ≡ Absent
  absent_by ps Absent c (Some v) is = elim (cases_Bool (length ps + 1 == b.group)) [ inl last ↦ rw last refl | inr more ↦ rw more refl ]
  absent_by ps Absent c None is =
      let none : (nat_lt 1 b.unit && nat_le 2 (length ps)) ≡ false = ap (λ (x : Bool). x && nat_le 2 (length ps)) unpadded in
      rw (and_right (c == 61) (nat_lt 1 b.unit && nat_le 2 (length ps)) none) refl
  absent_by ps One c o is = cc
  absent_by ps Complete c o is = cc

  absent_step : (g : Group) (c : ℕ) → g.padding ≡ Absent → (character_step b g c).group.padding ≡ Absent
  absent_step g c is = absent_by g.digits g.padding c (value b c) is

  pub stays_absent : (room : Room) (old new : DecoderState) (c : ℕ) (x : Option DecodeError) → old.group.padding ≡ Absent → PushesAfter b room x old c new → new.group.padding ≡ Absent
  stays_absent room old new c None absent push = ap (λ (g : Group). g.padding) push.group ∙ absent_step old.group c absent
  stays_absent room old new c (Some e) absent push =
      let other : DecoderState = record { octets = old.octets; group = (character_step b old.group c).group; error = or_else (character_step b old.group c).error (Some e) } in
      elim (cases_Bool b.keeps_first) [
        | inl keeps ↦ ap (λ (d : DecoderState). d.group.padding) (subst (λ (x : Bool). new ≡ (if x then old else other)) keeps push) ∙ absent
        | inr goes ↦ ap (λ (d : DecoderState). d.group.padding) (subst (λ (x : Bool). new ≡ (if x then old else other)) goes push) ∙ absent_step old.group c absent
      ]
