-- Salts parse as they print.
use Rattle.std.proofs.Common.{ℕ, ◌≡◌, ◌<◌, ◌≤◌, List, [], ◌∷◌, length, refl, sym, arith, ap, ◌∙◌, inl, inr}
use Rattle.std.specs.Prelude.{All}
use Rattle.rdata_values.specs.Salt.{SpellsSalt, salt_text, SaltsAreKind}
use Rattle.rdata_values.proofs.HexLaws.{is_hex, one_way}
use Rattle.rdata_values.proofs.ReadBack.{is_kind}

own : (octets : List ℕ) → All (λ o. o < 256) octets → length octets ≤ 255 → SpellsSalt (salt_text octets) octets
own [] small short = inl (refl, refl)
own (o ∷ os) small short = inr (is_hex (o ∷ os) small, omega arith, short)

once : (text os ps : List ℕ) → SpellsSalt text os → SpellsSalt text ps → os ≡ ps
once text os ps (inl h) (inl k) = h.1 ∙ sym k.1
once text os ps (inl h) (inr k) = let one = ap length h.0 in let whole = k.0.whole in absurd (omega (arith, one, whole))
once text os ps (inr h) (inl k) = let one = ap length k.0 in let whole = h.0.whole in absurd (omega (arith, one, whole))
once text os ps (inr h) (inr k) = let whole = h.0.whole in let other = k.0.whole in one_way 2 text os ps (omega (arith, whole, other)) h.0.pairs k.0.pairs

pub salts_are_kind : SaltsAreKind
salts_are_kind = is_kind (λ octets. All (λ o. o < 256) octets × (length octets ≤ 255)) SpellsSalt salt_text (λ octets h. own octets h.0 h.1) once
