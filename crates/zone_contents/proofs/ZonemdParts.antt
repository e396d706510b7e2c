-- The fields of ZONEMD data.
use Rattle.std.proofs.Common.{ℕ, zero, suc, ◌≡◌, ◌<◌, ◌≤◌, ◌+◌, Some, List, [], ◌∷◌, ◌++◌, length, take, drop, get_or, refl, sym, ap, subst, ◌∙◌, arith, length-append}
use Rattle.std.specs.Prelude.{All, codes}
use Rattle.std.specs.Int.{from_be_bytes, to_be_bytes, w32}
use Rattle.std.proofs.lemmas.Nat.{be_bytes_4}
use Rattle.std.proofs.lemmas.List.Elements.{recursion_from_All}
use Rattle.rdata_tokens.specs.declared.digests.Digests.TheVariants.{Zonemd}
use Rattle.rdata_values.specs.Rtype as Rtype
use Rattle.rdata_fields.specs.declared.field.Field.TheVariants.{Number8, Number32}
use Rattle.rdata.specs.ByType.{HasShape, shape_of_code}
use Rattle.rdata.specs.Types.{TypeShape, type_shape, type_shapes}
use Rattle.rdata.specs.declared.rest.Rest.TheVariants.{Hex}
use Rattle.rdata.specs.declared.shape.LengthRule.TheVariants.{Digest}
use Rattle.zone_record.specs.TypeData.{IsTypeData, TypeData}
use Rattle.zone_record.proofs.DataBack.{shape_with}

abbrev zonemd_shape : TypeShape
zonemd_shape = type_shape Rtype.zonemd (Number32 ∷ Number8 ∷ Number8 ∷ []) Hex (Digest Zonemd 5) (codes "serial" ∷ codes "scheme" ∷ codes "hash algorithm" ∷ codes "digest" ∷ [])

zonemd_found : shape_of_code Rtype.zonemd ≡ Some zonemd_shape
unfolding type_shapes
zonemd_found = refl

long_of : (octets : List ℕ) → IsTypeData Rtype.zonemd octets → 6 ≤ length octets
long_of octets is =
    let own = is.shaped (shape_with zonemd_shape) (subst (λ f. HasShape f (shape_with zonemd_shape)) (sym zonemd_found) (refl, refl, refl)) in
    let serial = own.fields in
    let scheme = serial.4 in
    let hash = scheme.4 in
    let first : length octets ≡ length serial.0 + length serial.1 = ap length serial.2 ∙ length-append serial.0 serial.1 in
    let second : length serial.1 ≡ length scheme.0 + length scheme.1 = ap length scheme.2 ∙ length-append scheme.0 scheme.1 in
    let third : length scheme.1 ≡ length hash.0 + length hash.1 = ap length hash.2 ∙ length-append hash.0 hash.1 in
    omega (arith, first, second, third, serial.3.0, scheme.3.0, hash.3.0)

-- a serial, a scheme and a hash algorithm come first
pub zonemd_long : (d : TypeData) → d.rtype ≡ Rtype.zonemd → IsTypeData d.rtype d.octets → 6 ≤ length d.octets
zonemd_long d same is = long_of d.octets (subst (λ c. IsTypeData c d.octets) same is)

four : (a b c d : ℕ) → a < 256 → b < 256 → c < 256 → d < 256 → (i : ℕ) → get_or (a ∷ b ∷ c ∷ d ∷ []) i 0 < 256
four a b c d p q r s zero = p
four a b c d p q r s (suc zero) = q
four a b c d p q r s (suc (suc zero)) = r
four a b c d p q r s (suc (suc (suc zero))) = s
four a b c d p q r s (suc (suc (suc (suc i)))) = omega arith

whole : (a b c d e f : ℕ) (digest : List ℕ) (serial : ℕ) → All (λ o. o < 256) (a ∷ b ∷ c ∷ d ∷ e ∷ f ∷ digest) → serial ≡ from_be_bytes w32 (a ∷ b ∷ c ∷ d ∷ [])
    → a ∷ b ∷ c ∷ d ∷ e ∷ f ∷ digest ≡ to_be_bytes w32 serial ++ e ∷ f ∷ digest
whole a b c d e f digest serial small is =
    let values = recursion_from_All (λ o. o < 256) (a ∷ b ∷ c ∷ d ∷ e ∷ f ∷ digest) small in
    ap (λ l. l ++ e ∷ f ∷ digest) (sym (be_bytes_4 (a ∷ b ∷ c ∷ d ∷ []) serial refl (four a b c d values.0 values.1.0 values.1.1.0 values.1.1.1.0) is))

-- ZONEMD data by its fields
pub zonemd_whole : (octets : List ℕ) (front digest : List ℕ) (serial : ℕ) → 6 ≤ length octets → front ≡ take 6 octets → digest ≡ drop 6 octets → All (λ o. o < 256) octets
    → serial ≡ from_be_bytes w32 (get_or front 0 0 ∷ get_or front 1 0 ∷ get_or front 2 0 ∷ get_or front 3 0 ∷ []) → octets ≡ to_be_bytes w32 serial ++ get_or front 4 0 ∷ get_or front 5 0 ∷ digest
zonemd_whole [] front digest serial long p q small is = absurd (omega (arith, long))
zonemd_whole (a ∷ []) front digest serial long p q small is = absurd (omega (arith, long))
zonemd_whole (a ∷ b ∷ []) front digest serial long p q small is = absurd (omega (arith, long))
zonemd_whole (a ∷ b ∷ c ∷ []) front digest serial long p q small is = absurd (omega (arith, long))
zonemd_whole (a ∷ b ∷ c ∷ d ∷ []) front digest serial long p q small is = absurd (omega (arith, long))
zonemd_whole (a ∷ b ∷ c ∷ d ∷ e ∷ []) front digest serial long p q small is = absurd (omega (arith, long))
zonemd_whole (a ∷ b ∷ c ∷ d ∷ e ∷ f ∷ rest) front digest serial long p q small is =
    let same : from_be_bytes w32 (get_or front 0 0 ∷ get_or front 1 0 ∷ get_or front 2 0 ∷ get_or front 3 0 ∷ []) ≡ from_be_bytes w32 (a ∷ b ∷ c ∷ d ∷ []) =
    ap (λ l. from_be_bytes w32 (get_or l 0 0 ∷ get_or l 1 0 ∷ get_or l 2 0 ∷ get_or l 3 0 ∷ [])) p in
    whole a b c d e f rest serial small (is ∙ same) ∙ sym (λ i. to_be_bytes w32 serial ++ get_or (p i) 4 0 ∷ get_or (p i) 5 0 ∷ q i)
