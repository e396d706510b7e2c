-- The lengths of encoded texts and of their values.
use Rattle.std.proofs.Common.{◌≡◌, ◌+◌, ◌*◌, ◌/◌, ◌%◌, ℕ, zero, suc, List, [], ◌∷◌, ◌++◌, length, map, slice_index, refl, sym, ap, ◌∙◌, arith, inl, inr, length-append}
use Rattle.dns_codec.specs.Base.{Base, base16, base32hex, base64, encoded, IsEncoding}
use Rattle.dns_codec.specs.Bits.{digits, whole}
use Rattle.dns_codec.specs.Grammar.{Decodes}
use Rattle.dns_codec.specs.Outcome.{octet_count}
use Rattle.dns_codec.proofs.Ends.{read_of}
use Rattle.dns_codec.proofs.Fitting.{digits_bounds}
use Rattle.dns_codec.proofs.Steps.{due_is}
use Rattle.dns_codec.proofs.Texts.{unpadded, no_padding, one_padding, two_padding, length_parts}

pub known16 : IsEncoding base16
known16 = inl refl

pub known32 : IsEncoding base32hex
known32 = inr (inl refl)

pub known64 : IsEncoding base64
known64 = inr (inr refl)

pub encoded16_length : (octets : List ℕ) → length (encoded base16 octets) ≡ 2 * length octets
encoded16_length octets =
    let parts = length_parts _ base16.alphabet (digits 4 octets) [] (unpadded base16 4 octets known16 refl refl) in
    let bounds = digits_bounds 4 octets (omega arith) in
    omega (arith, parts, bounds.0, bounds.1)

pub encoded32_length : (octets : List ℕ) → length (encoded base32hex octets) ≡ (8 * length octets + 4) / 5
encoded32_length octets =
    let parts = length_parts _ base32hex.alphabet (digits 5 octets) [] (unpadded base32hex 5 octets known32 refl refl) in
    let bounds = digits_bounds 5 octets (omega arith) in
    omega (arith, parts, bounds.0, bounds.1)

marked_length : (octets marks : List ℕ) → encoded base64 octets ≡ map (slice_index base64.alphabet) (digits 6 octets) ++ marks
    → length (encoded base64 octets) ≡ length (digits 6 octets) + length marks
marked_length octets marks is = length_parts _ base64.alphabet (digits 6 octets) marks is

by_rest : (octets : List ℕ) (r : ℕ) → length octets % 3 ≡ r → length (encoded base64 octets) ≡ (length octets + 2) / 3 * 4
by_rest octets zero is =
    let parts = marked_length octets [] (no_padding base64 6 octets known64 refl refl is) in
    let bounds = digits_bounds 6 octets (omega arith) in
    omega (arith, parts, bounds.0, bounds.1, is)
by_rest octets (suc zero) is =
    let parts = marked_length octets (61 ∷ 61 ∷ []) (two_padding base64 6 octets known64 refl refl is) in
    let bounds = digits_bounds 6 octets (omega arith) in
    omega (arith, parts, bounds.0, bounds.1, is)
by_rest octets (suc (suc zero)) is =
    let parts = marked_length octets (61 ∷ []) (one_padding base64 6 octets known64 refl refl is) in
    let bounds = digits_bounds 6 octets (omega arith) in
    omega (arith, parts, bounds.0, bounds.1, is)
by_rest octets (suc (suc (suc r))) is = absurd (omega (arith, is))

pub encoded64_length : (octets : List ℕ) → length (encoded base64 octets) ≡ (length octets + 2) / 3 * 4
encoded64_length octets = by_rest octets (length octets % 3) refl

-- a value has the number of octets that its text's length implies
pub decoded_length : (b : Base) → IsEncoding b → (text v : List ℕ) → Decodes b text v → length v ≡ octet_count b text
decoded_length b known text v d =
    let r = read_of b known text v d in
    ap length r.value_is ∙ length-append r.made (whole b.width r.digits) ∙ sym (due_is b known text r.made r.digits r.padding r.read)
