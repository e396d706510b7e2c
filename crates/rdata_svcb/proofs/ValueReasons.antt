-- A text that spells no value of a kind has one reason.
use Rattle.std.proofs.Common.{ℕ, ◌≡◌, List, [], sym, subst, ◌∙◌, inl, inr, append-nil}
use Rattle.std.specs.Prelude.{◌^◌}
use Rattle.dns_codec.specs.Base.{base64}
use Rattle.rdata_tokens.specs.Spelled.{SpellsDigits}
use Rattle.rdata_fields.proofs.FieldErrors.{bad_or_spelled, number_once, reason_or_number}
use Rattle.rdata_values.specs.declared.error.ErrorKind.{ErrorKind}
use Rattle.rdata_svcb.specs.OneReason.{HaveValuesOneReason}
use Rattle.rdata_svcb.specs.ParamRefusals.{DigitsReason, ValueReason}
use Rattle.rdata_svcb.specs.ParamValues.{SpellsIpv4, SpellsIpv6, SpellsValue}
use Rattle.rdata_svcb.specs.declared.keys.ValueKind.{ValueKind}
use Rattle.rdata_svcb.specs.declared.keys.ValueKind.TheVariants.{Keys, Strings, Nothing, Port, Ipv4, Digits, Ipv6, Octets}
use Rattle.rdata_values.specs.declared.error.ErrorKind.TheVariants.{ExpectedIpv4, ExpectedIpv6}
use Rattle.rdata_svcb.proofs.Fronts.{ipv4_once, ipv6_once}
use Rattle.rdata_svcb.proofs.KeyReasons.{items_apart, keys_apart, keys_reason_once}
use Rattle.rdata_svcb.proofs.ListReasons.{strings_apart, strings_reason_once}

digits_once : (text : List ℕ) (a b : ErrorKind) → DigitsReason text a → DigitsReason text b → a ≡ b
digits_once text a b (inl h) (inl k) = h.0 ∙ sym k.0
digits_once text a b (inl h) (inr k) = absurd (k.1 h.1)
digits_once text a b (inr h) (inl k) = absurd (h.1 k.1)
digits_once text a b (inr (inl h, x)) (inr (inl k, y)) = h.0 ∙ sym k.0
digits_once text a b (inr (inl h, x)) (inr (inr k, y)) = absurd (h.1 k.1)
digits_once text a b (inr (inr h, x)) (inr (inl k, y)) = absurd (k.1 h.1)
digits_once text a b (inr (inr h, x)) (inr (inr k, y)) = h.0 ∙ sym k.0

digits_apart : (text octets : List ℕ) (e : ErrorKind) → DigitsReason text e → SpellsDigits base64 text octets → ⊥
digits_apart text octets e (inl h) s = h.2 octets s
digits_apart text octets e (inr h) s = h.1 ([], octets, subst (λ t. SpellsDigits base64 t octets) (sym (append-nil text)) s)

pub value_reason_once : (kind : ValueKind) (text : List ℕ) (a b : ErrorKind) → ValueReason kind text a → ValueReason kind text b → a ≡ b
value_reason_once Keys text a b h k = keys_reason_once text a b h k
value_reason_once Strings text a b h k = strings_reason_once text a b h k
value_reason_once Nothing text a b h k = h.0 ∙ sym k.0
value_reason_once Port text a b h k = number_once (2 ^ 16) text a b h k
value_reason_once Ipv4 text a b h k = h.3 ∙ sym k.3
value_reason_once Digits text a b h k = digits_once text a b h k
value_reason_once Ipv6 text a b h k = h.3 ∙ sym k.3
value_reason_once Octets text a b h k = h.0 ∙ sym k.0

pub value_apart : (kind : ValueKind) (text octets : List ℕ) (e : ErrorKind) → ValueReason kind text e → SpellsValue kind text octets → ⊥
value_apart Keys text octets e h s = keys_apart text octets e h s
value_apart Strings text octets e h s = strings_apart text octets e h s
value_apart Nothing text octets e h s = h.1 s.0
value_apart Port text octets e h s = reason_or_number (2 ^ 16) text s.0 e h s.2
value_apart Ipv4 text octets e h s = items_apart SpellsIpv4 (λ item e. e ≡ ExpectedIpv4) ipv4_once text octets e h s
value_apart Digits text octets e h s = digits_apart text octets e h s
value_apart Ipv6 text octets e h s = items_apart SpellsIpv6 (λ item e. e ≡ ExpectedIpv6) ipv6_once text octets e h s
value_apart Octets text octets e h s = bad_or_spelled text octets h.1 s

pub values_one_reason : HaveValuesOneReason
values_one_reason = record { once = value_reason_once; apart = value_apart }
