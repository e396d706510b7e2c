-- What gateways and keys print as.
use Rattle.std.proofs.Common.{ℕ, ◌≡◌, ◌≢◌, ◌+◌, ◌-◌, ◌≤◌, Some, None, List, [], ◌∷◌, length, take, drop, sym, ap, subst, ◌∙◌, inl, inr, arith, append-nil, length-append, length-drop}
use Rattle.std.specs.Fmt.{decimal}
use Rattle.std.specs.Prelude.{slice_index}
use Rattle.dns_codec.specs.Base.{base64}
use Rattle.rdata_tokens.proofs.Pieces.{rest_of}
use Rattle.rdata_tails.specs.Gateways.{gateway_octets, gateway_text, BeginsWithGateway}
use Rattle.rdata_tails.specs.declared.gateway.Gateway.{Gateway}
use Rattle.rdata_tails.proofs.GatewayLaws.{gateways_are_read}
use Rattle.rdata_tokens.specs.Forms.{FindsWidth}
use Rattle.rdata.specs.Digits.{printed_digits}
use Rattle.rdata.specs.GatewayKeys.{plain_word, gateway_size, gateway_word, gateway_form, gateway_key_form}
use Rattle.rdata.proofs.GatewayLaws.{IsKeyed, keyed, gateway_width_is, two_in_front}
use Rattle.rdata.proofs.PlacesBack.{gateway_sized, word_is}
use Rattle.rdata.proofs.Sizes.{name_sized}

-- ---- a gateway that is not a name

record HasOwn (number : ℕ) (octets : List ℕ) : Type 0 where
  gateway : Gateway
  front : BeginsWithGateway number octets gateway
  whole : octets ≡ gateway_octets gateway

own_of : (number : ℕ) (octets : List ℕ) → number ≢ 3 → (gateway_form None number).is_wire octets → HasOwn number octets
own_of number octets other (inl name) = absurd (other name.0)
own_of number octets other (inr own) = record { gateway = own.0; front = (own.1, own.2, [], own.3 ∙ sym (append-nil (gateway_octets own.0))); whole = own.3 }

-- octets that are a gateway print as that one
pub gateway_shown : (number : ℕ) (octets : List ℕ) (g : Gateway) → number ≢ 3 → (gateway_form None number).is_wire octets → BeginsWithGateway number octets g → gateway_word number octets ≡ gateway_text g
gateway_shown number octets g other is front =
    let own = own_of number octets other is in
    let same : own.gateway ≡ g = gateways_are_read.one_front number octets own.gateway g own.front front in
    word_is g number octets (sym front.1) (own.whole ∙ ap gateway_octets same)

pub gateway_there : (number : ℕ) (octets : List ℕ) → number ≢ 3 → (gateway_form None number).is_wire octets → ((g : Gateway) → BeginsWithGateway number octets g → ⊥) → ⊥
gateway_there number octets other is none = let own = own_of number octets other is in none own.gateway own.front

-- ---- the gateway after a type and an algorithm

pub record IsGatewayFront (octets : List ℕ) (width : ℕ) : Type 0 where
  pub size : width ≡ gateway_size (slice_index octets 0) (drop 2 octets)
  pub is_wire : (gateway_form None (slice_index octets 0)).is_wire (take width (drop 2 octets))
  pub fits : 2 + width ≤ length octets

-- the octets after both, as they are cut off
abbrev pub rest_of_key : List ℕ → List ℕ
rest_of_key octets = take (length octets - 2) (drop 2 octets)

module _ (octets : List ℕ) (is : (gateway_key_form None).is_wire octets) where
  pub key_long : 2 ≤ length octets
  key_long =
      let all = ap length is.octets_are in
      let behind = ap length is.rest.octets_are in
      omega (arith, all, behind, is.is_wire.0.0, is.rest.is_wire.0, length-append is.front is.back, length-append is.rest.front is.rest.back)

  key_parts : IsKeyed (slice_index octets 0) (slice_index octets 1) (drop 2 octets)
  key_parts = keyed (slice_index octets 0) (slice_index octets 1) (drop 2 octets) (subst (gateway_key_form None).is_wire (two_in_front octets key_long) is)

  cut_is : take (length octets - 2) (drop 2 octets) ≡ drop 2 octets
  cut_is = rest_of 2 octets

  pub gateway_front_is : (width : ℕ) → FindsWidth (gateway_form None (slice_index octets 0)).is_wire (take (length octets - 2) (drop 2 octets)) (Some width) → IsGatewayFront octets width
  gateway_front_is width cut =
      let number = slice_index octets 0 in
      let rest : List ℕ = drop 2 octets in
      let k = key_parts in
      let found : FindsWidth (gateway_form None number).is_wire rest (Some width) = subst (λ o. FindsWidth (gateway_form None number).is_wire o (Some width)) cut_is cut in
      let same : Some width ≡ Some (length k.gateway) = gateway_width_is number k.gateway k.key (Some width) k.is_wire (subst (λ o. FindsWidth (gateway_form None number).is_wire o (Some width)) k.split found) in
      let long : width ≡ length k.gateway = cc same in
      record {
        size = long ∙ sym (ap (gateway_size number) k.split ∙ gateway_sized name_sized number k.gateway k.key k.is_wire);
        is_wire = found.1;
        fits = omega (arith, found.0, key_long, length-drop 2 octets);
      }

  pub gateway_in_front : FindsWidth (gateway_form None (slice_index octets 0)).is_wire (take (length octets - 2) (drop 2 octets)) None → ⊥
  gateway_in_front none = let k = key_parts in none k.gateway k.key k.is_wire (cut_is ∙ k.split)

  -- the tokens, if the gateway and the key are cut off
  pub key_tokens : (width : ℕ) → width ≡ gateway_size (slice_index octets 0) (drop 2 octets)
      → (gateway_key_form None).printed octets ≡
      plain_word (decimal (slice_index octets 0)) ∷ plain_word (decimal (slice_index octets 1)) ∷ (gateway_form None (slice_index octets 0)).printed (take width (rest_of_key octets))
      ∷ printed_digits base64 (take (length (rest_of_key octets) - width) (drop width (rest_of_key octets)))
  key_tokens width size =
      let number = slice_index octets 0 in
      let rest : List ℕ = drop 2 octets in
      let whole : take (length rest - width) (drop width rest) ≡ drop width rest = rest_of width rest in
      ap (gateway_key_form None).printed (two_in_front octets key_long)
      ∙ ap (λ n. plain_word (decimal number) ∷ plain_word (decimal (slice_index octets 1)) ∷ (gateway_form None number).printed (take n rest) ∷ printed_digits base64 (drop n rest)) (sym size)
      ∙ ap (λ key. plain_word (decimal number) ∷ plain_word (decimal (slice_index octets 1)) ∷ (gateway_form None number).printed (take width rest) ∷ printed_digits base64 key) (sym whole)
      ∙ ap (λ r. plain_word (decimal number) ∷ plain_word (decimal (slice_index octets 1)) ∷ (gateway_form None number).printed (take width r) ∷ printed_digits base64 (take (length r - width) (drop width r))) (sym cut_is)
