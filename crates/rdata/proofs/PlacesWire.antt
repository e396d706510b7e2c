-- What tokens spell of address prefixes and gateways are octets of their forms.
use Rattle.std.proofs.Common.{ℕ, Option, None, List, [], ◌∷◌, ◌++◌, ap, subst, ◌∙◌, inl, inr}
use Rattle.std.specs.Prelude.{slice_index}
use Rattle.rdata_fields.specs.declared.field.Field.TheVariants.{Number8 as OfNumber8}
use Rattle.rdata_fields.proofs.FormLaws.{fields_are_forms}
use Rattle.rdata_tails.proofs.PrefixLaws.{prefixes_are_read}
use Rattle.rdata_tokens.specs.NameSpelling.{IsOrigin}
use Rattle.rdata_tokens.specs.Spelling.{AreOctetValues}
use Rattle.rdata_tokens.proofs.NameLaws.{names_spelled}
use Rattle.dns_lexer.specs.EntryTokens.{TokenSeen}
use Rattle.rdata.specs.GatewayKeys.{octet_form, gateway_type_form, gateway_form, gateway_key_form, key_form}
use Rattle.rdata.specs.PrefixLists.{prefix_form, prefixes_form}
use Rattle.rdata.specs.RestLaws.{HoldOctets}
use Rattle.rdata.specs.Rests.{RestForm}
use Rattle.rdata.specs.TokenForms.{TokenForm, SpellOctets, AreParts, SpellsThen, IsThen}
use Rattle.rdata.proofs.GatewayLaws.{behind_algorithm, behind_type}

pub each_wire : (f : TokenForm) → ((t : TokenSeen) (octets : List ℕ) → AreOctetValues t.text → f.spells t octets → f.is_wire octets)
    → (tokens : List TokenSeen) (octets : List ℕ) → HoldOctets tokens → SpellOctets f tokens octets → AreParts f.is_wire octets
each_wire f each [] octets h k = ([], tt, k)
each_wire f each (t ∷ ts) octets h k =
    let rest = each_wire f each ts k.1 h.1 k.4 in
    (k.0 ∷ rest.0, (each t k.0 h.0 k.3, rest.1), k.2 ∙ ap (λ o. k.0 ++ o) rest.2)

pub then_wire : (f : TokenForm) (behind : List ℕ → RestForm) → ((t : TokenSeen) (octets : List ℕ) → AreOctetValues t.text → f.spells t octets → f.is_wire octets)
    → ((front : List ℕ) (tokens : List TokenSeen) (octets : List ℕ) → HoldOctets tokens → (behind front).spells tokens octets → (behind front).is_wire octets)
    → (tokens : List TokenSeen) (octets : List ℕ) → HoldOctets tokens → SpellsThen f behind tokens octets → IsThen f behind octets
then_wire f behind each rest tokens octets h k =
    let held : HoldOctets (k.first ∷ k.last) = subst HoldOctets k.tokens_are h in
    record { front = k.front; back = k.back; octets_are = k.octets_are; is_wire = each k.first k.front held.0 k.spelled; rest = rest k.front k.last k.back held.1 k.rest }

pub prefixes_are_wire : (tokens : List TokenSeen) (octets : List ℕ) → HoldOctets tokens → prefixes_form.spells tokens octets → prefixes_form.is_wire octets
prefixes_are_wire tokens octets h k = each_wire prefix_form (λ t octets values s. (s.1.0, prefixes_are_read.valid t.text s.1.0 s.1.1, s.1.2)) tokens octets h k

module _ (origin : Option (List (List ℕ))) (is : IsOrigin origin) where
  octet_wire : (t : TokenSeen) (octets : List ℕ) → AreOctetValues t.text → octet_form.spells t octets → octet_form.is_wire octets
  octet_wire t octets values s = (fields_are_forms None tt OfNumber8).are_wire t.is_quoted t.text octets values s

  gateway_wire : (number : ℕ) (t : TokenSeen) (octets : List ℕ) → AreOctetValues t.text → (gateway_form origin number).spells t octets → (gateway_form None number).is_wire octets
  gateway_wire number t octets values (inl s) = inl (s.0, (names_spelled origin is).spelled t.text octets values s.1.1)
  gateway_wire number t octets values (inr s) = inr (s.1.0, s.1.1.0, s.1.1.1, s.1.2)

  key_wire : (algorithm : ℕ) (tokens : List TokenSeen) (octets : List ℕ) → HoldOctets tokens → (key_form algorithm).spells tokens octets → (key_form algorithm).is_wire octets
  key_wire algorithm tokens octets h k = (k.0.1.bytes, k.1)

  algorithm_wire : (number algorithm : ℕ) (tokens : List TokenSeen) (octets : List ℕ) → HoldOctets tokens → (behind_algorithm origin number algorithm).spells tokens octets → (behind_algorithm origin number algorithm).is_wire octets
  algorithm_wire number algorithm tokens octets h k = then_wire (gateway_form origin number) (λ gateway. key_form algorithm) (gateway_wire number) (λ front. key_wire algorithm) tokens octets h k

  type_wire : (number : ℕ) (tokens : List TokenSeen) (octets : List ℕ) → HoldOctets tokens → (behind_type origin number).spells tokens octets → (behind_type origin number).is_wire octets
  type_wire number tokens octets h k =
      then_wire octet_form (λ algorithm. behind_algorithm origin number (slice_index algorithm 0)) octet_wire (λ front. algorithm_wire number (slice_index front 0)) tokens octets h k

  pub gateway_key_is_wire : (tokens : List TokenSeen) (octets : List ℕ) → HoldOctets tokens → (gateway_key_form origin).spells tokens octets → (gateway_key_form origin).is_wire octets
  gateway_key_is_wire tokens octets h k =
      then_wire gateway_type_form (λ number. behind_type origin (slice_index number 0)) (λ t octets values s. (octet_wire t octets values s.0, s.1)) (λ front. type_wire (slice_index front 0)) tokens octets h k

pub same_key_wire : (origin : Option (List (List ℕ))) (octets : List ℕ) → (gateway_key_form origin).is_wire octets → (gateway_key_form None).is_wire octets
same_key_wire origin octets h = record {
  front = h.front;
  back = h.back;
  octets_are = h.octets_are;
  is_wire = h.is_wire;
  rest = record {
    front = h.rest.front;
    back = h.rest.back;
    octets_are = h.rest.octets_are;
    is_wire = h.rest.is_wire;
    rest = record { front = h.rest.rest.front; back = h.rest.rest.back; octets_are = h.rest.rest.octets_are; is_wire = h.rest.rest.is_wire; rest = h.rest.rest.rest };
  };
}
