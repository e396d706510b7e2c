-- What tokens spell as data of a shape is data of that shape.
use Rattle.std.proofs.Common.{ℕ, Option, None, ◌≡◌, List, [], ◌∷◌, ◌++◌, sym, ap, subst, ◌∙◌}
use Rattle.std.proofs.lemmas.List.{append_assoc}
use Rattle.rdata_fields.specs.Fields.{field_form}
use Rattle.rdata_fields.specs.Parsing.{SpellsFields}
use Rattle.rdata_fields.specs.declared.field.Field.{Field}
use Rattle.rdata_fields.specs.declared.field.Field.TheVariants.{Number8 as OfNumber8, Number16 as OfNumber16, Number32 as OfNumber32, Interval as OfInterval, Ipv4 as OfIpv4, Ipv6 as OfIpv6, RecordType as OfRecordType, SigType as OfSigType, Algorithm as OfAlgorithm, CertificateType as OfCertificateType, SyncScheme as OfSyncScheme, Eui48 as OfEui48, Eui64 as OfEui64, Time as OfTime, Locator as OfLocator, String as OfString, PsdnAddress as OfPsdnAddress, Tag as OfTag, Salt as OfSalt, Hash as OfHash, Name as OfName}
use Rattle.rdata_fields.proofs.FormLaws.{fields_are_forms}
use Rattle.rdata_fields.proofs.Refused.{fields_front}
use Rattle.rdata_tokens.specs.NameSpelling.{IsOrigin}
use Rattle.dns_lexer.specs.EntryTokens.{TokenSeen}
use Rattle.rdata.specs.Data.{IsTextData, SpellsData}
use Rattle.rdata.specs.DataLaws.{AreSpelledData}
use Rattle.rdata.specs.RestKinds.{rest_form}
use Rattle.rdata.specs.RestLaws.{HoldOctets}
use Rattle.rdata.specs.Wire.{BeginsWithFields}
use Rattle.rdata.specs.declared.shape.Shape.{Shape}
use Rattle.rdata.proofs.Reading.{rest_once}
use Rattle.rdata.proofs.RestForms.{rest_is_wire, wire_of_rest}

-- the octets that a field can have don't depend on the origin
wire_of_field : (origin : Option (List (List ℕ))) (f : Field) (octets : List ℕ) → (field_form origin f).is_wire octets → (field_form None f).is_wire octets
wire_of_field origin OfNumber8 octets h = h
wire_of_field origin OfNumber16 octets h = h
wire_of_field origin OfNumber32 octets h = h
wire_of_field origin OfInterval octets h = h
wire_of_field origin OfIpv4 octets h = h
wire_of_field origin OfIpv6 octets h = h
wire_of_field origin OfRecordType octets h = h
wire_of_field origin OfSigType octets h = h
wire_of_field origin OfAlgorithm octets h = h
wire_of_field origin OfCertificateType octets h = h
wire_of_field origin OfSyncScheme octets h = h
wire_of_field origin OfEui48 octets h = h
wire_of_field origin OfEui64 octets h = h
wire_of_field origin OfTime octets h = h
wire_of_field origin OfLocator octets h = h
wire_of_field origin OfString octets h = h
wire_of_field origin OfPsdnAddress octets h = h
wire_of_field origin OfTag octets h = h
wire_of_field origin OfSalt octets h = h
wire_of_field origin OfHash octets h = h
wire_of_field origin OfName octets h = h

first_hold : (first last : List TokenSeen) → HoldOctets (first ++ last) → HoldOctets first
first_hold [] last h = tt
first_hold (t ∷ ts) last h = (h.0, first_hold ts last h.1)

last_hold : (first last : List TokenSeen) → HoldOctets (first ++ last) → HoldOctets last
last_hold [] last h = h
last_hold (t ∷ ts) last h = last_hold ts last h.1

module _ (origin : Option (List (List ℕ))) (is : IsOrigin origin) where
  fields_are_wire : (fields : List Field) (tokens : List TokenSeen) (front back : List ℕ) → HoldOctets tokens → SpellsFields origin fields tokens front → BeginsWithFields fields (front ++ back) back
  fields_are_wire [] [] front back h k = ap (λ o. o ++ back) k
  fields_are_wire [] (t ∷ ts) front back h k = absurd k
  fields_are_wire (f ∷ fs) [] front back h k = absurd k
  fields_are_wire (f ∷ fs) (t ∷ ts) front back h k = (
    k.0,
    k.1 ++ back,
    ap (λ o. o ++ back) k.2 ∙ append_assoc k.0 k.1 back,
    wire_of_field origin f k.0 ((fields_are_forms origin is f).are_wire t.is_quoted t.text k.0 h.0 k.3),
    fields_are_wire fs ts k.1 back h.1 k.4,
  )

  module _ (shape : Shape) (tokens : List TokenSeen) where
    data_of_shape : (octets : List ℕ) → HoldOctets tokens → SpellsData origin shape tokens octets → IsTextData shape octets
    data_of_shape octets h sp =
        let held : HoldOctets (sp.first ++ sp.last) = subst HoldOctets sp.tokens_are h in record {
          back = sp.back;
          fields = subst (λ o. BeginsWithFields shape.fields.now o sp.back) (sym sp.octets_are) (fields_are_wire shape.fields.now sp.first sp.front sp.back (first_hold sp.first sp.last held) sp.fields);
          rest = wire_of_rest origin shape.rest sp.back (rest_is_wire origin is shape.rest sp.last sp.back (last_hold sp.first sp.last held) sp.rest);
          lengths = sp.lengths;
        }

    data_once : (a b : List ℕ) → SpellsData origin shape tokens a → SpellsData origin shape tokens b → a ≡ b
    data_once a b h k =
        let same = fields_front origin shape.fields.now h.first h.last k.first k.last h.front k.front h.fields k.fields (sym h.tokens_are ∙ k.tokens_are) in
        let behind : h.back ≡ k.back = rest_once origin shape.rest k.last h.back k.back (subst (λ l. (rest_form origin shape.rest).spells l h.back) same.1 h.rest) k.rest in
        h.octets_are ∙ ap (λ o. o ++ h.back) same.2 ∙ ap (λ o. k.front ++ o) behind ∙ sym k.octets_are

pub data_are_spelled : AreSpelledData
data_are_spelled origin is shape = record {
  are_data = λ tokens octets h sp. data_of_shape origin is shape tokens octets h sp;
  once = λ tokens a b h k. data_once origin is shape tokens a b h k;
}
