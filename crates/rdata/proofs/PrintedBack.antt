-- What RDATA prints as spells it.
use Rattle.std.proofs.Common.{ℕ, Bool, true, false, true≢false, ◌≡◌, ◌≢◌, ◌<◌, ◌==◌, ◌||◌, Option, None, List, [], ◌∷◌, ◌++◌, length, take, drop, map, refl, sym, ap, subst, ◌∙◌, arith, inl, inr, append_assoc, append-nil}
use Rattle.std.specs.Prelude.{All}
use Rattle.std.proofs.Math.Seq.{take-append_seam, drop-append_seam}
use Rattle.std.proofs.lemmas.Bool.{eqb-false}
use Rattle.std.proofs.lemmas.List.Elements.{All-head, All-tail}
use Rattle.dns_codec.specs.Base.{IsEncoding}
use Rattle.rdata_tokens.specs.Spelled.{base_of, SpellsDigits}
use Rattle.rdata_tokens.specs.declared.kind.DigitsKind.{DigitsKind}
use Rattle.rdata_tokens.specs.declared.kind.DigitsKind.TheVariants.{Hex as InHex, Base64 as InBase64}
use Rattle.rdata_tokens.proofs.Pieces.{nothing_spelled}
use Rattle.rdata_tokens.proofs.Spelling.{printed_spells}
use Rattle.rdata_fields.specs.Fields.{field_form}
use Rattle.rdata_fields.specs.Parsing.{SpellsField, SpellsFields, SpellsEach}
use Rattle.rdata_fields.specs.declared.field.Field.{Field}
use Rattle.rdata_fields.specs.declared.field.Field.TheVariants.{Number8, Number16, Number32, Interval, Ipv4, Ipv6, RecordType, SigType, Algorithm, CertificateType, SyncScheme, Eui48, Eui64, Time, Locator, String, PsdnAddress, Tag, Salt, Hash, Name}
use Rattle.rdata_fields.proofs.FormLaws.{fields_are_forms}
use Rattle.rdata_values.specs.Types.{portable_text, SpellsType}
use Rattle.rdata_values.proofs.CodeLaws.{portable_types_are_kind}
use Rattle.rdata_values.specs.Bitmap.{has, types_of}
use Rattle.rdata_values.proofs.TypesOf.{types_of_small, bitmap_of_types}
use Rattle.rdata_tokens.specs.NameSpelling.{IsOrigin}
use Rattle.rdata_tokens.specs.Spelling.{AreOctetValues, SpellsOctetList}
use Rattle.rdata_tokens.proofs.FormLaws.{octets_spelled}
use Rattle.dns_lexer.specs.EntryTokens.{TokenSeen}
use Rattle.rdata.specs.Data.{IsTextData, SpellsData}
use Rattle.rdata.specs.Digits.{SpellsJoined, printed_digits}
use Rattle.rdata.specs.Printing.{field_size, printed_parts, printed_data}
use Rattle.rdata.specs.RestKinds.{rest_form, strings_wire, strings_in_octets, AreShortStrings}
use Rattle.rdata.specs.Rests.{ArePrinted, PrintedToken}
use Rattle.rdata.specs.Texts.{AreText, text_form}
use Rattle.rdata.specs.TypeLists.{NameTypes, types_form}
use Rattle.rdata.specs.Wire.{BeginsWithFields}
use Rattle.rdata.specs.declared.rest.Rest.{Rest}
use Rattle.rdata.specs.declared.rest.Rest.TheVariants.{Nothing, Strings, MaybeString, Hex, Base64, Types, SomeTypes, Text, QuotedText, Location as OfLocation, Prefixes, GatewayKey, HostIdentity, Params, Nsap}
use Rattle.rdata.specs.declared.shape.Shape.{Shape}
use Rattle.rdata.proofs.LocationLemmas.{location_back}
use Rattle.rdata.proofs.HostWire.{host_back}
use Rattle.rdata.proofs.MaybeStringLaws.{maybe_string_back}
use Rattle.rdata.proofs.NsapRestLaws.{nsap_back}
use Rattle.rdata.proofs.ParamsRestLaws.{params_back}
use Rattle.rdata.proofs.PlacesBack.{prefixes_back, gateway_key_back}
use Rattle.rdata.proofs.PrintedStrings.{front_string, quoted_token}
use Rattle.rdata.proofs.Sizes.{field_sized, name_sized}
use Rattle.rdata.proofs.Textless.{text_printed}

text_back : (wants_quotes : Bool) (octets : List ℕ) (tokens : List TokenSeen) → AreOctetValues octets → ArePrinted ((text_form wants_quotes).printed octets) tokens → AreText wants_quotes tokens octets
text_back wants_quotes octets [] values p = absurd p
text_back wants_quotes octets (t ∷ []) values p = ((λ wants. p.0), subst (λ text. SpellsOctetList text octets) (sym p.1) (octets_spelled.back octets values))
text_back wants_quotes octets (t ∷ u ∷ ts) values p = absurd p.3

is_digits : (kind : DigitsKind) → IsEncoding (base_of kind)
is_digits InHex = inl refl
is_digits InBase64 = inr (inr refl)

digits_back : (kind : DigitsKind) (octets : List ℕ) (tokens : List TokenSeen) → AreOctetValues octets → ArePrinted (printed_digits (base_of kind) octets) tokens → SpellsJoined (base_of kind) tokens octets
digits_back kind [] [] values p = (tt, nothing_spelled kind)
digits_back kind [] (t ∷ ts) values p = absurd p
digits_back kind (o ∷ os) [] values p = absurd p
digits_back kind (o ∷ os) (t ∷ []) values p = (
  (p.0, tt),
  subst (λ text. SpellsDigits (base_of kind) text (o ∷ os)) (sym (append-nil t.text ∙ p.1)) (printed_spells (base_of kind) (is_digits kind) (o ∷ os) values),
)
digits_back kind (o ∷ os) (t ∷ u ∷ ts) values p = absurd p.3

-- the strings of their wire format
pub strings_again : (strings : List (List ℕ)) → strings_in_octets (strings_wire strings) ≡ strings
strings_again [] = refl
strings_again (s ∷ ss) =
    front_string (length s) (s ++ strings_wire ss)
    ∙ ap (λ first. first ∷ strings_in_octets (drop (length s) (s ++ strings_wire ss))) (take-append_seam s (strings_wire ss))
    ∙ ap (λ rest. s ∷ strings_in_octets rest) (drop-append_seam s (strings_wire ss))
    ∙ ap (λ rest. s ∷ rest) (strings_again ss)

each_back : (origin : Option (List (List ℕ))) (strings : List (List ℕ)) (tokens : List TokenSeen) → AreShortStrings strings → ArePrinted (map quoted_token strings) tokens
    → SpellsEach origin String tokens (strings_wire strings)
each_back origin [] [] short p = refl
each_back origin [] (t ∷ ts) short p = absurd p
each_back origin (s ∷ ss) [] short p = absurd p
each_back origin (s ∷ ss) (t ∷ ts) short p = (
  length s ∷ s,
  strings_wire ss,
  refl,
  record { octets = s; spelled = subst (λ text. SpellsOctetList text s) (sym p.1) (octets_spelled.back s short.0.0); short = short.0.1; whole = refl },
  each_back origin ss ts short.1 p.3,
)

abbrev type_token : ℕ → PrintedToken
type_token rtype = record { is_quoted = false; text = portable_text rtype }

not_zero : (rtype : ℕ) (types : List ℕ) → has (rtype ∷ types) 0 ≡ false → (rtype ≢ 0) × (has types 0 ≡ false)
not_zero rtype types h = by (rtype == 0) refl h
  where
    by : (b : Bool) → (rtype == 0) ≡ b → (b || has types 0) ≡ false → (rtype ≢ 0) × (has types 0 ≡ false)
    by true is h = absurd (true≢false h)
    by false is h = (eqb-false rtype 0 is, h)

named_back : (types : List ℕ) (tokens : List TokenSeen) → All (λ rtype. rtype < 65536) types → has types 0 ≡ false → ArePrinted (map type_token types) tokens → NameTypes tokens types
named_back [] [] small some p = tt
named_back [] (t ∷ ts) small some p = absurd p
named_back (rtype ∷ types) [] small some p = absurd p
named_back (rtype ∷ types) (t ∷ ts) small some p =
    let n = not_zero rtype types some in
    let low = All-head (λ c. c < 65536) rtype types small in (
      (p.0, subst (λ text. SpellsType text rtype) (sym p.1) (portable_types_are_kind.spelled (record { 0 = rtype }) (omega (arith, low))), n.0),
      named_back types ts (All-tail (λ c. c < 65536) rtype types small) n.1 p.3,
    )

types_back : (octets : List ℕ) (tokens : List TokenSeen) → types_form.is_wire octets → ArePrinted (types_form.printed octets) tokens → types_form.spells tokens octets
types_back octets tokens is p =
    let small = subst (λ o. All (λ rtype. rtype < 65536) (types_of o)) is.0.1 (types_of_small is.0.0) in
    (types_of octets, named_back (types_of octets) tokens small is.1 p, sym (bitmap_of_types octets is.0))

module _ (origin : Option (List (List ℕ))) (known : IsOrigin origin) where
  -- what a field prints as spells it, whatever the origin is
  field_back : (f : Field) (form : List ℕ) → (field_form None f).is_wire form → (field_form origin f).spells (field_form None f).quotes ((field_form None f).printed form) form
  field_back Number8 form is = (fields_are_forms origin known Number8).back form is
  field_back Number16 form is = (fields_are_forms origin known Number16).back form is
  field_back Number32 form is = (fields_are_forms origin known Number32).back form is
  field_back Interval form is = (fields_are_forms origin known Interval).back form is
  field_back Ipv4 form is = (fields_are_forms origin known Ipv4).back form is
  field_back Ipv6 form is = (fields_are_forms origin known Ipv6).back form is
  field_back RecordType form is = (fields_are_forms origin known RecordType).back form is
  field_back SigType form is = (fields_are_forms origin known SigType).back form is
  field_back Algorithm form is = (fields_are_forms origin known Algorithm).back form is
  field_back CertificateType form is = (fields_are_forms origin known CertificateType).back form is
  field_back SyncScheme form is = (fields_are_forms origin known SyncScheme).back form is
  field_back Eui48 form is = (fields_are_forms origin known Eui48).back form is
  field_back Eui64 form is = (fields_are_forms origin known Eui64).back form is
  field_back Time form is = (fields_are_forms origin known Time).back form is
  field_back Locator form is = (fields_are_forms origin known Locator).back form is
  field_back String form is = (fields_are_forms origin known String).back form is
  field_back PsdnAddress form is = (fields_are_forms origin known PsdnAddress).back form is
  field_back Tag form is = (fields_are_forms origin known Tag).back form is
  field_back Salt form is = (fields_are_forms origin known Salt).back form is
  field_back Hash form is = (fields_are_forms origin known Hash).back form is
  field_back Name form is = (fields_are_forms origin known Name).back form is

  rest_back : (r : Rest) (octets : List ℕ) (tokens : List TokenSeen) → (rest_form None r).is_wire octets → ArePrinted ((rest_form None r).printed octets) tokens → (rest_form origin r).spells tokens octets
  rest_back Nothing octets [] is p = (refl, is)
  rest_back Nothing octets (t ∷ ts) is p = absurd p
  rest_back Strings octets tokens is p =
      let strings = is.0.0 in
      let again : strings_in_octets octets ≡ strings = ap strings_in_octets is.0.2 ∙ strings_again strings in
      let each = each_back origin strings tokens is.0.1 (subst (λ l. ArePrinted (map quoted_token l) tokens) again p) in
      (subst (SpellsEach origin String tokens) (sym is.0.2) each, is.1)
  rest_back MaybeString octets tokens is p = maybe_string_back octets tokens is p
  rest_back Hex octets tokens is p = (digits_back InHex octets tokens is.0 p, is.1)
  rest_back Base64 octets tokens is p = (digits_back InBase64 octets tokens is.0 p, is.1)
  rest_back Nsap octets tokens is p = nsap_back octets tokens is p
  rest_back Types octets tokens is p = types_back octets tokens is p
  rest_back SomeTypes octets tokens is p = (types_back octets tokens is.0 p, is.1)
  rest_back Text octets tokens is p = text_back false octets tokens is p
  rest_back QuotedText octets tokens is p = text_back true octets tokens is p
  rest_back OfLocation octets tokens is p = location_back octets tokens is p
  rest_back Prefixes octets tokens is p = prefixes_back octets tokens is p
  rest_back GatewayKey octets tokens is p = gateway_key_back origin known name_sized (digits_back InBase64) octets tokens is p
  rest_back HostIdentity octets tokens is p = host_back origin known octets tokens is p
  rest_back Params octets tokens is p = params_back octets tokens is p

  -- tokens are those of fields, and of the tail after them
  record PartsBack (fields : List Field) (r : Rest) (octets back : List ℕ) (tokens : List TokenSeen) : Type 0 where
    pub first : List TokenSeen
    pub last : List TokenSeen
    pub front : List ℕ
    pub tokens_are : tokens ≡ first ++ last
    pub octets_are : octets ≡ front ++ back
    pub fields_are : SpellsFields origin fields first front
    pub rest_is : (rest_form origin r).spells last back

  parts_back : (fields : List Field) (r : Rest) (octets back : List ℕ) (tokens : List TokenSeen) → BeginsWithFields fields octets back → (rest_form None r).is_wire back
      → ArePrinted (printed_parts fields r octets) tokens → PartsBack fields r octets back tokens
  parts_back [] r octets back tokens b is p = record {
    first = [];
    last = tokens;
    front = [];
    tokens_are = refl;
    octets_are = b;
    fields_are = refl;
    rest_is = rest_back r back tokens is (subst (λ o. ArePrinted ((rest_form None r).printed o) tokens) b p);
  }
  parts_back (f ∷ fs) r octets back [] b is p = absurd p
  parts_back (f ∷ fs) r octets back (t ∷ ts) b is p =
      let form : List ℕ = b.0 in
      let more : List ℕ = b.1 in
      let sized : field_size f octets ≡ length form = ap (field_size f) b.2 ∙ field_sized f form more b.3 in
      let cut : take (field_size f octets) octets ≡ form = ap (λ n. take n octets) sized ∙ ap (take (length form)) b.2 ∙ take-append_seam form more in
      let behind : drop (field_size f octets) octets ≡ more = ap (λ n. drop n octets) sized ∙ ap (drop (length form)) b.2 ∙ drop-append_seam form more in
      let later = parts_back fs r more back ts b.4 is (subst (λ o. ArePrinted (printed_parts fs r o) ts) behind p.3) in
      let text : t.text ≡ (field_form None f).printed form = p.1 ∙ ap (field_form None f).printed cut in
      let spells : SpellsField origin f t form =
      subst (λ q. (field_form origin f).spells q t.text form) (sym p.0) (subst (λ x. (field_form origin f).spells (field_form None f).quotes x form) (sym text) (field_back f form b.3)) in
      record {
        first = t ∷ later.first;
        last = later.last;
        front = form ++ later.front;
        tokens_are = ap (λ l. t ∷ l) later.tokens_are;
        octets_are = b.2 ∙ ap (λ o. form ++ o) later.octets_are ∙ sym (append_assoc form later.front back);
        fields_are = (form, later.front, refl, spells, later.fields_are);
        rest_is = later.rest_is;
      }

  pub data_back : (shape : Shape) (octets : List ℕ) (tokens : List TokenSeen) → IsTextData shape octets → ArePrinted (printed_data shape octets) tokens → SpellsData origin shape tokens octets
  data_back shape octets tokens is p =
      let parts = parts_back shape.fields.now shape.rest octets is.back tokens is.fields is.rest (subst (λ ts. ArePrinted ts tokens) (text_printed shape octets is) p) in
      record {
        first = parts.first;
        last = parts.last;
        front = parts.front;
        back = is.back;
        tokens_are = parts.tokens_are;
        octets_are = parts.octets_are;
        fields = parts.fields_are;
        rest = parts.rest_is;
        lengths = is.lengths;
      }
