-- Data with a text form, and data without one.
use Rattle.std.proofs.Common.{ℕ, Bool, true, false, true≢false, ◌≡◌, ◌⊎◌, None, List, [], ◌∷◌, length, drop, refl, sym, ap, subst, ◌∙◌, inl, inr}
use Rattle.std.specs.Prelude.{if◌then◌else◌}
use Rattle.std.proofs.Math.Seq.{drop-append_seam}
use Rattle.rdata_fields.specs.declared.field.Field.{Field}
use Rattle.rdata.specs.Data.{IsDataOf, IsTextData}
use Rattle.rdata.specs.Generic.{generic_form}
use Rattle.rdata.specs.LocationRest.{is_other_version}
use Rattle.rdata.specs.PrintLaws.{IsPrintedGeneric}
use Rattle.rdata.specs.Printing.{after_fields, field_size, printed_data, printed_parts}
use Rattle.rdata.specs.RestKinds.{IsRestOf, IsTextless, has_no_text, rest_form}
use Rattle.rdata.specs.Wire.{BeginsWithFields}
use Rattle.rdata.specs.declared.rest.Rest.{Rest}
use Rattle.rdata.specs.declared.rest.Rest.TheVariants.{Nothing, Strings, MaybeString, Hex, Base64, Types, SomeTypes, Text, QuotedText, Location as OfLocation, Prefixes, GatewayKey, HostIdentity, Params, Nsap}
use Rattle.rdata.specs.declared.shape.Shape.{Shape}
use Rattle.rdata.proofs.ItemLaws.{AreItems, prefixes_are_items, prefixes_known}
use Rattle.rdata.proofs.Sizes.{field_sized}

-- ---- after the fields

pub behind_is : (fields : List Field) (octets back : List ℕ) → BeginsWithFields fields octets back → after_fields fields octets ≡ back
behind_is [] octets back b = b
behind_is (f ∷ fs) octets back b =
    let form : List ℕ = b.0 in
    let more : List ℕ = b.1 in
    let sized : field_size f octets ≡ length form = ap (field_size f) b.2 ∙ field_sized f form more b.3 in
    let behind : drop (field_size f octets) octets ≡ more = ap (λ n. drop n octets) sized ∙ ap (drop (length form)) b.2 ∙ drop-append_seam form more in
    ap (after_fields fs) behind ∙ behind_is fs more back b.4

-- ---- what goes to the end of an entry

rest_has_text : (r : Rest) (octets : List ℕ) → (rest_form None r).is_wire octets → has_no_text r octets ≡ false
rest_has_text OfLocation octets is = ap is_other_version is.1.1
rest_has_text Prefixes octets is = prefixes_known octets is
rest_has_text Nothing octets is = refl
rest_has_text Strings octets is = refl
rest_has_text MaybeString octets is = refl
rest_has_text Hex octets is = refl
rest_has_text Base64 octets is = refl
rest_has_text Nsap octets is = refl
rest_has_text Types octets is = refl
rest_has_text SomeTypes octets is = refl
rest_has_text Text octets is = refl
rest_has_text QuotedText octets is = refl
rest_has_text GatewayKey octets is = refl
rest_has_text HostIdentity octets is = refl
rest_has_text Params octets is = refl

rest_has_none : (r : Rest) (octets : List ℕ) → IsTextless r octets → has_no_text r octets ≡ true
rest_has_none OfLocation octets is = is
rest_has_none Prefixes octets is = is.1
rest_has_none Nothing octets is = absurd is
rest_has_none Strings octets is = absurd is
rest_has_none MaybeString octets is = absurd is
rest_has_none Hex octets is = absurd is
rest_has_none Base64 octets is = absurd is
rest_has_none Nsap octets is = absurd is
rest_has_none Types octets is = absurd is
rest_has_none SomeTypes octets is = absurd is
rest_has_none Text octets is = absurd is
rest_has_none QuotedText octets is = absurd is
rest_has_none GatewayKey octets is = absurd is
rest_has_none HostIdentity octets is = absurd is
rest_has_none Params octets is = absurd is

-- ---- data

-- data of a shape has no text form
abbrev pub HasNoText : Shape → List ℕ → Type 0
HasNoText shape octets = has_no_text shape.rest (after_fields shape.fields.now octets) ≡ true

module _ (shape : Shape) (octets : List ℕ) where
  pub text_is_data : IsTextData shape octets → IsDataOf shape octets
  text_is_data is = record { back = is.back; fields = is.fields; rest = inl is.rest; lengths = is.lengths }

  text_known : IsTextData shape octets → has_no_text shape.rest (after_fields shape.fields.now octets) ≡ false
  text_known is = ap (has_no_text shape.rest) (behind_is shape.fields.now octets is.back is.fields) ∙ rest_has_text shape.rest is.back is.rest

  pub text_or_none : IsDataOf shape octets → IsTextData shape octets ⊎ HasNoText shape octets
  text_or_none is = by is.rest
    where
      by : IsRestOf shape.rest is.back → IsTextData shape octets ⊎ HasNoText shape octets
      by (inl own) = inl (record { back = is.back; fields = is.fields; rest = own; lengths = is.lengths })
      by (inr none) = inr (ap (has_no_text shape.rest) (behind_is shape.fields.now octets is.back is.fields) ∙ rest_has_none shape.rest is.back none)

  -- what has a text form, since it isn't without one
  pub text_of : IsDataOf shape octets → has_no_text shape.rest (after_fields shape.fields.now octets) ≡ false → IsTextData shape octets
  text_of is known = by (text_or_none is)
    where
      by : IsTextData shape octets ⊎ HasNoText shape octets → IsTextData shape octets
      by (inl own) = own
      by (inr none) = absurd (true≢false (sym none ∙ known))

  printed_as : (b : Bool) → has_no_text shape.rest (after_fields shape.fields.now octets) ≡ b → printed_data shape octets ≡ (if b then generic_form.printed octets else printed_parts shape.fields.now shape.rest octets)
  printed_as b is = ap (λ (b : Bool). if b then generic_form.printed octets else printed_parts shape.fields.now shape.rest octets) is

  pub text_printed : IsTextData shape octets → printed_data shape octets ≡ printed_parts shape.fields.now shape.rest octets
  text_printed is = printed_as false (text_known is)

  pub generic_printed : HasNoText shape octets → printed_data shape octets ≡ generic_form.printed octets
  generic_printed none = printed_as true none

  -- items after the fields
  pub items_behind_fields : IsDataOf shape octets → shape.rest ≡ Prefixes → AreItems (after_fields shape.fields.now octets)
  items_behind_fields is prefixes = subst AreItems (sym (behind_is shape.fields.now octets is.back is.fields)) (by (subst (λ r. IsRestOf r is.back) prefixes is.rest))
    where
      by : IsRestOf Prefixes is.back → AreItems is.back
      by (inl own) = prefixes_are_items is.back own
      by (inr none) = none.0

pub data_printed_generic : IsPrintedGeneric
data_printed_generic shape octets is no_text = by (text_or_none shape octets is)
  where
    by : IsTextData shape octets ⊎ HasNoText shape octets → printed_data shape octets ≡ generic_form.printed octets
    by (inl own) = absurd (no_text own)
    by (inr none) = generic_printed shape octets none
