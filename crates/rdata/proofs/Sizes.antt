-- The fields at the start of octets, by their sizes.
use Rattle.std.proofs.Common.{ℕ, zero, suc, ◌≡◌, ◌+◌, ◌-◌, ◌<◌, ◌≤◌, List, [], ◌∷◌, ◌++◌, length, take, drop, refl, sym, ap, subst, ◌∙◌, arith, append_assoc, length-append, Some, None, true}
use Rattle.std.specs.Prelude.{All}
use Rattle.std.proofs.Math.Logic.{∥∥₁_elim}
use Rattle.std.proofs.Math.Seq.{take-append_seam, drop-append_seam}
use Rattle.std.proofs.Props.{props}
use Rattle.std.specs.Char.{is_ascii_alphanumeric, is_ascii_digit}
use Rattle.std.specs.List.{list_all}
use Rattle.std.proofs.lemmas.List.Elements.{All-head, All-tail, All-drop}
use Rattle.std.specs.Coded.{Coded-set, coded_ℕ, coded_list, coded_bool, le_prop}
use Rattle.dns_wire.specs.Wire.{wire, wire_label, wire_length, IsPlain}
use Rattle.rdata_tokens.specs.Spelling.{AreOctetValues}
use Rattle.rdata_tokens.specs.Forms.{FindsWidth, IsWireString, IsWireTag}
use Rattle.rdata_tokens.specs.NameSpelling.{IsWireName}
use Rattle.rdata_tokens.specs.PrintedNames.{labels_in_octets}
use Rattle.rdata_tokens.proofs.NameFronts.{name_front_plain}
use Rattle.rdata_tokens.proofs.NameLaws.{wire_labels}
use Rattle.rdata_fields.specs.Fields.{field_form}
use Rattle.rdata_fields.specs.Forms.{IsWireHash, IsWirePsdnAddress}
use Rattle.rdata_fields.specs.declared.field.Field.{Field}
use Rattle.rdata_fields.specs.declared.field.Field.TheVariants.{Number8, Number16, Number32, Interval, Ipv4, Ipv6, RecordType, SigType, Algorithm, CertificateType, SyncScheme, Eui48, Eui64, Time, Locator, String, PsdnAddress, Tag, Salt, Hash, Name}
use Rattle.rdata_fields.proofs.FormLaws.{fields_are_forms}
use Rattle.rdata.specs.GatewayKeys.{labels_size}
use Rattle.rdata.specs.Printing.{field_size, counted_size}
use Rattle.rdata.specs.Wire.{BeginsWithFields}

counted_sized : (xs form more : List ℕ) → form ≡ length xs ∷ xs → counted_size (form ++ more) ≡ length form
counted_sized xs form more whole = subst (λ f. counted_size (f ++ more) ≡ length f) (sym whole) (omega arith)

labels_few : (labels : List (List ℕ)) → length labels ≤ length (wire labels)
labels_few [] = omega arith
labels_few (l ∷ ls) = let later = labels_few ls in omega (arith, later, length-append l (wire ls))

labels_sized : (front : List (List ℕ)) (more : List ℕ) (count : ℕ) → All IsPlain front → length front < count → labels_size count (wire (front ++ [] ∷ []) ++ more) ≡ length (wire (front ++ [] ∷ []))
labels_sized front more zero p few = absurd (omega arith)
labels_sized [] more (suc count) p few = refl
labels_sized ([] ∷ ls) more (suc count) p few = absurd (let plain = All-head IsPlain [] ls p in omega (arith, plain.0))
labels_sized ((x ∷ xs) ∷ ls) more (suc count) p few =
    let l : List ℕ = x ∷ xs in
    let name : List (List ℕ) = ls ++ [] ∷ [] in
    let later = labels_sized ls more count (All-tail IsPlain l ls p) (omega (arith, few)) in
    let off : drop (suc (length xs)) (l ++ (wire name ++ more)) ≡ wire name ++ more = drop-append_seam l (wire name ++ more) in
    ap (labels_size (suc count)) (append_assoc (wire_label l) (wire name) more)
    ∙ (ap (λ o. 2 + length xs + labels_size count o) off ∙ omega (arith, later, length-append l (wire name)))

pub name_sized : (form more : List ℕ) → IsWireName form → labels_size (length (form ++ more)) (form ++ more) ≡ length form
name_sized form more h =
    let front = h.absolute.0 in
    let whole : form ≡ wire (front ++ [] ∷ []) = h.whole ∙ ap wire h.absolute.1 in
    let few = labels_few (front ++ [] ∷ []) in
    let enough : length front < length (form ++ more) = omega (arith, few, length-append front ([] ∷ []), ap length whole, length-append form more) in
    ap (λ f. labels_size (length (form ++ more)) (f ++ more)) whole
    ∙ (labels_sized front more (length (form ++ more)) (name_front_plain h.labels front h.is_name h.absolute.1) enough ∙ sym (ap length whole))

-- the field at the start has the number of octets of its size
pub field_sized : (f : Field) (form more : List ℕ) → (field_form None f).is_wire form → field_size f (form ++ more) ≡ length form
field_sized Number8 form more h = sym h.0
field_sized Number16 form more h = sym h.0
field_sized Number32 form more h = sym h.0
field_sized Interval form more h = sym h.0
field_sized Ipv4 form more h = sym h.0
field_sized Ipv6 form more h = sym h.0
field_sized RecordType form more h = sym h.0
field_sized SigType form more h = sym h.0
field_sized Algorithm form more h = sym h.0
field_sized CertificateType form more h = sym h.0
field_sized SyncScheme form more h = sym h.0
field_sized Eui48 form more h = sym h.0
field_sized Eui64 form more h = sym h.0
field_sized Time form more h = sym h.0
field_sized Locator form more h = sym h.0
field_sized String form more h = counted_sized h.octets form more h.whole
field_sized PsdnAddress form more h = counted_sized h.digits form more h.whole
field_sized Tag form more h = counted_sized h.tag form more h.whole
field_sized Salt form more h = counted_sized h.octets form more h.whole
field_sized Hash form more h = counted_sized h.octets form more h.whole
field_sized Name form more h = name_sized form more h

-- a width that is found is that size
pub front_sized : (f : Field) (octets rest : List ℕ) (width : ℕ) → BeginsWithFields (f ∷ []) octets rest → FindsWidth (field_form None f).is_wire octets (Some width) → width ≡ field_size f octets
front_sized f octets rest width b finds =
    let found : Some width ≡ Some (length b.0) =
    (fields_are_forms None tt f).in_front.width b.0 b.1 (Some width) b.3 (subst (λ o. FindsWidth (field_form None f).is_wire o (Some width)) b.2 finds) in
    let same : width ≡ length b.0 = cc found in
    same ∙ sym (ap (field_size f) b.2 ∙ field_sized f b.0 b.1 b.3)

-- ---- octets that surely are a field's

-- the root after others, cut off and put back
root_cut : (front : List (List ℕ)) → front ++ [] ∷ [] ≡ take (length (front ++ [] ∷ []) - 1) (front ++ [] ∷ []) ++ [] ∷ []
root_cut front =
    let n : length (front ++ [] ∷ []) - 1 ≡ length front = omega (arith, length-append front ([] ∷ [])) in
    ap (λ l. l ++ [] ∷ []) (sym (ap (λ m. take m (front ++ [] ∷ [])) n ∙ take-append_seam front ([] ∷ [])))

module _ (octets : List ℕ) (values : AreOctetValues octets) where
  string_whole : IsWireString octets → octets ≡ length (drop 1 octets) ∷ drop 1 octets
  string_whole h = h.whole ∙ ap (λ o. length o ∷ o) (sym (ap (drop 1) h.whole))

  surely_string : ∥ IsWireString octets ∥₁ → IsWireString octets
  surely_string t = record {
    octets = drop 1 octets;
    values = All-drop (λ o. o < 256) 1 octets values;
    short = ∥∥₁_elim t le_prop (λ h. subst (λ o. length o ≤ 255) (sym (ap (drop 1) h.whole)) h.short);
    whole = ∥∥₁_elim t (Coded-set (coded_list coded_ℕ) _ _) string_whole;
  }

  surely_tag : ∥ IsWireTag octets ∥₁ → IsWireTag octets
  surely_tag t = record {
    tag = drop 1 octets;
    is_tag = record {
      some = ∥∥₁_elim t (search props) (λ h. subst (λ o. 0 < length o) (sym (ap (drop 1) h.whole)) h.is_tag.some);
      short = ∥∥₁_elim t le_prop (λ h. subst (λ o. length o ≤ 255) (sym (ap (drop 1) h.whole)) h.is_tag.short);
      letters = ∥∥₁_elim t (Coded-set coded_bool _ _) (λ h. subst (λ o. list_all is_ascii_alphanumeric o ≡ true) (sym (ap (drop 1) h.whole)) h.is_tag.letters);
    };
    whole = ∥∥₁_elim t (Coded-set (coded_list coded_ℕ) _ _) (λ h. h.whole ∙ ap (λ o. length o ∷ o) (sym (ap (drop 1) h.whole)));
  }

  surely_psdn_address : ∥ IsWirePsdnAddress octets ∥₁ → IsWirePsdnAddress octets
  surely_psdn_address t = record {
    digits = drop 1 octets;
    is_address = record {
      enough = ∥∥₁_elim t le_prop (λ h. subst (λ o. 4 ≤ length o) (sym (ap (drop 1) h.whole)) h.is_address.enough);
      short = ∥∥₁_elim t le_prop (λ h. subst (λ o. length o ≤ 255) (sym (ap (drop 1) h.whole)) h.is_address.short);
      digital = ∥∥₁_elim t (Coded-set coded_bool _ _) (λ h. subst (λ o. list_all is_ascii_digit o ≡ true) (sym (ap (drop 1) h.whole)) h.is_address.digital);
    };
    whole = ∥∥₁_elim t (Coded-set (coded_list coded_ℕ) _ _) (λ h. h.whole ∙ ap (λ o. length o ∷ o) (sym (ap (drop 1) h.whole)));
  }

  surely_hash : ∥ IsWireHash octets ∥₁ → IsWireHash octets
  surely_hash t = record {
    octets = drop 1 octets;
    values = All-drop (λ o. o < 256) 1 octets values;
    some = ∥∥₁_elim t (search props) (λ h. subst (λ o. 0 < length o) (sym (ap (drop 1) h.whole)) h.some);
    short = ∥∥₁_elim t le_prop (λ h. subst (λ o. length o ≤ 255) (sym (ap (drop 1) h.whole)) h.short);
    whole = ∥∥₁_elim t (Coded-set (coded_list coded_ℕ) _ _) (λ h. h.whole ∙ ap (λ o. length o ∷ o) (sym (ap (drop 1) h.whole)));
  }

  module _ (labels : List (List ℕ)) (labels_are : (h : IsWireName octets) → h.labels ≡ labels) (t : ∥ IsWireName octets ∥₁) where
    named_surely : IsWireName octets
    named_surely = record {
      labels = labels;
      is_name = record {
        short = λ k d lt. ∥∥₁_elim t le_prop (λ h. subst (λ (l : List (List ℕ)). All (λ label. length label ≤ 63) l) (labels_are h) h.is_name.short k d lt);
        root_last = λ front back e. ∥∥₁_elim t (Coded-set (coded_list (coded_list coded_ℕ)) _ _) (λ h. h.is_name.root_last front back (labels_are h ∙ e));
        fits = ∥∥₁_elim t le_prop (λ h. subst (λ l. wire_length l ≤ 255) (labels_are h) h.is_name.fits);
      };
      absolute = (
        take (length labels - 1) labels,
        ∥∥₁_elim t (Coded-set (coded_list (coded_list coded_ℕ)) _ _) (λ h. last_is h),
      );
      values = values;
      whole = ∥∥₁_elim t (Coded-set (coded_list coded_ℕ) _ _) (λ h. h.whole ∙ ap wire (labels_are h));
    }
      where
        last_is : (h : IsWireName octets) → labels ≡ take (length labels - 1) labels ++ [] ∷ []
        last_is h =
            let e : labels ≡ h.absolute.0 ++ [] ∷ [] = sym (labels_are h) ∙ h.absolute.1 in
            subst (λ (l : List (List ℕ)). l ≡ take (length l - 1) l ++ [] ∷ []) (sym e) (root_cut h.absolute.0)

  -- a name's labels are those of its octets
  surely_name : ∥ IsWireName octets ∥₁ → IsWireName octets
  surely_name t = named_surely (labels_in_octets octets) (λ h. sym (ap labels_in_octets h.whole ∙ wire_labels h.labels)) t

-- octets of which it is true that they are a field's are one
pub surely_wire : (f : Field) (octets : List ℕ) → AreOctetValues octets → ∥ (field_form None f).is_wire octets ∥₁ → (field_form None f).is_wire octets
surely_wire Number8 octets values t = (∥∥₁_elim t (Coded-set coded_ℕ _ _) (λ h. h.0), values)
surely_wire Number16 octets values t = (∥∥₁_elim t (Coded-set coded_ℕ _ _) (λ h. h.0), values)
surely_wire Number32 octets values t = (∥∥₁_elim t (Coded-set coded_ℕ _ _) (λ h. h.0), values)
surely_wire Interval octets values t = (∥∥₁_elim t (Coded-set coded_ℕ _ _) (λ h. h.0), values)
surely_wire Ipv4 octets values t = (∥∥₁_elim t (Coded-set coded_ℕ _ _) (λ h. h.0), values)
surely_wire Ipv6 octets values t = (∥∥₁_elim t (Coded-set coded_ℕ _ _) (λ h. h.0), values)
surely_wire RecordType octets values t = (∥∥₁_elim t (Coded-set coded_ℕ _ _) (λ h. h.0), values)
surely_wire SigType octets values t = (∥∥₁_elim t (Coded-set coded_ℕ _ _) (λ h. h.0), values)
surely_wire Algorithm octets values t = (∥∥₁_elim t (Coded-set coded_ℕ _ _) (λ h. h.0), values)
surely_wire CertificateType octets values t = (∥∥₁_elim t (Coded-set coded_ℕ _ _) (λ h. h.0), values)
surely_wire SyncScheme octets values t = (∥∥₁_elim t (Coded-set coded_ℕ _ _) (λ h. h.0), values)
surely_wire Eui48 octets values t = (∥∥₁_elim t (Coded-set coded_ℕ _ _) (λ h. h.0), values)
surely_wire Eui64 octets values t = (∥∥₁_elim t (Coded-set coded_ℕ _ _) (λ h. h.0), values)
surely_wire Time octets values t = (∥∥₁_elim t (Coded-set coded_ℕ _ _) (λ h. h.0), values)
surely_wire Locator octets values t = (∥∥₁_elim t (Coded-set coded_ℕ _ _) (λ h. h.0), values)
surely_wire String octets values t = surely_string octets values t
surely_wire PsdnAddress octets values t = surely_psdn_address octets values t
surely_wire Tag octets values t = surely_tag octets values t
surely_wire Salt octets values t = surely_string octets values t
surely_wire Hash octets values t = surely_hash octets values t
surely_wire Name octets values t = surely_name octets values t
