-- The canonical form of data by type.
use Rattle.std.proofs.Common.{ℕ, zero, suc, Bool, true, false, ◌≡◌, ◌<◌, ◌==◌, ◌||◌, ◌+◌, Option, Some, None, List, [], ◌∷◌, ◌++◌, length, take, drop, refl, sym, ap, subst, ◌∙◌, arith, append_assoc, length-append}
use Rattle.std.specs.Prelude.{Contains, if◌then◌else◌, slice_index_or}
use Rattle.std.specs.Int.{to_be_bytes, w16, w32}
use Rattle.std.specs.List.{list_any}
use Rattle.std.proofs.Math.Seq.{take-append_seam, drop-append_seam}
use Rattle.std.proofs.lemmas.Bool.{eqb-true, eq-eqb}
use Rattle.dns_octets.specs.Appending.{Gains}
use Rattle.dns_octets.specs.Lowered.{lowered}
use Rattle.dns_octets.specs.Room.{Room}
use Rattle.dns_wire.specs.Wire.{wire}
use Rattle.rdata_fields.specs.declared.field.Field.{Field}
use Rattle.zone_record.specs.FieldForms.{canonical_field, IsFieldWire, StartsWithFields, CanonicalFields, RefusesFields, lowered_types}
use Rattle.zone_record.specs.declared.fields.CanonicalError.{CanonicalError}
use Rattle.zone_record.specs.declared.fields.CanonicalError.TheVariants.{BadData, ShortBuf}
use Rattle.zone_record.specs.EmbeddedNames.{fields_to_last_name}
use Rattle.zone_record.proofs.FieldWalks.{forms_some, forms_long}
use Rattle.zone_record.proofs.LoweredNames.{length_lowered}
use Rattle.zone_record.proofs.UntextedNames.{untexted_starts}
use Rattle.rdata.specs.ByType.{HasShape, shape_of_code}
use Rattle.rdata.specs.Printing.{field_size}
use Rattle.rdata.specs.Types.{TypeShape}
use Rattle.rdata.specs.Wire.{BeginsWithFields}
use Rattle.rdata.proofs.Sizes.{field_sized}
use Rattle.zone_record.specs.CanonicalData.{record_after_owner, canonical_data, canonical_record, fields_in_data, fields_to_lower, lowered_in}
use Rattle.zone_record.specs.Records.{data_of}
use Rattle.zone_record.specs.TypeData.{IsTypeData}
use Rattle.zone_record.specs.declared.record.Record.{Record}
use Rattle.zone_record.proofs.DataBack.{shape_with}

-- ---- which types are lowered

pub any_contains : (xs : List ℕ) (x : ℕ) → list_any (λ y. y == x) xs ≡ true → Contains xs x
any_contains [] x h = cc
any_contains (y ∷ ys) x h = by (y == x) refl h (any_contains ys x)
  where
    by : (b : Bool) → (y == x) ≡ b → (b || list_any (λ z. z == x) ys) ≡ true → (list_any (λ z. z == x) ys ≡ true → Contains ys x) → Contains (y ∷ ys) x
    by true same h more = (0, omega arith, eqb-true y x same)
    by false same h more = let later = more h in (suc later.0, omega (arith, later.1), later.2)

pub contains_any : (xs : List ℕ) (x : ℕ) → Contains xs x → list_any (λ y. y == x) xs ≡ true
contains_any [] x h = absurd (omega (arith, h.1))
contains_any (y ∷ ys) x h = by h.0 h.1 h.2 (contains_any ys x)
  where
    later : (b : Bool) → list_any (λ z. z == x) ys ≡ true → (b || list_any (λ z. z == x) ys) ≡ true
    later true h = refl
    later false h = h

    by : (k : ℕ) → k < length (y ∷ ys) → slice_index_or (y ∷ ys) k x ≡ x → (Contains ys x → list_any (λ z. z == x) ys ≡ true) → list_any (λ z. z == x) (y ∷ ys) ≡ true
    by zero within is more = ap (λ b. b || list_any (λ z. z == x) ys) (eq-eqb y x is)
    by (suc k) within is more = later (y == x) (more (k, omega (arith, within), is))

-- the fields of a type whose names are lowered, and of another
pub fields_lowered : (rtype : ℕ) (octets : List ℕ) → Contains lowered_types rtype → fields_in_data (shape_of_code rtype) rtype octets ≡ fields_to_lower rtype octets
fields_lowered rtype octets h = sym (ap (λ b. if b then fields_in_data (shape_of_code rtype) rtype octets else []) (contains_any lowered_types rtype h))

pub fields_kept : (rtype : ℕ) (octets : List ℕ) → (Contains lowered_types rtype → ⊥) → [] ≡ fields_to_lower rtype octets
fields_kept rtype octets h = by (list_any (λ t. t == rtype) lowered_types) refl
  where
    by : (b : Bool) → list_any (λ t. t == rtype) lowered_types ≡ b → [] ≡ (if b then fields_in_data (shape_of_code rtype) rtype octets else [])
    by true is = absurd (h (any_contains lowered_types rtype is))
    by false is = refl

-- ---- one form

-- the first field by its size, and what follows it
pub front_cut : (f : Field) (octets part rest : List ℕ) → IsFieldWire f part → octets ≡ part ++ rest → (take (field_size f octets) octets ≡ part) × (drop (field_size f octets) octets ≡ rest)
front_cut f octets part rest h is =
    let sized : field_size f octets ≡ length part = ap (field_size f) is ∙ field_sized f part rest h in (
      ap (λ n. take n octets) sized ∙ ap (take (length part)) is ∙ take-append_seam part rest,
      ap (λ n. drop n octets) sized ∙ ap (drop (length part)) is ∙ drop-append_seam part rest,
    )

pub form_is : (fields : List Field) (octets form : List ℕ) → CanonicalFields fields octets form → form ≡ lowered_in fields octets
form_is [] octets form h = h
form_is (f ∷ fs) octets form h =
    let cut = front_cut f octets h.0 h.1 h.3 h.4 in
    h.5 ∙ ap (λ o. canonical_field f h.0 ++ o) (form_is fs h.1 h.2 h.6) ∙ ap (λ o. canonical_field f h.0 ++ lowered_in fs o) (sym cut.1) ∙ ap (λ o. canonical_field f o ++ lowered_in fs (drop (field_size f octets) octets)) (sym cut.0)

pub form_of : (fields : List Field) (octets : List ℕ) → StartsWithFields fields octets → CanonicalFields fields octets (lowered_in fields octets)
form_of fields octets h = let some = forms_some fields octets h in subst (CanonicalFields fields octets) (form_is fields octets some.0 some.1) some.1

pub begins_start : (fields : List Field) (octets back : List ℕ) → BeginsWithFields fields octets back → StartsWithFields fields octets
begins_start [] octets back h = tt
begins_start (f ∷ fs) octets back h = (h.0, h.1, h.3, h.2, begins_start fs h.1 back h.4)

-- ---- data of a type

pub data_starts : (rtype : ℕ) (octets : List ℕ) → IsTypeData rtype octets → StartsWithFields (fields_to_lower rtype octets) octets
data_starts rtype octets is = by (list_any (λ t. t == rtype) lowered_types) (shape_of_code rtype) refl
  where
    by : (b : Bool) (found : Option TypeShape) → shape_of_code rtype ≡ found → StartsWithFields (if b then fields_in_data found rtype octets else []) octets
    by false found same = tt
    by true None same = untexted_starts rtype octets
    by true (Some s) same =
        let own = is.shaped (shape_with s) (subst (λ f. HasShape f (shape_with s)) (sym same) (refl, refl, refl)) in
        begins_start s.fields octets own.back own.fields

pub data_form : (rtype : ℕ) (octets : List ℕ) → IsTypeData rtype octets → CanonicalFields (fields_to_lower rtype octets) octets (canonical_data rtype octets)
data_form rtype octets is = form_of (fields_to_lower rtype octets) octets (data_starts rtype octets is)

pub data_long : (rtype : ℕ) (octets : List ℕ) → IsTypeData rtype octets → length (canonical_data rtype octets) ≡ length octets
data_long rtype octets is = forms_long (fields_to_lower rtype octets) octets (canonical_data rtype octets) (data_form rtype octets is)

-- data of a type whose names are not lowered, of one with a text form, and of another
pub data_kept : (rtype : ℕ) (octets : List ℕ) → (Contains lowered_types rtype → ⊥) → octets ≡ canonical_data rtype octets
data_kept rtype octets h = ap (λ fs. lowered_in fs octets) (fields_kept rtype octets h)

pub data_lowered : (rtype : ℕ) (octets : List ℕ) (s : TypeShape) (fields : List Field) → Contains lowered_types rtype → Some s ≡ shape_of_code rtype → fields ≡ s.fields → lowered_in fields octets ≡ canonical_data rtype octets
data_lowered rtype octets s fields h found same = ap (λ fs. lowered_in fs octets) (same ∙ ap (λ f. fields_in_data f rtype octets) found ∙ fields_lowered rtype octets h)

pub untexted_form_is : (rtype : ℕ) (octets : List ℕ) → IsTypeData rtype octets → Contains lowered_types rtype → None ≡ shape_of_code rtype → CanonicalFields (fields_to_last_name rtype octets) octets (canonical_data rtype octets)
untexted_form_is rtype octets is h none =
    subst (λ fs. CanonicalFields fs octets (canonical_data rtype octets)) (sym (ap (λ f. fields_in_data f rtype octets) none ∙ fields_lowered rtype octets h)) (data_form rtype octets is)

-- ---- what is appended

-- the form that is gained is that of the type
pub form_gained : (rtype : ℕ) (fields : List Field) (octets old new : List ℕ) → fields ≡ fields_to_lower rtype octets → Gains (CanonicalFields fields octets) old new → new ≡ old ++ canonical_data rtype octets
form_gained rtype fields octets old new same h = h.2 ∙ ap (λ o. old ++ o) (form_is fields octets h.0 h.1 ∙ ap (λ fs. lowered_in fs octets) same)

-- RDATA of a type has a canonical form, which doesn't surely fit if it is not appended
pub form_lacks : (room : Room) (rtype : ℕ) (octets old : List ℕ) (e : CanonicalError) → IsTypeData rtype octets → RefusesFields room (fields_to_lower rtype octets) octets old e → room.fits < length old + length octets
form_lacks room rtype octets old BadData is h = absurd (h (data_starts rtype octets is))
form_lacks room rtype octets old ShortBuf is h = let few = h (canonical_data rtype octets) (data_form rtype octets is) in omega (arith, few, data_long rtype octets is)

abbrev pub middle : ℕ → ℕ → ℕ → ℕ → List ℕ
middle rtype class ttl count = to_be_bytes w16 rtype ++ to_be_bytes w16 class ++ to_be_bytes w32 ttl ++ to_be_bytes w16 count

three_parts : (a b c d : List ℕ) → ((a ++ b) ++ c) ++ d ≡ a ++ (b ++ (c ++ d))
three_parts a b c d = append_assoc (a ++ b) c d ∙ append_assoc a b (c ++ d)

module _ {N O : Type 0} (r : Record N O) (is : IsTypeData (data_of r).rtype (data_of r).octets) where
  -- the parts that are appended are the record's form
  pub record_gained : (old first second new owner : List ℕ) (rtype count : ℕ) → owner ≡ wire r.owner → rtype ≡ (data_of r).rtype → count ≡ length (data_of r).octets → first ≡ old ++ lowered owner
      → second ≡ first ++ middle rtype r.class r.ttl count → new ≡ second ++ canonical_data (data_of r).rtype (data_of r).octets → new ≡ old ++ canonical_record r
  record_gained old first second new owner rtype count p q n a b c =
      let form = canonical_data (data_of r).rtype (data_of r).octets in
      let count_is : count ≡ length form = n ∙ sym (data_long (data_of r).rtype (data_of r).octets is) in
      c ∙ ap (λ t. t ++ form) (b ∙ ap (λ t. t ++ middle rtype r.class r.ttl count) a) ∙ three_parts old (lowered owner) (middle rtype r.class r.ttl count) form
      ∙ (λ i. old ++ (lowered (p i) ++ (middle (q i) r.class r.ttl (count_is i) ++ form)))

  pub record_long : length (canonical_record r) ≡ length (wire r.owner) + 10 + length (data_of r).octets
  record_long =
      let form = canonical_data (data_of r).rtype (data_of r).octets in
      let owner = lowered (wire r.owner) in
      omega (arith, length-append owner (record_after_owner (data_of r).rtype r.class r.ttl form), length_lowered (wire r.owner), data_long (data_of r).rtype (data_of r).octets is)

  pub record_lacks : (room : Room) (old first second owner part : List ℕ) → owner ≡ wire r.owner → first ≡ old ++ lowered owner → second ≡ first ++ part → length part ≡ 10
      → room.fits < length second + length (data_of r).octets → room.fits < length old + length (canonical_record r)
  record_lacks room old first second owner part p a b ten few =
      omega (arith, few, ten, record_long, ap length p, ap length a, ap length b, length-append old (lowered owner), length-append first part, length_lowered owner)
