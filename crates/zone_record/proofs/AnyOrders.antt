-- The total order of octets, and that it is the canonical order for RDATA of a type.
use Rattle.std.proofs.Common.{ℕ, ◌≡◌, Some, None, true, false, true≢false, List, [], ◌∷◌, ◌++◌, length, take, drop, refl, sym, ap, subst, ◌∙◌, arith}
use Rattle.std.specs.Prelude.{Bool, Option, Contains, ◌==◌, if◌then◌else◌}
use Rattle.std.specs.List.{list_any}
use Rattle.std.specs.Cmp.{IsTotalOrder}
use Rattle.std.specs.Ordering.{is_ne, ordering_then}
use Rattle.std.specs.declared.cmp.Ordering.{Ordering}
use Rattle.std.specs.declared.cmp.Ordering.TheVariants.{Less, Equal, Greater}
use Rattle.std.proofs.lemmas.Cmp.{nat_list_cmp_total, on_total, then_total}
use Rattle.rdata_fields.specs.declared.field.Field.{Field}
use Rattle.zone_record.specs.FieldForms.{lowered_types, canonical_field, CanonicalFields, StartsWithFields}
use Rattle.zone_record.specs.Names.{octet_order}
use Rattle.zone_record.specs.EmbeddedNames.{fields_to_last_name}
use Rattle.zone_record.proofs.UntextedNames.{untexted_starts}
use Rattle.rdata.specs.ByType.{shape_of_code}
use Rattle.rdata.specs.Printing.{field_size}
use Rattle.rdata.specs.Types.{TypeShape}
use Rattle.zone_record.specs.AnyData.{parts_order, order_with_shape, any_data_order}
use Rattle.zone_record.specs.CanonicalData.{canonical_data, fields_in_data, fields_to_lower, lowered_in}
use Rattle.zone_record.specs.TypeData.{IsTypeData}
use Rattle.zone_record.proofs.CanonicalForms.{any_contains, contains_any, data_starts, fields_lowered, form_of, front_cut}
use Rattle.zone_record.proofs.CanonicalOrders.{order_front}

abbrev front_order : Field → List ℕ → List ℕ → Ordering
front_order f a b = octet_order (canonical_field f (take (field_size f a) a)) (canonical_field f (take (field_size f b) b))

pub parts_end : (fields : List Field) (a b : List ℕ) → length fields ≡ 0 → octet_order a b ≡ parts_order fields a b
parts_end [] a b h = refl
parts_end (f ∷ fs) a b h = absurd (omega (arith, h))

decided : (order later : Ordering) → is_ne order ≡ true → order ≡ ordering_then order later
decided Less later h = refl
decided Equal later h = absurd (true≢false (sym h))
decided Greater later h = refl

passed : (order later : Ordering) → is_ne order ≡ false → later ≡ ordering_then order later
passed Less later h = absurd (true≢false h)
passed Equal later h = refl
passed Greater later h = absurd (true≢false h)

module _ (fields : List Field) (f : Field) (more : List Field) (a b fa fb ra rb : List ℕ) (order : Ordering) (whole : fields ≡ f ∷ more)
    (fa_is : fa ≡ take (field_size f a) a) (fb_is : fb ≡ take (field_size f b) b) (ra_is : ra ≡ drop (field_size f a) a) (rb_is : rb ≡ drop (field_size f b) b)
    (order_is : order ≡ octet_order (canonical_field f fa) (canonical_field f fb)) where
  same : ordering_then order (parts_order more ra rb) ≡ parts_order fields a b
  same =
      (λ i. ordering_then (order_is i) (parts_order more ra rb))
      ∙ (λ i. ordering_then (octet_order (canonical_field f (fa_is i)) (canonical_field f (fb_is i))) (parts_order more (ra_is i) (rb_is i)))
      ∙ ap (λ fs. parts_order fs a b) (sym whole)

  pub parts_decided : is_ne order ≡ true → order ≡ parts_order fields a b
  parts_decided h = decided order (parts_order more ra rb) h ∙ same

  pub parts_passed : is_ne order ≡ false → parts_order more ra rb ≡ parts_order fields a b
  parts_passed h = passed order (parts_order more ra rb) h ∙ same

-- ---- RDATA of a type

parts_begun : (fields : List Field) (a b : List ℕ) → StartsWithFields fields a → StartsWithFields fields b → parts_order fields a b ≡ octet_order (lowered_in fields a) (lowered_in fields b)
parts_begun [] a b h k = refl
parts_begun (f ∷ fs) a b h k =
    let p = front_cut f a h.0 h.1 h.2 h.3 in
    let q = front_cut f b k.0 k.1 k.2 k.3 in
    let ra = drop (field_size f a) a in
    let rb = drop (field_size f b) b in
    let more = parts_begun fs ra rb (subst (StartsWithFields fs) (sym p.1) h.4) (subst (StartsWithFields fs) (sym q.1) k.4) in
    let fronts = order_front f h.0 k.0 (lowered_in fs ra) (lowered_in fs rb) h.2 k.2 in
    ap (ordering_then (front_order f a b)) more
    ∙ (λ i. ordering_then (octet_order (canonical_field f (p.0 i)) (canonical_field f (q.0 i))) (octet_order (lowered_in fs ra) (lowered_in fs rb)))
    ∙ sym fronts
    ∙ (λ i. octet_order (canonical_field f (sym p.0 i) ++ lowered_in fs ra) (canonical_field f (sym q.0 i) ++ lowered_in fs rb))

module _ (rtype : ℕ) (a b : List ℕ) where
  pub any_kept : (Contains lowered_types rtype → ⊥) → octet_order a b ≡ any_data_order rtype a b
  any_kept h = by (list_any (λ t. t == rtype) lowered_types) refl
    where
      by : (t : Bool) → list_any (λ t. t == rtype) lowered_types ≡ t → octet_order a b ≡ (if t then order_with_shape (shape_of_code rtype) rtype a b else octet_order a b)
      by true is = absurd (h (any_contains lowered_types rtype is))
      by false is = refl

  lowers : Contains lowered_types rtype → order_with_shape (shape_of_code rtype) rtype a b ≡ any_data_order rtype a b
  lowers h = sym (ap (λ t. if t then order_with_shape (shape_of_code rtype) rtype a b else octet_order a b) (contains_any lowered_types rtype h))

  pub any_shaped : (s : TypeShape) (fields : List Field) → Contains lowered_types rtype → Some s ≡ shape_of_code rtype → fields ≡ s.fields → parts_order fields a b ≡ any_data_order rtype a b
  any_shaped s fields h found same = ap (λ fs. parts_order fs a b) same ∙ ap (λ o. order_with_shape o rtype a b) found ∙ lowers h

  pub any_untexted : Contains lowered_types rtype → None ≡ shape_of_code rtype → octet_order (canonical_data rtype a) (canonical_data rtype b) ≡ any_data_order rtype a b
  any_untexted h none =
      let form = λ (octets : List ℕ). ap (λ fs. lowered_in fs octets) (sym (ap (λ f. fields_in_data f rtype octets) none ∙ fields_lowered rtype octets h)) in
      (λ i. octet_order (form a i) (form b i)) ∙ ap (λ o. order_with_shape o rtype a b) none ∙ lowers h

  pub any_valid : (s : TypeShape) (fields : List Field) → Contains lowered_types rtype → Some s ≡ shape_of_code rtype → fields ≡ s.fields → StartsWithFields fields a → StartsWithFields fields b
      → parts_order fields a b ≡ octet_order (canonical_data rtype a) (canonical_data rtype b)
  any_valid s fields h found same p q =
      let form = λ (octets : List ℕ). ap (λ fs. lowered_in fs octets) (same ∙ ap (λ f. fields_in_data f rtype octets) found ∙ fields_lowered rtype octets h) in
      parts_begun fields a b p q ∙ (λ i. octet_order (form a i) (form b i))

-- octets of a type without a presentation format have a canonical form
pub untexted_any : (rtype : ℕ) (octets : List ℕ) → Contains lowered_types rtype → None ≡ shape_of_code rtype → CanonicalFields (fields_to_last_name rtype octets) octets (canonical_data rtype octets)
untexted_any rtype octets h none =
    let same : fields_to_last_name rtype octets ≡ fields_to_lower rtype octets = ap (λ f. fields_in_data f rtype octets) none ∙ fields_lowered rtype octets h in
    subst (λ fs. CanonicalFields (fields_to_last_name rtype octets) octets (lowered_in fs octets)) same (form_of (fields_to_last_name rtype octets) octets (untexted_starts rtype octets))

-- the order of RDATA of a type is canonical
pub any_canonical : (rtype : ℕ) (a b : List ℕ) → IsTypeData rtype a → IsTypeData rtype b → any_data_order rtype a b ≡ octet_order (canonical_data rtype a) (canonical_data rtype b)
any_canonical rtype a b p q = by (list_any (λ t. t == rtype) lowered_types) (shape_of_code rtype) (data_starts rtype a p) (data_starts rtype b q)
  where
    by : (t : Bool) (found : Option TypeShape) → StartsWithFields (if t then fields_in_data found rtype a else []) a → StartsWithFields (if t then fields_in_data found rtype b else []) b
        → (if t then order_with_shape found rtype a b else octet_order a b) ≡ octet_order (lowered_in (if t then fields_in_data found rtype a else []) a) (lowered_in (if t then fields_in_data found rtype b else []) b)
    by false found h k = refl
    by true None h k = refl
    by true (Some s) h k = parts_begun s.fields a b h k

-- ---- the order is total

parts_total : (fields : List Field) → IsTotalOrder (parts_order fields)
parts_total [] = nat_list_cmp_total
parts_total (f ∷ fs) =
    then_total (on_total (λ a. canonical_field f (take (field_size f a) a)) nat_list_cmp_total) (on_total (λ a. drop (field_size f a) a) (parts_total fs))

pub any_total : (rtype : ℕ) → IsTotalOrder (any_data_order rtype)
any_total rtype = by (list_any (λ t. t == rtype) lowered_types) (shape_of_code rtype)
  where
    by : (t : Bool) (found : Option TypeShape) → IsTotalOrder (λ (a b : List ℕ). if t then order_with_shape found rtype a b else octet_order a b)
    by false found = nat_list_cmp_total
    by true None = on_total (λ o. lowered_in (fields_to_last_name rtype o) o) nat_list_cmp_total
    by true (Some s) = parts_total s.fields
