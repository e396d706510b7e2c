-- Data compared field by field.
use Rattle.std.proofs.Common.{ℕ, ◌≡◌, ◌<◌, ◌≤◌, ◌+◌, ◌-◌, Some, None, false, true≢false, List, [], ◌∷◌, ◌++◌, length, take, drop, refl, sym, ap, subst, ◌∙◌, arith, length-append, append-nil, get_or}
use Rattle.std.specs.Ordering.{is_ne, nat_cmp, ordering_then}
use Rattle.std.specs.declared.cmp.Ordering.{Ordering}
use Rattle.std.specs.declared.cmp.Ordering.TheVariants.{Less, Equal, Greater}
use Rattle.std.proofs.lemmas.Cmp.{ranked}
use Rattle.std.proofs.lemmas.List.{drop_more, take-append-drop, take_all, take-append-le, length-drop}
use Rattle.rdata_tokens.specs.Forms.{FindsWidth}
use Rattle.dns_wire.specs.Labelled.{append_same}
use Rattle.rdata_fields.specs.declared.field.Field.{Field}
use Rattle.rdata_fields.specs.declared.field.Field.TheVariants.{Name as OfName}
use Rattle.rdata_fields.proofs.FormLaws.{fields_are_forms}
use Rattle.zone_record.specs.FieldForms.{canonical_field, IsFieldWire, StartsWithFields}
use Rattle.zone_record.specs.Names.{octet_order}
use Rattle.zone_record.proofs.LoweredNames.{lowered_name}
use Rattle.rdata.specs.Printing.{field_size}
use Rattle.zone_record.specs.CanonicalData.{lowered_in}
use Rattle.zone_record.proofs.CanonicalForms.{front_cut}

-- neither of two lists is longer and begins with the other
pub record AreApart (a b : List ℕ) : Type 0 where
  pub left : (more : List ℕ) → a ≡ b ++ more → more ≡ []
  pub right : (more : List ℕ) → b ≡ a ++ more → more ≡ []

-- such lists decide before what follows them
order_apart : (a b x y : List ℕ) → AreApart a b → octet_order (a ++ x) (b ++ y) ≡ ordering_then (octet_order a b) (octet_order x y)
order_apart [] [] x y h = refl
order_apart [] (c ∷ b) x y h = absurd (let none = h.right (c ∷ b) refl in omega (arith, ap length none))
order_apart (c ∷ a) [] x y h = absurd (let none = h.left (c ∷ a) refl in omega (arith, ap length none))
order_apart (c ∷ a) (d ∷ b) x y h = by (nat_cmp c d) refl (order_apart a b x y)
  where
    by : (o : Ordering) → nat_cmp c d ≡ o → (AreApart a b → octet_order (a ++ x) (b ++ y) ≡ ordering_then (octet_order a b) (octet_order x y))
        → ordering_then o (octet_order (a ++ x) (b ++ y)) ≡ ordering_then (ordering_then o (octet_order a b)) (octet_order x y)
    by Less is later = refl
    by Greater is later = refl
    by Equal is later =
        let same : c ≡ d = ranked c d Equal (sym is) in
        later (record { left = λ more e. h.left more (λ i. same i ∷ e i); right = λ more e. h.right more (λ i. sym same i ∷ e i) })

canonical_is_wire : (f : Field) (octets : List ℕ) → IsFieldWire f octets → IsFieldWire f (canonical_field f octets)
canonical_is_wire OfName octets h = lowered_name octets h
canonical_is_wire f octets h = h

-- octets begin with one field of a kind at most
pub front_same : (f : Field) (a b x y : List ℕ) → IsFieldWire f a → IsFieldWire f b → a ++ x ≡ b ++ y → (a ≡ b) × (x ≡ y)
front_same f a b x y p q h =
    let cut : take (length a) (b ++ y) ≡ a =
    ap (take (length a)) (sym h) ∙ take-append-le (length a) a x (omega arith) ∙ take_all (length a) a (omega arith) in
    let within : length a ≤ length (b ++ y) = omega (arith, ap length h, length-append a x) in
    let found : Some (length a) ≡ Some (length b) = (fields_are_forms None tt f).in_front.width b y (Some (length a)) q (within, subst (IsFieldWire f) (sym cut) p) in
    let long : length a ≡ length b = cc in append_same a b x y long h

fields_apart : (f : Field) (a b : List ℕ) → IsFieldWire f a → IsFieldWire f b → AreApart a b
fields_apart f a b p q = record {
  left = λ more e. sym (front_same f a b [] more p q (append-nil a ∙ e)).1;
  right = λ more e. sym (front_same f b a [] more q p (append-nil b ∙ e)).1;
}

-- the first fields decide before what follows them
pub order_front : (f : Field) (a b x y : List ℕ) → IsFieldWire f a → IsFieldWire f b
    → octet_order (canonical_field f a ++ x) (canonical_field f b ++ y) ≡ ordering_then (octet_order (canonical_field f a) (canonical_field f b)) (octet_order x y)
order_front f a b x y p q =
    order_apart (canonical_field f a) (canonical_field f b) x y (fields_apart f (canonical_field f a) (canonical_field f b) (canonical_is_wire f a p) (canonical_is_wire f b q))

-- the fields that are left of both decide as all do
pub record OrderWalk (fields more : List Field) (left right left_rest right_rest : List ℕ) : Type 0 where
  pub left_starts : StartsWithFields more left_rest
  pub right_starts : StartsWithFields more right_rest
  pub same : octet_order (lowered_in more left_rest) (lowered_in more right_rest) ≡ octet_order (lowered_in fields left) (lowered_in fields right)

pub walk_none : (fields : List Field) (left right : List ℕ) → StartsWithFields fields left → StartsWithFields fields right → OrderWalk fields fields left right left right
walk_none fields left right h k = record { left_starts = h; right_starts = k; same = refl }

-- the next field of octets, as a width finds it
record Front (f : Field) (more : List Field) (octets : List ℕ) (width : ℕ) : Type 0 where
  pub wire : IsFieldWire f (take width octets)
  pub starts : StartsWithFields more (drop width octets)
  pub lowered_is : lowered_in (f ∷ more) octets ≡ canonical_field f (take width octets) ++ lowered_in more (drop width octets)

front_of : (f : Field) (more : List Field) (octets : List ℕ) (width : ℕ) → StartsWithFields (f ∷ more) octets → FindsWidth (IsFieldWire f) octets (Some width) → Front f more octets width
front_of f more octets width h found =
    let cut = front_cut f octets (take width octets) (drop width octets) found.1 (sym (take-append-drop width octets)) in
    let same = front_same f (take width octets) h.0 (drop width octets) h.1 found.1 h.2 (take-append-drop width octets ∙ h.3) in record {
      wire = found.1;
      starts = subst (StartsWithFields more) (sym same.1) h.4;
      lowered_is = ap (λ o. canonical_field f o ++ lowered_in more (drop (field_size f octets) octets)) cut.0 ∙ ap (λ o. canonical_field f (take width octets) ++ lowered_in more o) cut.1;
    }

module _ (fields : List Field) (f : Field) (more : List Field) (left right left_rest right_rest : List ℕ) (m n : ℕ) where
  walk_front : OrderWalk fields (f ∷ more) left right left_rest right_rest → FindsWidth (IsFieldWire f) left_rest (Some m) → FindsWidth (IsFieldWire f) right_rest (Some n)
      → ordering_then (octet_order (canonical_field f (take m left_rest)) (canonical_field f (take n right_rest))) (octet_order (lowered_in more (drop m left_rest)) (lowered_in more (drop n right_rest)))
      ≡ octet_order (lowered_in fields left) (lowered_in fields right)
  walk_front w p q =
      let a = front_of f more left_rest m w.left_starts p in
      let b = front_of f more right_rest n w.right_starts q in
      sym (order_front f (take m left_rest) (take n right_rest) (lowered_in more (drop m left_rest)) (lowered_in more (drop n right_rest)) a.wire b.wire)
      ∙ (λ i. octet_order (sym a.lowered_is i) (sym b.lowered_is i)) ∙ w.same

  -- fields that differ decide
  pub walk_decided : (order : Ordering) → OrderWalk fields (f ∷ more) left right left_rest right_rest → FindsWidth (IsFieldWire f) left_rest (Some m) → FindsWidth (IsFieldWire f) right_rest (Some n)
      → order ≡ octet_order (canonical_field f (take m left_rest)) (canonical_field f (take n right_rest)) → (order ≡ Equal → ⊥) → order ≡ octet_order (lowered_in fields left) (lowered_in fields right)
  walk_decided order w p q is other = by order is other ∙ walk_front w p q
    where
      later : Ordering
      later = octet_order (lowered_in more (drop m left_rest)) (lowered_in more (drop n right_rest))

      by : (o : Ordering) → o ≡ octet_order (canonical_field f (take m left_rest)) (canonical_field f (take n right_rest)) → (o ≡ Equal → ⊥)
          → o ≡ ordering_then (octet_order (canonical_field f (take m left_rest)) (canonical_field f (take n right_rest))) later
      by Less is other = ap (λ x. ordering_then x later) is
      by Greater is other = ap (λ x. ordering_then x later) is
      by Equal is other = absurd (other refl)

  -- and others are passed
  pub walk_more : (left_count right_count : ℕ) → OrderWalk fields (f ∷ more) left right left_rest right_rest → FindsWidth (IsFieldWire f) left_rest (Some m) → FindsWidth (IsFieldWire f) right_rest (Some n)
      → octet_order (canonical_field f (take m left_rest)) (canonical_field f (take n right_rest)) ≡ Equal → left_count ≡ length left_rest - m → right_count ≡ length right_rest - n
      → OrderWalk fields more left right (take left_count (drop m left_rest)) (take right_count (drop n right_rest))
  walk_more left_count right_count w p q equal l r =
      let a = front_of f more left_rest m w.left_starts p in
      let b = front_of f more right_rest n w.right_starts q in
      let left_is : take left_count (drop m left_rest) ≡ drop m left_rest = take_all left_count (drop m left_rest) (omega (arith, l, length-drop m left_rest)) in
      let right_is : take right_count (drop n right_rest) ≡ drop n right_rest = take_all right_count (drop n right_rest) (omega (arith, r, length-drop n right_rest)) in record {
        left_starts = subst (StartsWithFields more) (sym left_is) a.starts;
        right_starts = subst (StartsWithFields more) (sym right_is) b.starts;
        same = (λ i. octet_order (lowered_in more (left_is i)) (lowered_in more (right_is i)))
            ∙ ap (λ o. ordering_then o (octet_order (lowered_in more (drop m left_rest)) (lowered_in more (drop n right_rest)))) (sym equal) ∙ walk_front w p q;
      }

pub not_unequal : (order : Ordering) → is_ne order ≡ false → order ≡ Equal
not_unequal Less h = absurd (true≢false h)
not_unequal Equal h = refl
not_unequal Greater h = absurd (true≢false h)

-- the next of the fields
pub walk_next : (fields : List Field) (place : ℕ) (d : Field) (left right left_rest right_rest : List ℕ) → OrderWalk fields (drop place fields) left right left_rest right_rest → place < length fields
    → OrderWalk fields (get_or fields place d ∷ drop (place + 1) fields) left right left_rest right_rest
walk_next fields place d left right left_rest right_rest w lt = subst (λ l. OrderWalk fields l left right left_rest right_rest) (drop_more fields place d lt) w
