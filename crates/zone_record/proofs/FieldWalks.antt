-- Data walked field by field.
use Rattle.std.proofs.Common.{ℕ, ◌≡◌, ◌+◌, ◌-◌, ◌<◌, ◌≤◌, List, [], ◌∷◌, ◌++◌, length, take, drop, get_or, refl, sym, ap, subst, ◌∙◌, arith, append_assoc, length-append, length-drop, Some, None}
use Rattle.std.proofs.lemmas.List.{append-nil, drop_more, map-append, take-append-drop, take-append-le, take_all}
use Rattle.std.specs.Char.{to_ascii_lowercase}
use Rattle.dns_octets.specs.Appending.{Extends, LacksRoom}
use Rattle.dns_octets.specs.Lowered.{lowered}
use Rattle.dns_octets.specs.Room.{Room}
use Rattle.dns_wire.specs.Labelled.{append_same}
use Rattle.rdata_tokens.specs.Forms.{FindsWidth}
use Rattle.rdata_fields.specs.declared.field.Field.{Field}
use Rattle.rdata_fields.specs.declared.field.Field.TheVariants.{Name as OfName}
use Rattle.rdata_fields.proofs.FormLaws.{fields_are_forms}
use Rattle.zone_record.specs.FieldForms.{canonical_field, IsFieldWire, StartsWithFields, CanonicalFields}
use Rattle.zone_record.proofs.LoweredNames.{length_lowered, lowered_again, lowered_name}

pub length_canonical : (f : Field) (octets : List ℕ) → length (canonical_field f octets) ≡ length octets
length_canonical OfName octets = length_lowered octets
length_canonical f octets = refl

canonical_again : (f : Field) (octets : List ℕ) → canonical_field f (canonical_field f octets) ≡ canonical_field f octets
canonical_again OfName octets = lowered_again octets
canonical_again f octets = refl

canonical_wire : (f : Field) (octets : List ℕ) → IsFieldWire f octets → IsFieldWire f (canonical_field f octets)
canonical_wire OfName octets h = lowered_name octets h
canonical_wire f octets h = h

-- octets begin with one field of a kind at most
part_same : (f : Field) (a b x y : List ℕ) → IsFieldWire f a → IsFieldWire f b → a ++ x ≡ b ++ y → (a ≡ b) × (x ≡ y)
part_same f a b x y p q h =
    let cut : take (length a) (b ++ y) ≡ a =
    ap (take (length a)) (sym h) ∙ take-append-le (length a) a x (omega arith) ∙ take_all (length a) a (omega arith) in
    let within : length a ≤ length (b ++ y) = omega (arith, ap length h, length-append a x) in
    let found : Some (length a) ≡ Some (length b) = (fields_are_forms None tt f).in_front.width b y (Some (length a)) q (within, subst (IsFieldWire f) (sym cut) p) in
    let long : length a ≡ length b = cc in append_same a b x y long h

pub forms_same : (fields : List Field) (octets a b : List ℕ) → CanonicalFields fields octets a → CanonicalFields fields octets b → a ≡ b
forms_same [] octets a b h k = h ∙ sym k
forms_same (f ∷ fs) octets a b h k =
    let part = part_same f h.0 k.0 h.1 k.1 h.3 k.3 (sym h.4 ∙ k.4) in
    let others = forms_same fs h.1 h.2 k.2 h.6 (subst (λ r. CanonicalFields fs r k.2) (sym part.1) k.6) in
    h.5 ∙ (λ i. canonical_field f (part.0 i) ++ others i) ∙ sym k.5

pub forms_long : (fields : List Field) (octets form : List ℕ) → CanonicalFields fields octets form → length form ≡ length octets
forms_long [] octets form h = ap length h
forms_long (f ∷ fs) octets form h =
    omega (arith, ap length h.4, ap length h.5, length-append h.0 h.1, length-append (canonical_field f h.0) h.2, length_canonical f h.0, forms_long fs h.1 h.2 h.6)

pub forms_again : (fields : List Field) (octets form : List ℕ) → CanonicalFields fields octets form → CanonicalFields fields form form
forms_again [] octets form h = refl
forms_again (f ∷ fs) octets form h =
    (canonical_field f h.0, h.2, h.2, canonical_wire f h.0 h.3, h.5, h.5 ∙ ap (λ p. p ++ h.2) (sym (canonical_again f h.0)), forms_again fs h.1 h.2 h.6)

pub forms_some : (fields : List Field) (octets : List ℕ) → StartsWithFields fields octets → (form : List ℕ) × CanonicalFields fields octets form
forms_some [] octets h = (octets, refl)
forms_some (f ∷ fs) octets h = let more = forms_some fs h.1 h.4 in (canonical_field f h.0 ++ more.0, (h.0, h.1, more.0, h.2, h.3, refl, more.1))

pub forms_begin : (fields : List Field) (octets form : List ℕ) → CanonicalFields fields octets form → StartsWithFields fields octets
forms_begin [] octets form h = tt
forms_begin (f ∷ fs) octets form h = (h.0, h.1, h.3, h.4, forms_begin fs h.1 h.2 h.6)

-- octets after the fields are unchanged
pub forms_behind : (fields : List Field) (octets form more : List ℕ) → CanonicalFields fields octets form → CanonicalFields fields (octets ++ more) (form ++ more)
forms_behind [] octets form more h = ap (λ o. o ++ more) h
forms_behind (f ∷ fs) octets form more h = (
  h.0,
  h.1 ++ more,
  h.2 ++ more,
  h.3,
  ap (λ o. o ++ more) h.4 ∙ append_assoc h.0 h.1 more,
  ap (λ o. o ++ more) h.5 ∙ append_assoc (canonical_field f h.0) h.2 more,
  forms_behind fs h.1 h.2 more h.6,
)

canonical_lowered : (f : Field) (octets : List ℕ) → lowered (canonical_field f octets) ≡ lowered octets
canonical_lowered OfName octets = lowered_again octets
canonical_lowered f octets = refl

-- the form differs by the case of letters alone
pub forms_alike : (fields : List Field) (octets form : List ℕ) → CanonicalFields fields octets form → lowered form ≡ lowered octets
forms_alike [] octets form h = ap lowered h
forms_alike (f ∷ fs) octets form h =
    ap lowered h.5 ∙ map-append to_ascii_lowercase (canonical_field f h.0) h.2 ∙ (λ i. canonical_lowered f h.0 i ++ forms_alike fs h.1 h.2 h.6 i)
    ∙ sym (ap lowered h.4 ∙ map-append to_ascii_lowercase h.0 h.1)

-- the first fields are walked, and their canonical form is appended to old octets
pub record FieldWalk (fields left : List Field) (octets rest old new : List ℕ) : Type 0 where
  pub done : List ℕ
  pub gained : new ≡ old ++ done
  pub forms : (others : List ℕ) → CanonicalFields left rest others → CanonicalFields fields octets (done ++ others)
  pub fronts : StartsWithFields fields octets → StartsWithFields left rest
  pub long : length octets ≡ length done + length rest

pub fields_none : (fields : List Field) (octets old : List ℕ) → FieldWalk fields fields octets octets old old
fields_none fields octets old = record { done = []; gained = sym (append-nil old); forms = λ others h. h; fronts = λ h. h; long = omega arith }

-- the rest of a slice after a field
pub fields_more : (fields left : List Field) (f : Field) (octets rest old middle new : List ℕ) (width count : ℕ) → FieldWalk fields (f ∷ left) octets rest old middle
    → FindsWidth (IsFieldWire f) rest (Some width) → new ≡ middle ++ canonical_field f (take width rest) → count ≡ length rest - width
    → FieldWalk fields left octets (take count (drop width rest)) old new
fields_more fields left f octets rest old middle new width count w found gained h =
    let part = take width rest in
    let after = take count (drop width rest) in
    let all : after ≡ drop width rest = take_all count (drop width rest) (omega (arith, h, length-drop width rest)) in
    let whole : rest ≡ part ++ after = sym (take-append-drop width rest) ∙ ap (λ r. part ++ r) (sym all) in record {
      done = w.done ++ canonical_field f part;
      gained = gained ∙ ap (λ t. t ++ canonical_field f part) w.gained ∙ append_assoc old w.done (canonical_field f part);
      forms = λ others h. subst (CanonicalFields fields octets) (sym (append_assoc w.done (canonical_field f part) others))
          (w.forms (canonical_field f part ++ others) (part, after, others, found.1, whole, refl, h));
      fronts = λ h. let k = w.fronts h in subst (StartsWithFields left) (part_same f k.0 part k.1 after k.2 found.1 (sym k.3 ∙ whole)).1 k.4;
      long = omega (arith, w.long, ap length whole, length-append part after, length-append w.done (canonical_field f part), length_canonical f part);
    }

-- the next of the fields
pub next_field : (fields : List Field) (place : ℕ) (d : Field) (octets rest old new : List ℕ) → FieldWalk fields (drop place fields) octets rest old new → place < length fields
    → FieldWalk fields (get_or fields place d ∷ drop (place + 1) fields) octets rest old new
next_field fields place d octets rest old new w lt = subst (λ l. FieldWalk fields l octets rest old new) (drop_more fields place d lt) w

-- if octets of the rest don't surely fit, neither does the canonical form
pub lacks_form : (room : Room) (fields left : List Field) (octets rest old new : List ℕ) (more : ℕ) → FieldWalk fields left octets rest old new → room.fits < length new + more
    → more ≤ length rest → LacksRoom room (CanonicalFields fields octets) old
lacks_form room fields left octets rest old new more w short few = λ form h.
    omega (arith, short, few, w.long, ap length w.gained, length-append old w.done, forms_long fields octets form h)

pub more_behind : (fields left : List Field) (octets rest old middle new : List ℕ) → FieldWalk fields left octets rest old middle → Extends middle new → Extends old new
more_behind fields left octets rest old middle new w h = (w.done ++ h.0, h.1 ∙ ap (λ t. t ++ h.0) w.gained ∙ append_assoc old w.done h.0)
