-- Fields at the start of octets.
use Rattle.std.proofs.Common.{ℕ, Some, None, ◌≡◌, ◌<◌, ◌+◌, ◌-◌, List, [], ◌∷◌, ◌++◌, length, take, drop, get_or, refl, sym, ap, subst, ◌∙◌, arith, length-append, add-one}
use Rattle.std.proofs.Math.Seq.{drop-append_seam, take-append_seam, drop-cons}
use Rattle.std.proofs.lemmas.List.{take-append-drop}
use Rattle.rdata_tokens.proofs.Pieces.{rest_of}
use Rattle.rdata_tokens.specs.Forms.{FindsWidth, AreSelfDelimiting}
use Rattle.rdata_fields.specs.Fields.{field_form}
use Rattle.rdata_fields.specs.declared.field.Field.{Field}
use Rattle.rdata_fields.proofs.FormLaws.{fields_are_forms}
use Rattle.rdata.specs.Wire.{BeginsWithFields}

module _ (Is : List ℕ → Type 0) (fronts : AreSelfDelimiting Is) where
  pub first_width : (octets form more : List ℕ) (width : ℕ) → FindsWidth Is octets (Some width) → octets ≡ form ++ more → Is form → width ≡ length form
  first_width octets form more width found is one =
      let same : Some width ≡ Some (length form) = fronts.width form more (Some width) one (subst (λ o. FindsWidth Is o (Some width)) is found) in
      cc same

  -- one rest follows the form that octets begin with
  pub behind_front : (octets form more : List ℕ) (width : ℕ) → FindsWidth Is octets (Some width) → octets ≡ form ++ more → Is form → drop width octets ≡ more
  behind_front octets form more width found is one =
      ap (λ n. drop n octets) (first_width octets form more width found is one) ∙ ap (drop (length form)) is ∙ drop-append_seam form more

  pub front_found : (octets form more : List ℕ) → octets ≡ form ++ more → Is form → FindsWidth Is octets (Some (length form))
  front_found octets form more is one =
      let long = ap length is ∙ length-append form more in
      let front : take (length form) octets ≡ form = ap (take (length form)) is ∙ take-append_seam form more in
      (omega (arith, long), subst Is (sym front) one)

fronts_of : (f : Field) → AreSelfDelimiting (field_form None f).is_wire
fronts_of f = (fields_are_forms None tt f).in_front

-- octets begin with fields in one way
pub fields_begin_once : (fields : List Field) (octets a b : List ℕ) → BeginsWithFields fields octets a → BeginsWithFields fields octets b → a ≡ b
fields_begin_once [] octets a b h k = sym h ∙ k
fields_begin_once (f ∷ fs) octets a b h k =
    let Is = (field_form None f).is_wire in
    let same : h.1 ≡ k.1 = sym (behind_front Is (fronts_of f) octets h.0 h.1 (length h.0) (front_found Is (fronts_of f) octets h.0 h.1 h.2 h.3) h.2 h.3)
    ∙ behind_front Is (fronts_of f) octets k.0 k.1 (length h.0) (front_found Is (fronts_of f) octets h.0 h.1 h.2 h.3) k.2 k.3 in
    fields_begin_once fs k.1 a b (subst (λ o. BeginsWithFields fs o a) same h.4) k.4

-- what follows the fields from an index on is what follows all of them
pub record HasSplit (fields : List Field) (octets : List ℕ) (more : List Field) (left : List ℕ) : Type 0 where
  pub on : (rest : List ℕ) → BeginsWithFields more left rest → BeginsWithFields fields octets rest
  pub back : (rest : List ℕ) → BeginsWithFields fields octets rest → BeginsWithFields more left rest

pub none_split : (fields : List Field) (octets : List ℕ) → HasSplit fields octets fields octets
none_split fields octets = record { on = λ rest h. h; back = λ rest h. h }

pub field_next : (fields : List Field) (place : ℕ) (f : Field) → place < length fields → drop place fields ≡ get_or fields place f ∷ drop (place + 1) fields
field_next fields place f inside = rw (add-one, drop-cons fields place f) refl

pub one_split : (fields more next : List Field) (octets left after : List ℕ) (f : Field) (width : ℕ) → HasSplit fields octets more left → more ≡ f ∷ next → FindsWidth (field_form None f).is_wire left (Some width)
    → after ≡ take (length left - width) (drop width left) → HasSplit fields octets next after
one_split fields more next octets left after f width h is found rest_is = subst (HasSplit fields octets next) (sym (rest_is ∙ rest_of width left)) (record {
  on = λ rest k. h.on rest (subst (λ fs. BeginsWithFields fs left rest) (sym is) (take width left, drop width left, sym (take-append-drop width left), found.1, k));
  back = λ rest k. behind rest (subst (λ fs. BeginsWithFields fs left rest) is (h.back rest k));
})
  where
    behind : (rest : List ℕ) → BeginsWithFields (f ∷ next) left rest → BeginsWithFields next (drop width left) rest
    behind rest k = subst (λ o. BeginsWithFields next o rest) (sym (behind_front (field_form None f).is_wire (fronts_of f) left k.0 k.1 width found k.2 k.3)) k.4

-- if octets don't begin with a form of the next field, they don't begin with the fields
pub not_split : (fields more next : List Field) (octets left : List ℕ) (f : Field) → HasSplit fields octets more left → more ≡ f ∷ next → FindsWidth (field_form None f).is_wire left None
    → (rest : List ℕ) → BeginsWithFields fields octets rest → ⊥
not_split fields more next octets left f h is none rest k =
    let b : BeginsWithFields (f ∷ next) left rest = subst (λ fs. BeginsWithFields fs left rest) is (h.back rest k) in none b.0 b.1 b.3 b.2

pub all_split : (fields more : List Field) (octets left : List ℕ) → HasSplit fields octets more left → more ≡ [] → BeginsWithFields fields octets left
all_split fields more octets left h is = h.on left (subst (λ fs. BeginsWithFields fs left left) (sym is) refl)
