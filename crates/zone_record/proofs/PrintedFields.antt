-- Fields that are printed, one after another.
use Rattle.std.proofs.Common.{ℕ, suc, ◌≡◌, ◌+◌, ◌-◌, ◌<◌, ◌≤◌, None, List, [], ◌∷◌, length, take, drop, get_or, refl, sym, ap, subst, ◌∙◌, arith}
use Rattle.std.specs.Prelude.{Result, OnOk, OnErr}
use Rattle.std.proofs.Math.Seq.{drop-append_seam, drop-cons}
use Rattle.std.proofs.lemmas.Result.{on_ok_weaker, on_err_weaker}
use Rattle.std.proofs.lemmas.List.{take_all, length-drop, drop_all}
use Rattle.dns_zone.specs.Layout.{Step}
use Rattle.dns_zone.specs.Writers.{WritesSteps}
use Rattle.rdata_fields.specs.declared.field.Field.{Field}
use Rattle.rdata.specs.Printing.{field_size, printed_field, printed_parts}
use Rattle.zone_record.specs.RdataPrinting.{FailsInSteps, token_step, token_steps}
use Rattle.rdata.specs.RestKinds.{rest_form}
use Rattle.rdata.specs.Rests.{PrintedToken}
use Rattle.rdata.specs.Wire.{BeginsWithFields}
use Rattle.rdata.specs.declared.rest.Rest.{Rest}
use Rattle.rdata.proofs.Sizes.{field_sized}
use Rattle.zone_record.proofs.PrintedTokens.{HasPrinted, more_printed, rest_printed, next_failed, rest_failed}

-- the first field after others
pub front_field : (fields : List Field) (i : ℕ) (d : Field) (octets back : List ℕ) → i < length fields → BeginsWithFields (drop i fields) octets back
    → (rest : List ℕ) × BeginsWithFields (get_or fields i d ∷ []) octets rest
front_field fields i d octets back lt b =
    let c : BeginsWithFields (get_or fields i d ∷ drop (suc i) fields) octets back = subst (λ fs. BeginsWithFields fs octets back) (drop-cons fields i d lt) b in
    (c.1, (c.0, c.1, c.2, c.3, refl))

-- the token of the next field, and those after it
next_field : (fields : List Field) (i : ℕ) (r : Rest) (d : Field) (octets : List ℕ) (width : ℕ) → i < length fields → width ≡ field_size (get_or fields i d) octets
    → printed_parts (drop i fields) r octets ≡ printed_field (get_or fields i d) (take width octets) ∷ printed_parts (drop (i + 1) fields) r (drop width octets)
next_field fields i r d octets width lt wide =
    let f : Field = get_or fields i d in
    let next : suc i ≡ i + 1 = omega arith in
    let cut : drop i fields ≡ f ∷ drop (i + 1) fields = drop-cons fields i d lt ∙ ap (λ n. f ∷ drop n fields) next in
    ap (λ fs. printed_parts fs r octets) cut ∙ ap (λ n. printed_field f (take n octets) ∷ printed_parts (drop (i + 1) fields) r (drop n octets)) (sym wide)

-- after the fields are the octets of the tail
pub rest_left : (fields : List Field) (i : ℕ) (r : Rest) (octets back : List ℕ) → length fields ≤ i → BeginsWithFields (drop i fields) octets back → (rest_form None r).is_wire back → (rest_form None r).is_wire octets
rest_left fields i r octets back end b is = subst (rest_form None r).is_wire (sym (subst (λ fs. BeginsWithFields fs octets back) (drop_all i fields end) b)) is

module _ {F : Type 0} (blocks : F → ℕ) (gives : F → Step → F → Type 0) (w : F) (all : List PrintedToken) (fields : List Field) (i : ℕ) (r : Rest) where
  -- the next field is printed
  pub field_printed : (d : Field) (octets back : List ℕ) (width left : ℕ) (v u : F) → i < length fields → width ≡ field_size (get_or fields i d) octets → left ≡ length octets - width
      → BeginsWithFields (drop i fields) octets back → HasPrinted blocks gives w all (printed_parts (drop i fields) r octets) v
      → blocks u ≡ blocks v → gives v (token_step (printed_field (get_or fields i d) (take width octets))) u
      → HasPrinted blocks gives w all (printed_parts (drop (i + 1) fields) r (take left (drop width octets))) u × BeginsWithFields (drop (i + 1) fields) (take left (drop width octets)) back
  field_printed d octets back width left v u lt wide l b h level gave =
      let f : Field = get_or fields i d in
      let next : suc i ≡ i + 1 = omega arith in
      let cut : drop i fields ≡ f ∷ drop (i + 1) fields = drop-cons fields i d lt ∙ ap (λ n. f ∷ drop n fields) next in
      let c : BeginsWithFields (f ∷ drop (i + 1) fields) octets back = subst (λ fs. BeginsWithFields fs octets back) cut b in
      let sized : width ≡ length c.0 = wide ∙ ap (field_size f) c.2 ∙ field_sized f c.0 c.1 c.3 in
      let rest : take left (drop width octets) ≡ drop width octets = take_all left (drop width octets) (omega (arith, l, length-drop width octets)) in
      let behind : take left (drop width octets) ≡ c.1 = rest ∙ ap (λ n. drop n octets) sized ∙ ap (drop (length c.0)) c.2 ∙ drop-append_seam c.0 c.1 in
      let parts = next_field fields i r d octets width lt wide in (
        more_printed blocks gives w all (printed_parts (drop i fields) r octets) (printed_field f (take width octets)) (printed_parts (drop (i + 1) fields) r (take left (drop width octets))) v u h
            (parts ∙ ap (λ o. printed_field f (take width octets) ∷ printed_parts (drop (i + 1) fields) r o) (sym rest)) level gave,
        subst (λ o. BeginsWithFields (drop (i + 1) fields) o back) (sym behind) c.4,
      )

  -- all fields are printed, and then the tail
  pub parts_printed : {T E : Type 0} (result : Result T E) (octets : List ℕ) (v u : F) → length fields ≤ i → HasPrinted blocks gives w all (printed_parts (drop i fields) r octets) v
      → OnOk result (WritesSteps blocks gives v (token_steps ((rest_form None r).printed octets)) u) → OnOk result (WritesSteps blocks gives w (token_steps all) u)
  parts_printed result octets v u end h later =
      let none : drop i fields ≡ [] = drop_all i fields end in
      on_ok_weaker result
      (λ steps. rest_printed blocks gives w all ((rest_form None r).printed octets) v u (subst (λ fs. HasPrinted blocks gives w all (printed_parts fs r octets) v) none h) steps) later

  module _ (fails : F → Step → Type 0) where
    pub field_failed : (d : Field) (octets : List ℕ) (width : ℕ) (v : F) → i < length fields → width ≡ field_size (get_or fields i d) octets → HasPrinted blocks gives w all (printed_parts (drop i fields) r octets) v
        → fails v (token_step (printed_field (get_or fields i d) (take width octets))) → FailsInSteps blocks gives fails w (token_steps all)
    field_failed d octets width v lt wide h failed =
        next_failed blocks gives fails w all (printed_parts (drop i fields) r octets) (printed_field (get_or fields i d) (take width octets)) (printed_parts (drop (i + 1) fields) r (drop width octets)) v h
        (next_field fields i r d octets width lt wide) failed

    pub parts_failed : {T E : Type 0} (result : Result T E) (octets : List ℕ) (v : F) → length fields ≤ i → HasPrinted blocks gives w all (printed_parts (drop i fields) r octets) v
        → OnErr result (FailsInSteps blocks gives fails v (token_steps ((rest_form None r).printed octets))) → OnErr result (FailsInSteps blocks gives fails w (token_steps all))
    parts_failed result octets v end h later =
        let none : drop i fields ≡ [] = drop_all i fields end in
        on_err_weaker result
        (λ failed. rest_failed blocks gives fails w all ((rest_form None r).printed octets) v (subst (λ fs. HasPrinted blocks gives w all (printed_parts fs r octets) v) none h) failed) later
