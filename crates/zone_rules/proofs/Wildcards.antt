-- A zone without a wildcard synthesizes nothing.
use Rattle.std.proofs.Common.{ℕ, ◌≡◌, Bool, true, false, Option, Some, None, List, [], ◌∷◌, refl, sym, ap, ◌∙◌, arith}
use Rattle.std.specs.Prelude.{◌==◌, ◌&&◌, ◌||◌, not, nat_eq, map}
use Rattle.std.specs.Cmp.Lexicographic.{pointwise}
use Rattle.std.specs.Char.{to_ascii_lowercase}
use Rattle.std.specs.List.{list_any}
use Rattle.std.specs.Option.{option_map_or}
use Rattle.std.proofs.lemmas.Bool.{false≢true}
use Rattle.std.proofs.lemmas.Bool.Decides.{nat_tests}
use Rattle.dns_octets.specs.Lowered.{lowered}
use Rattle.dns_wire.specs.Order.{same_name}
use Rattle.rdata_values.specs.declared.types.RecordType.{RecordType}
use Rattle.zone_record.specs.declared.record.Record.{Record}
use Rattle.zone_rules.specs.Above.{is_wildcard}
use Rattle.zone_rules.specs.Present.{closest_encloser, is_existing, is_present, is_synthesized}
use Rattle.zone_rules.specs.Zones.{has_type_at, type_of}

-- only an asterisk is one in lower case
star_octet : (c : ℕ) → nat_eq (to_ascii_lowercase c) 42 ≡ true → nat_eq c 42 ≡ true
star_octet c h = Prim.grind (arith, nat_tests, h)

star_label : (label : List ℕ) → pointwise nat_eq (lowered label) (42 ∷ []) ≡ true → pointwise nat_eq label (42 ∷ []) ≡ true
star_label [] h = h
star_label (c ∷ []) h = ap (λ b. b && true) (star_octet c (first (nat_eq (to_ascii_lowercase c) 42) h))
  where
    first : (b : Bool) → (b && true) ≡ true → b ≡ true
    first true h = refl
    first false h = h
star_label (c ∷ d ∷ more) h = absurd (none (nat_eq (to_ascii_lowercase c) 42) h)
  where
    none : (b : Bool) → (b && false) ≡ true → ⊥
    none true h = false≢true h
    none false h = false≢true h

-- an owner that is not a wildcard is not the wildcard below a name
not_star : (owner name : List (List ℕ)) → is_wildcard owner ≡ false → same_name owner ((42 ∷ []) ∷ name) ≡ false
not_star [] name h = refl
not_star (label ∷ labels) name h =
    by (pointwise nat_eq (lowered label) (42 ∷ [])) (pointwise (pointwise nat_eq) (map lowered labels) (map lowered name)) (λ e. false≢true (sym h ∙ star_label label e))
  where
    by : (b rest : Bool) → (b ≡ true → ⊥) → (b && rest) ≡ false
    by true rest never = absurd (never refl)
    by false rest never = refl

-- no record is at the wildcard below a name
no_type_at_star : {N O : Type 0} (rtype : RecordType) (name : List (List ℕ)) (records : List (Record N O)) → list_any (λ r. is_wildcard r.owner) records ≡ false → has_type_at rtype ((42 ∷ []) ∷ name) records ≡ false
no_type_at_star rtype name [] h = refl
no_type_at_star rtype name (r ∷ rs) h =
    let both = neither (is_wildcard r.owner) (list_any (λ r. is_wildcard r.owner) rs) h in
    ap (λ b. (b && type_of r == rtype) || has_type_at rtype ((42 ∷ []) ∷ name) rs) (not_star r.owner name both.0) ∙ no_type_at_star rtype name rs both.1
  where
    neither : (b c : Bool) → (b || c) ≡ false → (b ≡ false) × (c ≡ false)
    neither true c h = absurd (false≢true (sym h))
    neither false c h = (refl, h)

pub nothing_synthesized : {N O : Type 0} (records : List (Record N O)) → list_any (λ r. is_wildcard r.owner) records ≡ false → (rtype : RecordType) (name : List (List ℕ)) → is_synthesized rtype name records [] ≡ false
nothing_synthesized records h rtype name =
    ap (λ b. not (is_existing name records []) && b) (source (closest_encloser name records [])) ∙ by (not (is_existing name records []))
  where
    source : (e : Option (List (List ℕ))) → option_map_or (λ encloser. is_present rtype ((42 ∷ []) ∷ encloser) records []) e false ≡ false
    source None = refl
    source (Some e) = ap (λ b. b || false) (no_type_at_star rtype e records h)

    by : (b : Bool) → (b && false) ≡ false
    by true = refl
    by false = refl
