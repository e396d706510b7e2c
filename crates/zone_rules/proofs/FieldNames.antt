-- The names in fields of data, and names that are constants.
use Rattle.std.proofs.Common.{ℕ, ◌≡◌, ◌<◌, ◌≤◌, Bool, true, false, Option, Some, None, List, [], ◌∷◌, ◌++◌, length, refl, sym, ap, subst, arith, length-append}
use Rattle.std.specs.Prelude.{◌==◌, ◌&&◌, if◌then◌else◌, nat_lt, slice_get, codes}
use Rattle.std.specs.List.{list_all}
use Rattle.std.proofs.lemmas.Bool.{eqb-true}
use Rattle.std.proofs.lemmas.Bool.Decides.{nat_tests}
use Rattle.std.proofs.lemmas.List.Elements.{All-cons, All-nil}
use Rattle.rdata_values.specs.Rtype as Rtype
use Rattle.rdata_tokens.specs.NameSpelling.{IsWireName}
use Rattle.rdata_tokens.specs.Spelling.{AreOctetValues}
use Rattle.dns_wire.specs.Wire.{wire, IsName}
use Rattle.rdata.specs.ByType.{HasShape, shape_of_code}
use Rattle.rdata.specs.Types.{TypeShape, type_shapes}
use Rattle.rdata_fields.specs.declared.field.Field.TheVariants.{Name}
use Rattle.zone_record.specs.Parts.{data_part, field_part}
use Rattle.zone_record.specs.CanonicalData.{fields_of_shape}
use Rattle.zone_record.specs.TypeData.{IsTypeData, TypeData}
use Rattle.zone_record.proofs.CanonicalForms.{begins_start}
use Rattle.zone_record.proofs.DataBack.{shape_with}
use Rattle.zone_rules.specs.HostNames.{IsNameField, target_field}
use Rattle.zone_rules.specs.Zones.{host_field}
use Rattle.zone_rules.proofs.HostParts.{part_name}
use Rattle.zone_rules.proofs.NameParts.{longer_is, longer_name}

-- ---- fields

in_shape : (rtype field : ℕ) (octets part : List ℕ) (found : Option TypeShape) → shape_of_code rtype ≡ found → slice_get (fields_of_shape found) field ≡ Some Name → IsTypeData rtype octets
    → field_part (fields_of_shape found) field octets ≡ Some part → IsWireName part
in_shape rtype field octets part None same k is h = cc
in_shape rtype field octets part (Some s) same k is h =
    let own = is.shaped (shape_with s) (subst (λ f. HasShape f (shape_with s)) (sym same) (refl, refl, refl)) in
    part_name s.fields field octets part (begins_start s.fields octets own.back own.fields) k h

-- the octets of a name field in data are a name
pub field_name : (d : TypeData) (field : ℕ) (part : List ℕ) → IsNameField d.rtype field → IsTypeData d.rtype d.octets → data_part d field ≡ Some part → IsWireName part
field_name d field part k is h = in_shape d.rtype field d.octets part (shape_of_code d.rtype) refl k is h

named_if : (rtype n place field : ℕ) (others : Option ℕ) → IsNameField n place → (others ≡ Some field → IsNameField rtype field) → (if rtype == n then Some place else others) ≡ Some field → IsNameField rtype field
named_if rtype n place field others known more h = by (rtype == n) refl h
  where
    by : (b : Bool) → (rtype == n) ≡ b → (if b then Some place else others) ≡ Some field → IsNameField rtype field
    by true e k =
        let is : place ≡ field = cc in
        subst (λ c. IsNameField c field) (sym (eqb-true rtype n e)) (subst (IsNameField n) is known)
    by false e k = more k

pub target_named : (rtype field : ℕ) → target_field rtype ≡ Some field → IsNameField rtype field
unfolding type_shapes
target_named rtype field =
    named_if rtype Rtype.ns 0 field _ refl
    (named_if rtype Rtype.soa 0 field _ refl
    (named_if rtype Rtype.ptr 0 field _ refl
    (named_if rtype Rtype.mx 1 field _ refl
    (named_if rtype Rtype.afsdb 1 field _ refl
    (named_if rtype Rtype.rt 1 field _ refl
    (named_if rtype Rtype.srv 3 field _ refl
    (named_if rtype Rtype.svcb 1 field _ refl
    (named_if rtype Rtype.https 1 field _ refl (λ e. cc)))))))))

pub host_named : (rtype field : ℕ) → host_field rtype ≡ Some field → IsNameField rtype field
unfolding type_shapes
host_named rtype field =
    named_if rtype Rtype.ns 0 field _ refl
    (named_if rtype Rtype.mx 1 field _ refl
    (named_if rtype Rtype.srv 3 field _ refl (λ e. cc)))

pub mailbox_named : IsNameField Rtype.soa 1
unfolding type_shapes
mailbox_named = refl

pub alias_named : IsNameField Rtype.cname 0
unfolding type_shapes
alias_named = refl

-- ---- constants

value_test : (o : ℕ) → nat_lt o 256 ≡ true → o < 256
value_test o h = grind (arith, nat_tests)

all_values : (octets : List ℕ) → list_all (λ o. nat_lt o 256) octets ≡ true → AreOctetValues octets
all_values [] h = All-nil (λ o. o < 256)
all_values (o ∷ os) h = All-cons (λ p. p < 256) o os (value_test o (front (nat_lt o 256) _ h)) (all_values os (back (nat_lt o 256) _ h))
  where
    front : (b c : Bool) → (b && c) ≡ true → b ≡ true
    front true c e = refl
    front false c e = e

    back : (b c : Bool) → (b && c) ≡ true → c ≡ true
    back true c e = e
    back false c e = cc

root_alone : (front back : List (List ℕ)) → [] ∷ [] ≡ front ++ [] ∷ back → back ≡ []
root_alone [] back e = cc
root_alone (x ∷ xs) back e = absurd (let l = ap length e in omega (arith, length-append xs ([] ∷ back)))

root_name : IsName ([] ∷ [])
root_name = record {
  short = All-cons (λ l. length l ≤ 63) [] [] (omega arith) (All-nil (λ l. length l ≤ 63));
  root_last = root_alone;
  fits = omega arith;
}

root_wire : IsWireName (wire ([] ∷ []))
root_wire = record { labels = [] ∷ []; is_name = root_name; absolute = ([], refl); values = all_values (0 ∷ []) refl; whole = refl }

abbrev arpa : List (List ℕ)
arpa = codes "arpa" ∷ [] ∷ []

arpa_name : IsName arpa
arpa_name = longer_is (codes "arpa") ([] ∷ []) (omega arith) (omega arith) root_name (omega arith)

arpa_wire : IsWireName (wire arpa)
arpa_wire = longer_name (codes "arpa") ([] ∷ []) (omega arith) (omega arith) (all_values (codes "arpa") refl) root_name ([], refl) root_wire (omega arith)

pub in_addr_wire : IsWireName (wire (codes "in-addr" ∷ codes "arpa" ∷ [] ∷ []))
in_addr_wire = longer_name (codes "in-addr") arpa (omega arith) (omega arith) (all_values (codes "in-addr") refl) arpa_name (codes "arpa" ∷ [], refl) arpa_wire (omega arith)

pub ip6_wire : IsWireName (wire (codes "ip6" ∷ codes "arpa" ∷ [] ∷ []))
ip6_wire = longer_name (codes "ip6") arpa (omega arith) (omega arith) (all_values (codes "ip6") refl) arpa_name (codes "arpa" ∷ [], refl) arpa_wire (omega arith)

pub invalid_wire : IsWireName (wire (codes "invalid" ∷ [] ∷ []))
invalid_wire = longer_name (codes "invalid") ([] ∷ []) (omega arith) (omega arith) (all_values (codes "invalid") refl) root_name ([], refl) root_wire (omega arith)

pub localhost_wire : IsWireName (wire (codes "localhost" ∷ [] ∷ []))
localhost_wire = longer_name (codes "localhost") ([] ∷ []) (omega arith) (omega arith) (all_values (codes "localhost") refl) root_name ([], refl) root_wire (omega arith)
