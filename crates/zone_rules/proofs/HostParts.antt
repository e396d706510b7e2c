-- The names in fields of data.
use Rattle.std.proofs.Common.{ℕ, zero, suc, ◌≡◌, Option, Some, None, List, Bor, [], ◌∷◌, take, sym, ap, subst, ◌∙◌}
use Rattle.std.specs.Prelude.{slice_get, IfSome, MatchOption}
use Rattle.rdata_tokens.specs.NameSpelling.{IsWireName}
use Rattle.rdata_fields.specs.declared.field.Field.{Field}
use Rattle.rdata_fields.specs.declared.field.Field.TheVariants.{Name}
use Rattle.zone_record.specs.FieldForms.{IsFieldWire, StartsWithFields}
use Rattle.rdata.specs.Printing.{field_size}
use Rattle.zone_record.specs.Parts.{field_part}
use Rattle.zone_record.proofs.CanonicalForms.{front_cut}

some_same : (x y : List ℕ) → Some x ≡ Some y → x ≡ y
some_same x y h = cc

field_same : (f g : Field) → Some f ≡ Some g → f ≡ g
field_same f g h = cc

-- a part that is a name field among the first fields is a name
pub part_name : (fields : List Field) (place : ℕ) (octets part : List ℕ) → StartsWithFields fields octets → slice_get fields place ≡ Some Name → field_part fields place octets ≡ Some part → IsWireName part
part_name [] place octets part h k found = cc
part_name (f ∷ fs) zero octets part h k found =
    let cut = front_cut f octets h.0 h.1 h.2 h.3 in
    let is = some_same (take (field_size f octets) octets) part found in
    subst IsWireName (sym cut.0 ∙ is) (subst (λ g. IsFieldWire g h.0) (field_same f Name k) h.2)
part_name (f ∷ fs) (suc place) octets part h k found =
    let cut = front_cut f octets h.0 h.1 h.2 h.3 in
    part_name fs place h.1 part h.4 k (ap (field_part fs place) (sym cut.1) ∙ found)

-- a part that is found is a name
pub named_part : (r : Option (Bor (List ℕ))) (found : Option (List ℕ)) → MatchOption r (found ≡ None) (λ part. found ≡ Some part.now) → ((part : List ℕ) → found ≡ Some part → IsWireName part)
    → IfSome r (λ host. IsWireName host.now)
named_part None found h f = tt
named_part (Some x) found h f = f x.now h
