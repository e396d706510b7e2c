-- The canonical form of RDATA (RFC 4034 section 6.2).
use Rattle.std.specs.Prelude.{◌≡◌, ⊤, ℕ, List, [], ◌∷◌, ◌++◌, None}
use Rattle.dns_octets.specs.Appending.{LacksRoom}
use Rattle.dns_octets.specs.Lowered.{lowered}
use Rattle.dns_octets.specs.Room.{Room}
use Rattle.rdata_fields.specs.Fields.{field_form}
use Rattle.rdata_fields.specs.declared.field.Field.{Field}
use Rattle.rdata_fields.specs.declared.field.Field.TheVariants.{Name as OfName}
use Rattle.rdata_values.specs.Rtype as Rtype
use Rattle.rdata_values.specs.declared.types.RecordType.{RecordType}
use Rattle.zone_record.specs.declared.fields.CanonicalError.{CanonicalError}
use Rattle.zone_record.specs.declared.fields.CanonicalError.TheVariants.{BadData, ShortBuf}

-- the types with names in lower case in the canonical form of their RDATA
abbrev pub lowered_types : List RecordType
lowered_types =
    Rtype.ns ∷ Rtype.md ∷ Rtype.mf ∷ Rtype.cname ∷ Rtype.soa ∷ Rtype.mb ∷ Rtype.mg ∷ Rtype.mr ∷ Rtype.ptr ∷ Rtype.minfo ∷ Rtype.mx ∷ Rtype.rp
    ∷ Rtype.afsdb ∷ Rtype.rt ∷ Rtype.sig ∷ Rtype.px ∷ Rtype.nxt ∷ Rtype.srv ∷ Rtype.naptr ∷ Rtype.kx ∷ Rtype.a6 ∷ Rtype.dname ∷ Rtype.rrsig ∷ []

-- the octets of a field in canonical form: those of a name in lower case, and any others unchanged
abbrev pub canonical_field : Field → List ℕ → List ℕ
canonical_field OfName octets = lowered octets
canonical_field field octets = octets

-- the octets are such a field
abbrev pub IsFieldWire : Field → List ℕ → Type 0
IsFieldWire field = (field_form None field).is_wire

-- the octets begin with these fields, one after another
abbrev pub StartsWithFields : List Field → List ℕ → Type 0
StartsWithFields [] octets = ⊤
StartsWithFields (f ∷ fs) octets = (part rest : List ℕ) × IsFieldWire f part × (octets ≡ part ++ rest) × StartsWithFields fs rest

-- RDATA that begins with these fields, and its canonical form: each field in canonical form, and
-- what follows them unchanged
abbrev pub CanonicalFields : List Field → List ℕ → List ℕ → Type 0
CanonicalFields [] octets form = form ≡ octets
CanonicalFields (f ∷ fs) octets form =
    (part rest others : List ℕ) × IsFieldWire f part × (octets ≡ part ++ rest) × (form ≡ canonical_field f part ++ others) × CanonicalFields fs rest others

-- why no canonical form was appended: the RDATA doesn't begin with the fields, or the octets don't surely fit
abbrev pub RefusesFields : Room → List Field → List ℕ → List ℕ → CanonicalError → Type 0
RefusesFields room fields octets old BadData = StartsWithFields fields octets → ⊥
RefusesFields room fields octets old ShortBuf = LacksRoom room (CanonicalFields fields octets) old
