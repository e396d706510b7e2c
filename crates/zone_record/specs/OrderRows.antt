-- Worked rows of the orders and forms.
use Rattle.std.specs.Prelude.{◌≡◌, ℕ, List, [], ◌∷◌, ◌++◌, replicate, codes, refl}
use Rattle.std.specs.declared.cmp.Ordering.{Ordering}
use Rattle.std.specs.declared.cmp.Ordering.TheVariants.{Less, Equal, Greater}
use Rattle.dns_octets.specs.Lowered.{lowered}
use Rattle.dns_wire.specs.Wire.{wire}
use Rattle.dns_wire.specs.Order.{lowered_wire}
use Rattle.rdata_fields.specs.declared.field.Field.TheVariants.{Number8, Name as OfName, String as OfString}
use Rattle.rdata_values.specs.Rtype as Rtype
use Rattle.rdata_values.specs.declared.classes.Class.{Class}
use Rattle.rdata_values.specs.declared.types.RecordType.{RecordType}
use Rattle.zone_record.specs.FieldForms.{canonical_field}
use Rattle.zone_record.specs.Keys.{label_key, order_key, IsAtOrBelow}
use Rattle.zone_record.specs.Names.{octet_order, name_order}
use Rattle.zone_record.specs.CanonicalRecords.{RecordKey, record_order}
use Rattle.zone_record.specs.EmbeddedNames.{fields_to_last_name}

-- each pair of neighbours, compared
abbrev compared : (List (List ℕ) → List (List ℕ) → Ordering) → List (List (List ℕ)) → List Ordering
compared order [] = []
compared order (a ∷ []) = []
compared order (a ∷ b ∷ more) = order a b ∷ compared order (b ∷ more)

-- the order of each name and the next one, and that of their keys
abbrev neighbours : List (List (List ℕ)) → List Ordering
neighbours = compared name_order

abbrev key_neighbours : List (List (List ℕ)) → List Ordering
key_neighbours = compared (λ a b. octet_order (order_key a) (order_key b))

-- labels below `example.`
abbrev below : List (List ℕ) → List (List ℕ)
below [] = codes "example" ∷ [] ∷ []
below (label ∷ labels) = label ∷ below labels

-- the names of RFC 4034 section 6.1: example, a.example, yljkjljk.a.example, Z.a.example, zABC.a.EXAMPLE, z.example, \001.z.example, *.z.example, \200.z.example
abbrev rfc_names : List (List (List ℕ))
rfc_names =
    below []
    ∷ below (codes "a" ∷ [])
    ∷ below (codes "yljkjljk" ∷ codes "a" ∷ [])
    ∷ below (codes "Z" ∷ codes "a" ∷ [])
    ∷ (codes "zABC" ∷ codes "a" ∷ codes "EXAMPLE" ∷ [] ∷ [])
    ∷ below (codes "z" ∷ [])
    ∷ below ((1 ∷ []) ∷ codes "z" ∷ [])
    ∷ below (codes "*" ∷ codes "z" ∷ [])
    ∷ below ((200 ∷ []) ∷ codes "z" ∷ [])
    ∷ []

rfc_row : neighbours rfc_names ≡ replicate 8 Less
rfc_row = refl

rfc_keys_row : key_neighbours rfc_names ≡ replicate 8 Less
rfc_keys_row = refl

-- the key of the root, that of zABC.a.EXAMPLE, and that of \001.z.example
root_key_row : order_key ([] ∷ []) ≡ 0 ∷ []
root_key_row = refl

name_key_row : order_key (codes "zABC" ∷ codes "a" ∷ codes "EXAMPLE" ∷ [] ∷ []) ≡ 0 ∷ (codes "example" ++ 0 ∷ (codes "a" ++ 0 ∷ (codes "zabc" ++ 0 ∷ [])))
name_key_row = refl

one_key_row : order_key (below ((1 ∷ []) ∷ codes "z" ∷ [])) ≡ 0 ∷ (codes "example" ++ 0 ∷ (codes "z" ++ 0 ∷ 1 ∷ 2 ∷ 0 ∷ []))
one_key_row = refl

-- 0 and 1 are pairs, 2 and 255 are not
pairs_row : label_key (0 ∷ 1 ∷ 2 ∷ 255 ∷ []) ≡ 1 ∷ 1 ∷ 1 ∷ 2 ∷ 2 ∷ 255 ∷ 0 ∷ []
pairs_row = refl

-- a.example, b.a.example, a\000.example, a\001.example, a\002.example and aa.example: what is below a name is before a longer label
pairs_order_row :
    key_neighbours (
    below ((97 ∷ []) ∷ [])
    ∷ below ((98 ∷ []) ∷ (97 ∷ []) ∷ [])
    ∷ below ((97 ∷ 0 ∷ []) ∷ [])
    ∷ below ((97 ∷ 1 ∷ []) ∷ [])
    ∷ below ((97 ∷ 2 ∷ []) ∷ [])
    ∷ below ((97 ∷ 97 ∷ []) ∷ [])
    ∷ []
    )
    ≡ replicate 5 Less
pairs_order_row = refl

case_key_row : order_key (below (codes "Mail" ∷ [])) ≡ order_key (codes "mAIL" ∷ codes "EXAMPLE" ∷ [] ∷ [])
case_key_row = refl

below_row : IsAtOrBelow (below (codes "b" ∷ codes "A" ∷ [])) (codes "a" ∷ codes "EXAMPLE" ∷ [] ∷ [])
below_row = (codes "b" ∷ [], refl)

case_row : name_order (below (codes "Mail" ∷ [])) (codes "mAIL" ∷ codes "EXAMPLE" ∷ [] ∷ []) ≡ Equal
case_row = refl

-- the root is before all, and a label before longer ones that begin with it
root_row : neighbours (([] ∷ []) ∷ (codes "b" ∷ [] ∷ []) ∷ (codes "bb" ∷ [] ∷ []) ∷ (codes "c" ∷ [] ∷ []) ∷ []) ≡ Less ∷ Less ∷ Less ∷ []
root_row = refl

lowered_row : lowered (wire (codes "Mail" ∷ codes "EXAMPLE" ∷ [] ∷ [])) ≡ lowered_wire (codes "Mail" ∷ codes "EXAMPLE" ∷ [] ∷ [])
lowered_row = refl

wire_form_row : lowered_wire (codes "A\\" ∷ (192 ∷ 90 ∷ []) ∷ [] ∷ []) ≡ 2 ∷ 97 ∷ 92 ∷ 2 ∷ 192 ∷ 122 ∷ 0 ∷ []
wire_form_row = refl

-- an absent octet is before a zero
absent_row : octet_order (1 ∷ []) (1 ∷ 0 ∷ []) ≡ Less
absent_row = refl

unsigned_row : octet_order (127 ∷ 255 ∷ []) (128 ∷ []) ≡ Less
unsigned_row = refl

letters_row : octet_order (codes "a") (codes "B") ≡ Greater
letters_row = refl

-- the owner decides first, then the class, then the type, then the RDATA
abbrev key : List (List ℕ) → Class → RecordType → List ℕ → RecordKey
key owner class rtype octets = record { owner = owner; class = class; rtype = rtype; octets = octets }

owner_row : record_order (key ([] ∷ []) 3 Rtype.ns (9 ∷ [])) (key (below []) 1 Rtype.a []) ≡ Less
owner_row = refl

class_row : record_order (key (below []) 1 Rtype.ns (9 ∷ [])) (key (below []) 3 Rtype.a []) ≡ Less
class_row = refl

type_row : record_order (key (below []) 1 Rtype.avc []) (key (below []) 1 Rtype.txt (9 ∷ [])) ≡ Greater
type_row = refl

data_row : record_order (key (below []) 1 Rtype.a (10 ∷ 0 ∷ 0 ∷ 5 ∷ [])) (key (below []) 1 Rtype.a (192 ∷ 0 ∷ 2 ∷ 1 ∷ [])) ≡ Less
data_row = refl

name_field_row : canonical_field OfName (2 ∷ 78 ∷ 83 ∷ 0 ∷ []) ≡ 2 ∷ 110 ∷ 115 ∷ 0 ∷ []
name_field_row = refl

string_field_row : canonical_field OfString (2 ∷ 78 ∷ 83 ∷ []) ≡ 2 ∷ 78 ∷ 83 ∷ []
string_field_row = refl

-- ---- names in RDATA of types without a text form, with the octets before and after them

-- the mail host of MD; in NXT (RFC 2535 section 5.2) the types after the name are unchanged
abbrev two_letters : List ℕ
two_letters = 1 ∷ 65 ∷ 1 ∷ 66 ∷ 0 ∷ []

host_row : fields_to_last_name Rtype.md two_letters ≡ OfName ∷ []
host_row = refl

next_row : fields_to_last_name Rtype.nxt (two_letters ++ 64 ∷ []) ≡ OfName ∷ []
next_row = refl

-- two names of PX after 2 octets (RFC 2163 section 4), the second of which is cut off, or not a name
map_row : fields_to_last_name Rtype.px (65 ∷ 66 ∷ (two_letters ++ two_letters)) ≡ Number8 ∷ Number8 ∷ OfName ∷ OfName ∷ []
map_row = refl

cut_row : fields_to_last_name Rtype.px (65 ∷ 66 ∷ (two_letters ++ 1 ∷ 65 ∷ [])) ≡ []
cut_row = refl

pointer_row : fields_to_last_name Rtype.px (65 ∷ 66 ∷ (two_letters ++ 192 ∷ 12 ∷ [])) ≡ []
pointer_row = refl

-- the signer's name of SIG after 18 octets (RFC 2535 section 4.1)
signer_row : fields_to_last_name Rtype.sig (replicate 18 65 ++ two_letters) ≡ replicate 18 Number8 ++ OfName ∷ []
signer_row = refl

-- a prefix of 64 bits leaves 8 octets of the address of A6, one of 61 bits 9, and one of 128 none (RFC 2874 section 3.1)
prefix_row : fields_to_last_name Rtype.a6 (64 ∷ (replicate 8 65 ++ two_letters)) ≡ replicate 9 Number8 ++ OfName ∷ []
prefix_row = refl

partial_row : fields_to_last_name Rtype.a6 (61 ∷ (replicate 9 65 ++ two_letters)) ≡ replicate 10 Number8 ++ OfName ∷ []
partial_row = refl

whole_row : fields_to_last_name Rtype.a6 (128 ∷ two_letters) ≡ Number8 ∷ OfName ∷ []
whole_row = refl

-- without a prefix there are no names, and no prefix has more bits than an address
no_prefix_row : fields_to_last_name Rtype.a6 (0 ∷ replicate 16 65) ≡ []
no_prefix_row = refl

long_prefix_row : fields_to_last_name Rtype.a6 (129 ∷ two_letters) ≡ []
long_prefix_row = refl

-- X25 has no names
no_names_row : fields_to_last_name Rtype.x25 two_letters ≡ []
no_names_row = refl
