-- Host names, and the names in records that must be host names.
use Rattle.std.specs.Prelude.{◌≡◌, ℕ, ◌-◌, ◌==◌, ◌&&◌, ◌||◌, not, nat_eq, nat_le, if◌then◌else◌, Bool, true, false, Option, Some, None, List, [], ◌∷◌, length, slice_get, codes, option_and_then}
use Rattle.std.specs.Char.{is_ascii_alphanumeric}
use Rattle.std.specs.Cmp.Lexicographic.{pointwise}
use Rattle.std.specs.List.{list_all}
use Rattle.std.specs.Option.{option_map, option_map_or}
use Rattle.dns_octets.specs.Lowered.{same_lowered}
use Rattle.rdata_values.specs.Rtype as Rtype
use Rattle.rdata_values.specs.declared.types.RecordType.{RecordType}
use Rattle.rdata_tokens.specs.PrintedNames.{labels_in_octets}
use Rattle.rdata_fields.specs.declared.field.Field.TheVariants.{Name as OfName}
use Rattle.rdata.specs.ByType.{shape_of_code}
use Rattle.zone_record.specs.CanonicalData.{fields_of_shape}
use Rattle.zone_record.specs.Parts.{data_part}
use Rattle.zone_record.specs.Records.{data_of}
use Rattle.zone_record.specs.declared.record.Record.{Record}
use Rattle.zone_rules.specs.Above.{is_below}
use Rattle.zone_rules.specs.Zones.{type_of}

-- a letter, a digit or a hyphen
abbrev pub is_host_octet : ℕ → Bool
is_host_octet o = is_ascii_alphanumeric o || o == 45

abbrev pub has_hyphen_at : ℕ → List ℕ → Bool
has_hyphen_at place label = option_map_or (λ o. o == 45) (slice_get label place) false

-- letters, digits and hyphens, with no hyphen at either end (RFC 952, RFC 1123 section 2.1)
abbrev pub is_host_label : List ℕ → Bool
is_host_label label = list_all is_host_octet label && not (has_hyphen_at 0 label || has_hyphen_at (length label - 1) label)

-- each label is one of a host name; the root's is empty
abbrev pub is_host_name : List (List ℕ) → Bool
is_host_name labels = list_all is_host_label labels

-- a host name, or an asterisk before one: the owner of an address
abbrev pub is_host_owner : List (List ℕ) → Bool
is_host_owner [] = true
is_host_owner (label ∷ labels) = (pointwise nat_eq label (42 ∷ []) || is_host_label label) && is_host_name labels

abbrev pub is_graphic : ℕ → Bool
is_graphic o = nat_le 33 o && nat_le o 126

-- printable octets in the first label, and after it a host name (RFC 1035 section 8)
abbrev pub is_mailbox_name : List (List ℕ) → Bool
is_mailbox_name [] = true
is_mailbox_name (label ∷ labels) = list_all is_graphic label && is_host_name labels

-- `gc._msdcs.` and a host name: the addresses of Active Directory's global catalogs
abbrev pub is_catalog_name : List (List ℕ) → Bool
is_catalog_name [] = false
is_catalog_name (a ∷ []) = false
is_catalog_name (a ∷ b ∷ []) = false
is_catalog_name (a ∷ b ∷ c ∷ labels) = same_lowered a (codes "gc") && (same_lowered b (codes "_msdcs") && is_host_name (c ∷ labels))

-- below the top of the reverse trees (RFC 1035 section 3.5, RFC 3596 section 2.5)
abbrev pub is_reverse_name : List (List ℕ) → Bool
is_reverse_name name = is_below name (codes "in-addr" ∷ codes "arpa" ∷ [] ∷ []) || is_below name (codes "ip6" ∷ codes "arpa" ∷ [] ∷ [])

-- ---- records

-- the owner of an address, A, AAAA, WKS or A6
abbrev pub is_address_type : RecordType → Bool
is_address_type rtype = rtype == Rtype.a || (rtype == Rtype.aaaa || (rtype == Rtype.wks || rtype == Rtype.a6))

-- the owner of A, AAAA, WKS, A6 or MX is not a host name; that of A and AAAA may be one of a global catalog
abbrev pub is_bad_owner : {N O : Type 0} → Record N O → Bool
is_bad_owner r = (is_address_type (type_of r) || type_of r == Rtype.mx) && (not (is_host_owner r.owner) && not ((type_of r == Rtype.a || type_of r == Rtype.aaaa) && is_catalog_name r.owner))

-- the field that is a host name: the name server of NS, the primary server of SOA and the target of PTR first, the exchange of MX and the target or host of AFSDB, RT, SVCB and HTTPS second, the target of SRV fourth
abbrev pub target_field : RecordType → Option ℕ
target_field rtype =
    if rtype == Rtype.ns then Some 0
    else if rtype == Rtype.soa then Some 0
    else if rtype == Rtype.ptr then Some 0
    else if rtype == Rtype.mx then Some 1
    else if rtype == Rtype.afsdb then Some 1
    else if rtype == Rtype.rt then Some 1
    else if rtype == Rtype.srv then Some 3
    else if rtype == Rtype.svcb then Some 1
    else if rtype == Rtype.https then Some 1
    else None

-- this field of a type's data is a name
abbrev pub IsNameField : RecordType → ℕ → Type 0
IsNameField rtype field = slice_get (fields_of_shape (shape_of_code rtype)) field ≡ Some OfName

-- the name in a field of a record
abbrev pub name_in : {N O : Type 0} → Record N O → Option ℕ → Option (List (List ℕ))
name_in r field = option_map labels_in_octets (option_and_then (data_part (data_of r)) field)

-- the target of a PTR must be a host name only in the reverse trees
abbrev pub asks_for_host : {N O : Type 0} → Record N O → Bool
asks_for_host r = not (type_of r == Rtype.ptr) || is_reverse_name r.owner

abbrev pub is_bad_target : {N O : Type 0} → Record N O → Bool
is_bad_target r = asks_for_host r && option_map_or (λ name. not (is_host_name name)) (name_in r (target_field (type_of r))) false

-- the mailbox of an SOA
abbrev pub is_bad_mailbox : {N O : Type 0} → Record N O → Bool
is_bad_mailbox r = type_of r == Rtype.soa && option_map_or (λ name. not (is_mailbox_name name)) (name_in r (Some 1)) false

-- a name in a record must be a host name, and is not
abbrev pub is_bad_host_name : {N O : Type 0} → Record N O → Bool
is_bad_host_name r = is_bad_owner r || (is_bad_target r || is_bad_mailbox r)
