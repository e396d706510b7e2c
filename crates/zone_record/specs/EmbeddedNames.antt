-- Names in RDATA of MD, MF, NXT and A6, which have no text form here, and of SIG and PX.
use Rattle.std.specs.Prelude.{ℕ, zero, suc, ◌+◌, ◌-◌, ◌/◌, ◌==◌, ◌||◌, ◌&&◌, nat_lt, nat_le, is_some, if◌then◌else◌, Option, Some, None, List, [], ◌∷◌, ◌++◌, length, take, drop, replicate, slice_index}
use Rattle.std.specs.List.{list_all}
use Rattle.std.specs.Option.{option_map, option_and_then}
use Rattle.dns_octets.specs.Lowered.{lowered}
use Rattle.dns_wire.specs.Limits.{max_label, max_name}
use Rattle.rdata_fields.specs.declared.field.Field.{Field}
use Rattle.rdata_fields.specs.declared.field.Field.TheVariants.{Number8, Name as OfName}
use Rattle.rdata_values.specs.Rtype as Rtype
use Rattle.rdata_values.specs.declared.types.RecordType.{RecordType}
use Rattle.zone_record.specs.declared.embedded_names.NamePlaces.{NamePlaces}

-- `front` octets, and after them `names` names
abbrev pub names_after_octets : ℕ → ℕ → NamePlaces
names_after_octets front names = record { front = front; names = names }

-- A6 (RFC 2874 section 3.1): the length of the prefix in bits, the other bits of the address in whole octets, and the name of the prefix, if it has bits
abbrev pub address_form : ℕ → NamePlaces
address_form prefix = if nat_lt 0 prefix && nat_le prefix 128 then names_after_octets (1 + (128 - prefix + 7) / 8) 1 else names_after_octets 0 0

-- MD, MF and NXT begin with a name, SIG has 18 octets before the signer's, and PX a preference before two (RFC 1035 sections 3.3.4 and 3.3.5, RFC 2535 sections 5.2 and 4.1, RFC 2163 section 4)
abbrev pub untexted_form : RecordType → List ℕ → NamePlaces
untexted_form rtype octets =
    if rtype == Rtype.md || rtype == Rtype.mf || rtype == Rtype.nxt then names_after_octets 0 1
    else if rtype == Rtype.sig then names_after_octets 18 1
    else if rtype == Rtype.px then names_after_octets 2 2
    else if rtype == Rtype.a6 then address_form (slice_index octets 0)
    else names_after_octets 0 0

-- the length in octets of labels of at most 63 octets and the root after them, if octets begin with them; the first argument limits the number of labels
abbrev pub labels_before_root : ℕ → List ℕ → Option ℕ
labels_before_root zero octets = None
labels_before_root (suc more) [] = None
labels_before_root (suc more) (zero ∷ octets) = Some 1
labels_before_root (suc more) (suc n ∷ octets) =
    if nat_le (suc n) max_label && nat_le (suc n) (length octets) then option_map (λ width. 2 + n + width) (labels_before_root more (drop (suc n) octets)) else None

abbrev pub if_at_most : ℕ → Option ℕ → Option ℕ
if_at_most most None = None
if_at_most most (Some width) = if nat_le width most then Some width else None

-- the length in octets of the name that octets begin with, if they begin with one
abbrev pub name_size : List ℕ → Option ℕ
name_size octets = if_at_most max_name (labels_before_root (length octets) octets)

-- the length in octets of `names` names
abbrev pub names_size : ℕ → List ℕ → Option ℕ
names_size zero octets = Some 0
names_size (suc names) octets = option_and_then (λ width. option_map (λ more. width + more) (names_size names (drop width octets))) (name_size octets)

-- the octets and names of a form, if octets begin with them
abbrev pub fields_of_form : NamePlaces → List ℕ → List Field
fields_of_form p octets =
    if list_all (λ o. nat_lt o 256) octets && is_some (names_size p.names (drop p.front octets)) then replicate p.front Number8 ++ replicate p.names OfName else []

-- the fields that RDATA begins with up to the last name, or none if it doesn't begin with such fields
abbrev pub fields_to_last_name : RecordType → List ℕ → List Field
fields_to_last_name rtype octets = fields_of_form (untexted_form rtype octets) octets

-- octets with those from one offset to another in lower case, as the code does it
abbrev pub lowered_between : ℕ → ℕ → List ℕ → List ℕ
lowered_between start end octets = take start octets ++ (lowered (take (end - start) (drop start octets)) ++ drop end octets)
