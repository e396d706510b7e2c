-- The contents of a zone: records, and RRsets with a rejected entry, whose data is unknown.
use Rattle.std.specs.Prelude.{ℕ, ◌≡◌, ◌==◌, ◌&&◌, ◌||◌, not, Bool, IsTrue, false, Option, List, [], ◌∷◌, length}
use Rattle.std.specs.List.{AllAdjacentBelow, find, list_any}
use Rattle.std.specs.Option.{option_map_or}
use Rattle.std.specs.Ordering.{is_le, nat_cmp, ordering_then}
use Rattle.std.specs.declared.cmp.Ordering.{Ordering}
use Rattle.dns_wire.specs.Order.{same_name}
use Rattle.rdata_values.specs.Rtype as Rtype
use Rattle.rdata_values.specs.declared.types.RecordType.{RecordType}
use Rattle.zone_record.specs.Names.{name_order}
use Rattle.zone_record.specs.declared.record.Record.{Record}
use Rattle.zone_rules.specs.Above.{closest_from, names_above, is_below, is_within}
use Rattle.zone_rules.specs.Zones.{has_owner, has_owner_within, has_type_at, type_of}
use Rattle.zone_rules.specs.declared.refused.RrsetName.{RrsetName}

-- the RRset of a record
abbrev pub rrset_of_record : {N O : Type 0} → Record N O → RrsetName
rrset_of_record r = record { owner = r.owner; rtype = type_of r }

-- the order by owner, and then by type
abbrev pub set_order : RrsetName → RrsetName → Ordering
set_order a b = ordering_then (name_order a.owner b.owner) (nat_cmp a.rtype b.rtype)

abbrev pub AreSetsInOrder : List RrsetName → Type 0
AreSetsInOrder sets = AllAdjacentBelow (λ a b. IsTrue (is_le (set_order a b))) sets (length sets)

-- an RRset of a type at a name is listed
abbrev pub is_listed : RecordType → List (List ℕ) → List RrsetName → Bool
is_listed rtype name sets = list_any (λ s. same_name s.owner name && s.rtype == rtype) sets

-- an RRset at a name or below it is listed
abbrev pub is_listed_within : List (List ℕ) → List RrsetName → Bool
is_listed_within name sets = list_any (λ s. is_within s.owner name) sets

-- the zone has an RRset of a type at a name: a record of it, or an entry that was rejected
abbrev pub is_present : {N O : Type 0} → RecordType → List (List ℕ) → List (Record N O) → List RrsetName → Bool
is_present rtype name records refused = has_type_at rtype name records || is_listed rtype name refused

-- a name has A or AAAA
abbrev pub has_address_in : {N O : Type 0} → List (List ℕ) → List (Record N O) → List RrsetName → Bool
has_address_in name records refused = is_present Rtype.a name records refused || is_present Rtype.aaaa name records refused

-- ---- wildcards

-- a name exists if it is an owner, or has owners below it (RFC 4592 section 2.2.3)
abbrev pub is_existing : {N O : Type 0} → List (List ℕ) → List (Record N O) → List RrsetName → Bool
is_existing name records refused = has_owner_within name records || is_listed_within name refused

-- the closest name that exists, of a name and its ancestors
abbrev pub closest_present : {N O : Type 0} → List (Record N O) → List RrsetName → List (List ℕ) → Option (List (List ℕ))
closest_present records refused name = closest_from (λ above. is_existing above records refused) name

-- the closest ancestor that exists (RFC 4592 section 3.3.1)
abbrev pub closest_encloser : {N O : Type 0} → List (List ℕ) → List (Record N O) → List RrsetName → Option (List (List ℕ))
closest_encloser name records refused = find (λ above. is_existing above records refused) (names_above name)

-- the wildcard below a name has a type
abbrev pub wildcard_has : {N O : Type 0} → RecordType → List (List ℕ) → List (Record N O) → List RrsetName → Bool
wildcard_has rtype name records refused = is_present rtype ((42 ∷ []) ∷ name) records refused

-- the wildcard below the closest encloser, which is the source of synthesis, has a type
abbrev pub source_has : {N O : Type 0} → RecordType → List (List ℕ) → List (Record N O) → List RrsetName → Bool
source_has rtype name records refused = option_map_or (λ encloser. wildcard_has rtype encloser records refused) (closest_encloser name records refused) false

-- a name that doesn't exist has a type by synthesis from a wildcard
abbrev pub is_synthesized : {N O : Type 0} → RecordType → List (List ℕ) → List (Record N O) → List RrsetName → Bool
is_synthesized rtype name records refused = not (is_existing name records refused) && source_has rtype name records refused

-- no name has a type by synthesis
abbrev pub NothingIsSynthesized : {N O : Type 0} → List (Record N O) → List RrsetName → Type 0
NothingIsSynthesized records refused = (rtype : RecordType) (name : List (List ℕ)) → is_synthesized rtype name records refused ≡ false

-- a name has an address, of its own or from a wildcard
abbrev pub has_any_address : {N O : Type 0} → List (List ℕ) → List (Record N O) → List RrsetName → Bool
has_any_address name records refused = has_address_in name records refused || (is_synthesized Rtype.a name records refused || is_synthesized Rtype.aaaa name records refused)

-- a name has records: one that was read, or a rejected entry, which is at the name or below it
abbrev pub has_records : {N O : Type 0} → List (List ℕ) → List (Record N O) → List RrsetName → Bool
has_records name records refused = has_owner name records || is_listed_within name refused

-- the source of synthesis has records
abbrev pub source_has_records : {N O : Type 0} → List (List ℕ) → List (Record N O) → List RrsetName → Bool
source_has_records name records refused = option_map_or (λ encloser. has_records ((42 ∷ []) ∷ encloser) records refused) (closest_encloser name records refused) false

-- a name that doesn't exist has records by synthesis from a wildcard
abbrev pub has_synthesized : {N O : Type 0} → List (List ℕ) → List (Record N O) → List RrsetName → Bool
has_synthesized name records refused = not (is_existing name records refused) && source_has_records name records refused

-- a name has records, of its own or from a wildcard
abbrev pub yields_records : {N O : Type 0} → List (List ℕ) → List (Record N O) → List RrsetName → Bool
yields_records name records refused = has_records name records refused || has_synthesized name records refused

-- ---- delegations and renamed subtrees

-- a name below the apex has an NS
abbrev pub is_cut_in : {N O : Type 0} → List (List ℕ) → List (Record N O) → List RrsetName → List (List ℕ) → Bool
is_cut_in origin records refused name = is_below name origin && is_present Rtype.ns name records refused

-- an ancestor of a name is a delegation
abbrev pub is_below_cut_in : {N O : Type 0} → List (List ℕ) → List (Record N O) → List RrsetName → List (List ℕ) → Bool
is_below_cut_in origin records refused name = list_any (is_cut_in origin records refused) (names_above name)

-- a name or one of its ancestors is a delegation
abbrev pub is_delegated_in : {N O : Type 0} → List (List ℕ) → List (Record N O) → List RrsetName → List (List ℕ) → Bool
is_delegated_in origin records refused name = is_cut_in origin records refused name || is_below_cut_in origin records refused name

-- the zone is authoritative for a name: it is in the zone, and neither a delegation nor below one
abbrev pub is_own : {N O : Type 0} → List (List ℕ) → List (Record N O) → List RrsetName → List (List ℕ) → Bool
is_own origin records refused name = is_within name origin && not (is_delegated_in origin records refused name)

-- an ancestor of a name has a DNAME, among the records, or among the rejected entries
abbrev pub has_dname_above : {N O : Type 0} → List (List ℕ) → List (Record N O) → Bool
has_dname_above name records = list_any (λ above. has_type_at Rtype.dname above records) (names_above name)

abbrev pub lists_dname_above : List (List ℕ) → List RrsetName → Bool
lists_dname_above name refused = list_any (λ above. is_listed Rtype.dname above refused) (names_above name)

-- an ancestor of a name has a DNAME (RFC 6672 section 2.3)
abbrev pub is_renamed : {N O : Type 0} → List (List ℕ) → List (Record N O) → List RrsetName → Bool
is_renamed name records refused = has_dname_above name records || lists_dname_above name refused

-- the closest ancestor of a name that has a DNAME
abbrev pub closest_dname : {N O : Type 0} → List (List ℕ) → List (Record N O) → List RrsetName → Option (List (List ℕ))
closest_dname name records refused = find (λ above. is_present Rtype.dname above records refused) (names_above name)
