-- Worked rows of keys in a zone, of changes between zones, of the numbers of locations, and of digests.
use Rattle.std.specs.Prelude.{◌≡◌, ℕ, ◌+◌, ◌*◌, List, [], ◌∷◌, ◌++◌, codes, refl, Some, None}
use Rattle.rdata_values.specs.Rtype as Rtype
use Rattle.zone_contents.specs.Changes.{change_of}
use Rattle.zone_contents.specs.Contents.{ZoneValue}
use Rattle.zone_contents.specs.Digests.{chosen_at, first_at, simple_fields, zone_alike_count, zone_apex_data, zone_octets}
use Rattle.zone_contents.specs.Keys.{joined_octets, key_in_zone, name_in_zone, name_octets}
use Rattle.zone_contents.specs.Locations.{far_number, located, location}
use Rattle.zone_contents.specs.declared.changes.ZoneChange.TheVariants.{Removed, Added, NewTtl}
use Rattle.zone_contents.specs.Differences.{after_change, before_change}
use Rattle.zone_store.specs.Stored.{added_record, AddedRecord}
use Rattle.zone_contents.specs.declared.algorithm.HashAlgorithm.TheVariants.{Sha512}

-- the zone `b.`
abbrev zone : List (List ℕ)
zone = codes "b" ∷ [] ∷ []

apex_row : key_in_zone zone (codes "B" ∷ [] ∷ []) ≡ 1 ∷ []
apex_row = refl

-- a name below the apex, in either case
below_row : key_in_zone zone (codes "a" ∷ codes "b" ∷ [] ∷ []) ≡ 1 ∷ (codes "a" ++ 0 ∷ [])
below_row = refl

upper_row : key_in_zone zone (codes "A" ∷ codes "B" ∷ [] ∷ []) ≡ 1 ∷ (codes "a" ++ 0 ∷ [])
upper_row = refl

-- names before and after the zone
root_row : key_in_zone zone ([] ∷ []) ≡ 0 ∷ 0 ∷ []
root_row = refl

before_row : key_in_zone zone (codes "a" ∷ [] ∷ []) ≡ 0 ∷ 0 ∷ (codes "a" ++ 0 ∷ [])
before_row = refl

after_row : key_in_zone zone (codes "c" ∷ [] ∷ []) ≡ 2 ∷ 0 ∷ (codes "c" ++ 0 ∷ [])
after_row = refl

longer_row : key_in_zone zone (codes "bb" ∷ [] ∷ []) ≡ 2 ∷ 0 ∷ (codes "bb" ++ 0 ∷ [])
longer_row = refl

-- the names with such keys, in lower case
below_name_row : name_in_zone zone (1 ∷ (codes "a" ++ 0 ∷ [])) ≡ codes "a" ∷ codes "b" ∷ [] ∷ []
below_name_row = refl

after_name_row : name_in_zone zone (2 ∷ 0 ∷ (codes "c" ++ 0 ∷ [])) ≡ codes "c" ∷ [] ∷ []
after_name_row = refl

name_octets_row : name_octets zone (1 ∷ (codes "a" ++ 0 ∷ [])) ≡ 1 ∷ (codes "a" ++ 1 ∷ (codes "b" ++ 0 ∷ []))
name_octets_row = refl

-- the name `ab.`, whose order key is split in its label
joined_row : joined_octets (0 ∷ codes "a") (codes "b" ++ 0 ∷ []) ≡ 2 ∷ (codes "ab" ++ 0 ∷ [])
joined_row = refl

-- records in line 12: at column 1 without a target, and with one in column 16; at column 9 without a target
plain_row : located [] (12 * 256) ≡ location 12 1 12 1
plain_row = refl

target_row : located [] (12 * 256 + 15) ≡ location 12 1 12 16
target_row = refl

indented_row : located [] (12 * 256 + 135) ≡ location 12 9 12 9
indented_row = refl

-- at column 9, with a target two lines below
far_row : located [] (far_number (location 12 9 14 16)) ≡ location 12 9 14 16
far_row = refl

stored_row : located (location 1 2 3 4 ∷ []) 254 ≡ location 1 2 3 4
stored_row = refl

-- the zone with one address record, of a TTL
abbrev with_ttl : ℕ → ZoneValue
with_ttl ttl = record { apex = zone; records = added_record (1 ∷ []) (record { code = 1; class = 1; ttl = ttl; file = 0; offset = 0; rdata = 192 ∷ 0 ∷ 2 ∷ 1 ∷ [] }) ∷ [] }

new_ttl_row : after_change (change_of (with_ttl 60) (with_ttl 90) (NewTtl 0 0))
    ≡ Some (record { owner = codes "b" ∷ [] ∷ []; ttl = 90; class = 1; «data» = record { rtype = 1; octets = 192 ∷ 0 ∷ 2 ∷ 1 ∷ [] } })
new_ttl_row = refl

removed_row : before_change (change_of (with_ttl 60) (with_ttl 90) (Removed 0))
    ≡ Some (record { owner = codes "b" ∷ [] ∷ []; ttl = 60; class = 1; «data» = record { rtype = 1; octets = 192 ∷ 0 ∷ 2 ∷ 1 ∷ [] } })
removed_row = refl

added_row : before_change (change_of (with_ttl 60) (with_ttl 90) (Added 0)) ≡ None
added_row = refl

-- a record at the apex of the zone, by its type, TTL and RDATA
abbrev at_apex : ℕ → ℕ → List ℕ → AddedRecord
at_apex code ttl rdata = added_record (1 ∷ []) (record { code = code; class = 1; ttl = ttl; file = 0; offset = 0; rdata = rdata })

-- an address, the same with another TTL, and a ZONEMD
abbrev with_digest : ZoneValue
with_digest = record { apex = zone; records = at_apex Rtype.a 60 (192 ∷ 0 ∷ 2 ∷ 1 ∷ []) ∷ at_apex Rtype.a 90 (192 ∷ 0 ∷ 2 ∷ 1 ∷ []) ∷ at_apex Rtype.zonemd 60 (0 ∷ 0 ∷ 0 ∷ 9 ∷ 1 ∷ 2 ∷ []) ∷ [] }

-- of duplicates the first one is hashed, and the ZONEMD is not
zone_octets_row : zone_octets zone with_digest ≡ 1 ∷ 98 ∷ 0 ∷ 0 ∷ 1 ∷ 0 ∷ 1 ∷ 0 ∷ 0 ∷ 0 ∷ 60 ∷ 0 ∷ 4 ∷ 192 ∷ 0 ∷ 2 ∷ 1 ∷ []
zone_octets_row = refl

-- in another zone no record is hashed
other_octets_row : zone_octets (codes "a" ∷ [] ∷ []) with_digest ≡ []
other_octets_row = refl

apex_data_row : zone_apex_data Rtype.zonemd zone with_digest ≡ record { rtype = Rtype.zonemd; octets = 0 ∷ 0 ∷ 0 ∷ 9 ∷ 1 ∷ 2 ∷ [] } ∷ []
apex_data_row = refl

-- the second address is a duplicate
first_row : first_at with_digest 1 ≡ []
first_row = refl

chosen_row : chosen_at Rtype.zonemd zone with_digest 2 ≡ 2 ∷ []
chosen_row = refl

not_chosen_row : chosen_at Rtype.soa zone with_digest 2 ≡ []
not_chosen_row = refl

alike_count_row : zone_alike_count (record { serial = 8; scheme = 1; hash = 2; digest = record { ref_ptr = (0, 0); now = [] } }) zone with_digest ≡ 1
alike_count_row = refl

fields_row : simple_fields 9 Sha512 ≡ 0 ∷ 0 ∷ 0 ∷ 9 ∷ 1 ∷ 2 ∷ []
fields_row = refl
