-- NSEC3 records of names that are not in the zone (RFC 5155 sections 7.1 and 7.2.2).
use Rattle.std.specs.Prelude.{◌≡◌, ℕ, ◌<◌, ◌==◌, ◌&&◌, ◌||◌, nat_le, nat_lt, not, Bool, false, List, length, get_or}
use Rattle.std.specs.List.{list_any}
use Rattle.std.specs.Option.{option_map_or}
use Rattle.dns_wire.specs.Order.{same_name}
use Rattle.rdata_values.specs.Rtype as Rtype
use Rattle.zone_record.specs.declared.record.Record.{Record}
use Rattle.zone_rules.specs.Above.{names_above, is_within}
use Rattle.zone_rules.specs.Present.{has_dname_above}
use Rattle.zone_rules.specs.Zones.{type_of}
use Rattle.zone_dnssec.specs.HashedLinks.{is_bounded}
use Rattle.zone_dnssec.specs.Nsec3Chain.{is_link, matching_owner, some_chain}
use Rattle.zone_dnssec.specs.NsecChain.{is_in_chain}
use Rattle.zone_dnssec.specs.ZoneViews.{ZoneView}

-- a record by which its name is in the zone: the zone is authoritative for the name, no DNAME is above it, and it has more than NSEC3s and their signatures
abbrev pub shows_name : {N O M P : Type 0} → ZoneView N O → Record M P → Bool
shows_name zone r = is_in_chain zone.origin zone.records r && not (has_dname_above r.owner zone.records)

-- an owner is that of the NSEC3 that matches a name
abbrev pub is_matching : {M P : Type 0} → List (List ℕ) → Record M P → List (List ℕ) → List (List ℕ) → Bool
is_matching origin chain name owner = option_map_or (λ o. same_name owner o) (matching_owner origin chain name) false

-- the same of a name at or below the apex
abbrev pub is_hash_in_zone : {N O M P : Type 0} → ZoneView N O → Record M P → List (List ℕ) → List (List ℕ) → Bool
is_hash_in_zone zone chain owner name = is_within name zone.origin && is_matching zone.origin chain name owner

-- of an ancestor of a name
abbrev pub is_hash_above : {N O M P : Type 0} → ZoneView N O → Record M P → List (List ℕ) → List (List ℕ) → Bool
is_hash_above zone chain owner name = list_any (is_hash_in_zone zone chain owner) (names_above name)

-- of the name that a record shows, or of an ancestor
abbrev pub shows_hashed : {N O M P R S : Type 0} → ZoneView N O → Record M P → List (List ℕ) → Record R S → Bool
shows_hashed zone chain owner r = shows_name zone r && (is_hash_in_zone zone chain owner r.owner || is_hash_above zone chain owner r.owner)

-- an NSEC3 of a chain of at most 150 iterations, at the hash of no name that a record shows, and of no ancestor of one
abbrev pub is_unmatched : {N O M P R S : Type 0} → ZoneView N O → Record R S → Record M P → Bool
is_unmatched zone r chain = is_link chain r && (is_bounded chain && not (list_any (shows_hashed zone chain r.owner) zone.records))

-- the same of some chain
abbrev pub matches_no_name : {N O M P : Type 0} → ZoneView N O → Record M P → Bool
matches_no_name zone r = type_of r == Rtype.nsec3 && some_chain (is_unmatched zone r) zone

-- ---- marks of records: words for private functions

-- the marks from one index up to another are set
pub record MarksWithin (first past : ℕ) (old new : List Bool) : Type 0 where
  pub size : length new ≡ length old
  pub each : (i : ℕ) (d : Bool) → i < length old → get_or new i d ≡ (get_or old i d || (nat_le first i && nat_lt i past))

-- the marks of records whose owner passes a test are set
pub record MarksOwners {N O : Type 0} (records : List (Record N O)) (test : List (List ℕ) → Bool) (old new : List Bool) : Type 0 where
  pub size : length new ≡ length old
  pub each : (i : ℕ) (d : Bool) (e : Record N O) → i < length records → get_or new i d ≡ (get_or old i d || test (get_or records i e).owner)

-- the records at hashes of names that some records show have marks, and no others
pub record HaveMarks {N O M P : Type 0} (zone : ZoneView N O) (chain : Record M P) (shown : List (Record N O)) (marks : List Bool) : Type 0 where
  pub size : length marks ≡ length zone.records
  pub each : (i : ℕ) (d : Bool) (e : Record N O) → i < length zone.records → get_or marks i d ≡ list_any (shows_hashed zone chain (get_or zone.records i e).owner) shown

-- the mark with an index is not set
abbrev pub is_unset : List Bool → ℕ → Bool
is_unset marks place = not (get_or marks place false)
