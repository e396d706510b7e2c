-- The NSEC3 records that the names of a zone require (RFC 5155 section 7.1).
use Rattle.std.specs.Prelude.{ℕ, nat_le, ◌==◌, ◌&&◌, ◌||◌, not, Bool, true, false, Option, List}
use Rattle.std.specs.List.{list_any}
use Rattle.std.specs.Option.{option_map_or}
use Rattle.dns_wire.specs.Order.{same_name}
use Rattle.rdata_values.specs.Rtype as Rtype
use Rattle.zone_record.specs.declared.record.Record.{Record}
use Rattle.zone_rules.specs.Above.{names_above, is_within}
use Rattle.zone_rules.specs.Rules.{is_zone_cut}
use Rattle.zone_rules.specs.Zones.{type_of, has_type_at, has_owner}
use Rattle.zone_dnssec.specs.HashedNames.{hashed_owner}
use Rattle.zone_dnssec.specs.NsecChain.{are_at_one_name}
use Rattle.zone_dnssec.specs.NsecTypes.{lists_exactly}
use Rattle.zone_dnssec.specs.Nsec3Chain.{next_hash_of, hashed_bitmap, opts_out, iterations_of, is_link, some_chain, matching_owner, matching_link, link_after, link_before}
use Rattle.zone_dnssec.specs.SignedSets.{is_authoritative, starts}
use Rattle.zone_dnssec.specs.ZoneViews.{ZoneView}
use Rattle.zone_dnssec.specs.declared.hashed.LinkFault.{LinkFault}
use Rattle.zone_dnssec.specs.declared.hashed.LinkFault.TheVariants.{Missing, DifferentTypes}

-- the next hash is that of a record's owner
abbrev pub is_hash_of : {N O : Type 0} → List (List ℕ) → List ℕ → Record N O → Bool
is_hash_of origin hash r = option_map_or (λ owner. same_name owner r.owner) (hashed_owner origin hash) false

-- the next hash of an NSEC3 is that of the next one in the chain
abbrev pub points_to_next : {N O M P R S : Type 0} → ZoneView N O → Record M P → Record R S → Bool
points_to_next zone chain r = option_map_or (is_hash_of zone.origin (next_hash_of r)) (link_after zone.records chain r.owner) false

-- the next hash of an NSEC3 of a chain is wrong
abbrev pub is_out_of_order : {N O M P R S : Type 0} → ZoneView N O → Record R S → Record M P → Bool
is_out_of_order zone r chain = is_link chain r && not (points_to_next zone chain r)

-- the next hash of an NSEC3 is wrong in some chain
abbrev pub breaks_some_chain : {N O M P : Type 0} → ZoneView N O → Record M P → Bool
breaks_some_chain zone r = some_chain (is_out_of_order zone r) zone

abbrev pub names_other_hash : {N O M P : Type 0} → ZoneView N O → Record M P → Bool
names_other_hash zone r = type_of r == Rtype.nsec3 && breaks_some_chain zone r

-- no NSEC3 matches a name
abbrev pub lacks_link : {N O M P : Type 0} → ZoneView N O → Record M P → List (List ℕ) → Bool
lacks_link zone chain name = option_map_or (λ link. false) (matching_link zone chain name) true

-- no NSEC3 matches a name, and the one that covers it opts out
abbrev pub is_covered_by_opt_out : {N O M P : Type 0} → ZoneView N O → Record M P → List (List ℕ) → Bool
is_covered_by_opt_out zone chain name =
    lacks_link zone chain name && option_map_or (λ owner. option_map_or opts_out (link_before zone.records chain owner) false) (matching_owner zone.origin chain name) false

-- a name is a delegation without DS, which a chain omits by Opt-Out
abbrev pub is_opted_out : {N O M P : Type 0} → ZoneView N O → Record M P → List (List ℕ) → Bool
is_opted_out zone chain name =
    is_zone_cut zone.origin zone.records name && (not (has_type_at Rtype.ds name zone.records) && is_covered_by_opt_out zone chain name)

-- the types of the NSEC3 that matches a name differ from those at the name
abbrev pub lists_other_hashed_types : {N O M P : Type 0} → ZoneView N O → Record M P → List (List ℕ) → Bool
lists_other_hashed_types zone chain name =
    option_map_or (λ link. not (lists_exactly (is_zone_cut zone.origin zone.records name) zone.records name (hashed_bitmap link))) (matching_link zone chain name) false

-- no NSEC3 matches a name, or its types differ
abbrev pub fails_name : {N O M P : Type 0} → LinkFault → ZoneView N O → Record M P → List (List ℕ) → Bool
fails_name Missing zone chain name = lacks_link zone chain name
fails_name DifferentTypes zone chain name = lists_other_hashed_types zone chain name

-- a name in the zone that owns no record
abbrev pub is_empty_in_zone : {N O : Type 0} → ZoneView N O → List (List ℕ) → Bool
is_empty_in_zone zone name = is_within name zone.origin && not (has_owner name zone.records)

-- a chain has this fault at a name, which is an empty non-terminal
abbrev pub fails_empty : {N O M P : Type 0} → LinkFault → ZoneView N O → Record M P → List (List ℕ) → Bool
fails_empty fault zone chain name = is_empty_in_zone zone name && fails_name fault zone chain name

-- a chain has this fault at an empty non-terminal above a name
abbrev pub fails_above : {N O M P : Type 0} → LinkFault → ZoneView N O → Record M P → List (List ℕ) → Bool
fails_above fault zone chain name = list_any (fails_empty fault zone chain) (names_above name)

-- a chain has this fault at a name, or at an empty non-terminal above it
abbrev pub fails_at_or_above : {N O M P : Type 0} → LinkFault → ZoneView N O → Record M P → List (List ℕ) → Bool
fails_at_or_above fault zone chain name = fails_name fault zone chain name || fails_above fault zone chain name

-- a name is represented in a chain: the zone is authoritative for it, it doesn't own an NSEC3, and the chain doesn't omit it
abbrev pub is_represented : {N O M P : Type 0} → ZoneView N O → Record M P → List (List ℕ) → Bool
is_represented zone chain name =
    is_authoritative zone.origin zone.records name && (not (has_type_at Rtype.nsec3 name zone.records) && not (is_opted_out zone chain name))

-- names are hashed for a chain of at most 150 iterations (RFC 9276 section 3.2)
abbrev pub is_bounded : {N O : Type 0} → Record N O → Bool
is_bounded chain = nat_le (iterations_of chain) 150

-- a name is represented in such a chain, which has this fault there
abbrev pub chain_fails : {N O M P : Type 0} → LinkFault → ZoneView N O → List (List ℕ) → Record M P → Bool
chain_fails fault zone name chain = is_bounded chain && (is_represented zone chain name && fails_at_or_above fault zone chain name)

abbrev pub some_chain_fails : {N O : Type 0} → LinkFault → ZoneView N O → List (List ℕ) → Bool
some_chain_fails fault zone name = some_chain (chain_fails fault zone name) zone

-- the record is the first at a name where some chain has this fault
abbrev pub fails_chain : {N O M P : Type 0} → LinkFault → ZoneView N O → Option (Record M P) → Record M P → Bool
fails_chain fault zone before r = starts are_at_one_name before r && some_chain_fails fault zone r.owner
