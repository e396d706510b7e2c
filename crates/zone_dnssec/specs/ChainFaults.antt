-- The faults of chains of NSEC3 records at each record of a zone: words for private functions.
use Rattle.std.specs.Prelude.{◌≡◌, ℕ, ◌<◌, ◌&&◌, ◌||◌, not, Bool, true, false, Option, List, length, get_or, slice_get, take}
use Rattle.std.specs.List.{list_any}
use Rattle.std.specs.Option.{option_map_or}
use Rattle.dns_wire.specs.Order.{same_name}
use Rattle.zone_record.specs.declared.record.Record.{Record}
use Rattle.zone_rules.specs.Rules.{is_zone_cut}
use Rattle.zone_rules.specs.Zones.{has_type_at, record_before}
use Rattle.rdata_values.specs.Rtype as Rtype
use Rattle.zone_dnssec.specs.HashedLinks.{chain_fails, is_bounded, is_hash_of, is_out_of_order}
use Rattle.zone_dnssec.specs.Nsec3Chain.{hashed_bitmap, opts_out}
use Rattle.zone_dnssec.specs.NsecChain.{are_at_one_name}
use Rattle.zone_dnssec.specs.NsecTypes.{lists_exactly}
use Rattle.zone_dnssec.specs.OptOutFlags.{is_lone_flag}
use Rattle.zone_dnssec.specs.Parameters.{names_chain}
use Rattle.zone_dnssec.specs.SignedSets.{is_authoritative, starts}
use Rattle.zone_dnssec.specs.UnmatchedLinks.{is_unmatched}
use Rattle.zone_dnssec.specs.ZoneViews.{ZoneView}
use Rattle.zone_dnssec.specs.declared.hashed.LinkFault.{LinkFault}
use Rattle.zone_dnssec.specs.declared.hashed.LinkFault.TheVariants.{Missing, DifferentTypes}
use Rattle.zone_dnssec.specs.declared.subject.ChainFaults.{ChainFaults}

-- ---- the record at an index

-- a hash is that of its owner
abbrev pub is_hash_in : {N O : Type 0} → List (List ℕ) → List (Record N O) → List ℕ → ℕ → Bool
is_hash_in origin records hash place = option_map_or (is_hash_of origin hash) (slice_get records place) false

-- the types that it lists as an NSEC3 differ from those at a name
abbrev pub lists_other_in : {N O : Type 0} → List (List ℕ) → List (Record N O) → List (List ℕ) → ℕ → Bool
lists_other_in origin records name place =
    option_map_or (λ link. not (lists_exactly (is_zone_cut origin records name) records name (hashed_bitmap link))) (slice_get records place) false

-- it opts out
abbrev pub opts_out_in : {N O : Type 0} → List (Record N O) → ℕ → Bool
opts_out_in records place = option_map_or opts_out (slice_get records place) false

-- ---- the faults of a chain

-- names are hashed for a chain, in which a name has a hash unless the chain omits it
abbrev pub is_to_be_hashed : {N O M P : Type 0} → ZoneView N O → Record M P → List (List ℕ) → Bool
is_to_be_hashed zone chain name = is_bounded chain && (is_authoritative zone.origin zone.records name && not (has_type_at Rtype.nsec3 name zone.records))

-- a record is the first at its owner, where a chain has this fault
abbrev pub fails_beside : {N O M P R S : Type 0} → LinkFault → ZoneView N O → Option (Record R S) → Record R S → Record M P → Bool
fails_beside fault zone before r chain = starts are_at_one_name before r && chain_fails fault zone r.owner chain

-- the same of the record at an index
abbrev pub fails_first : {N O M P : Type 0} → LinkFault → ZoneView N O → ℕ → Record M P → Bool
fails_first fault zone place chain = option_map_or (λ r. fails_beside fault zone (record_before zone.records place) r chain) (slice_get zone.records place) false

-- the next hash of the record at an index is wrong in a chain
abbrev pub misorders : {N O M P : Type 0} → ZoneView N O → ℕ → Record M P → Bool
misorders zone place chain = option_map_or (λ r. is_out_of_order zone r chain) (slice_get zone.records place) false

-- the record at an index is an NSEC3 of a chain that matches no name
abbrev pub is_unmatched_in : {N O M P : Type 0} → ZoneView N O → ℕ → Record M P → Bool
is_unmatched_in zone place chain = option_map_or (λ r. is_unmatched zone r chain) (slice_get zone.records place) false

-- it is the only one with its Opt-Out flag
abbrev pub is_lone_flag_in : {N O M P : Type 0} → ZoneView N O → ℕ → Record M P → Bool
is_lone_flag_in zone place chain = option_map_or (λ r. is_lone_flag zone.records r chain) (slice_get zone.records place) false

abbrev pub faults_with : Bool → Bool → Bool → Bool → Bool → ChainFaults
faults_with missing types next unmatched flag =
    record { is_missing = missing; has_other_types = types; has_other_next = next; is_unmatched = unmatched; has_lone_flag = flag }

-- the faults of a chain at the record at an index: of its name or its next hash
abbrev pub link_faults : {N O M P : Type 0} → ZoneView N O → Record M P → ℕ → ChainFaults
link_faults zone chain place =
    faults_with (fails_first Missing zone place chain) (fails_first DifferentTypes zone place chain) (misorders zone place chain) false false

-- those that are known once each name has been hashed
abbrev pub late_faults : {N O M P : Type 0} → ZoneView N O → Record M P → ℕ → ChainFaults
late_faults zone chain place = faults_with false false false (is_unmatched_in zone place chain) (is_lone_flag_in zone place chain)

-- all of them
abbrev pub chain_faults : {N O M P : Type 0} → ZoneView N O → Record M P → ℕ → ChainFaults
chain_faults zone chain place =
    faults_with (fails_first Missing zone place chain) (fails_first DifferentTypes zone place chain) (misorders zone place chain) (is_unmatched_in zone place chain)
    (is_lone_flag_in zone place chain)

-- ---- the faults of several chains

abbrev pub either_faults : ChainFaults → ChainFaults → ChainFaults
either_faults a b =
    faults_with (a.is_missing || b.is_missing) (a.has_other_types || b.has_other_types) (a.has_other_next || b.has_other_next) (a.is_unmatched || b.is_unmatched)
    (a.has_lone_flag || b.has_lone_flag)

-- the record is an NSEC3PARAM at the apex, and names a chain that passes the test
abbrev pub names_failing_chain : {N O : Type 0} → (Record N O → Bool) → List (List ℕ) → Record N O → Bool
names_failing_chain test origin chain = same_name chain.owner origin && (names_chain chain && test chain)

-- the faults of the chains that some of the records name, at the record at an index
abbrev pub faults_among : {N O : Type 0} → ZoneView N O → List (Record N O) → ℕ → ChainFaults
faults_among zone chains place =
    faults_with (list_any (names_failing_chain (fails_first Missing zone place) zone.origin) chains)
    (list_any (names_failing_chain (fails_first DifferentTypes zone place) zone.origin) chains) (list_any (names_failing_chain (misorders zone place) zone.origin) chains)
    (list_any (names_failing_chain (is_unmatched_in zone place) zone.origin) chains) (list_any (names_failing_chain (is_lone_flag_in zone place) zone.origin) chains)

-- the faults of all chains of a zone, at the record at an index
abbrev pub faults_of_chains : {N O : Type 0} → ZoneView N O → ℕ → ChainFaults
faults_of_chains zone place = faults_among zone zone.records place

-- ---- lists of the faults at each record

-- no faults
pub record AreNoFaults (count : ℕ) (faults : List ChainFaults) : Type 0 where
  pub size : length faults ≡ count
  pub each : (i : ℕ) (d : ChainFaults) → i < count → get_or faults i d ≡ faults_with false false false false false

-- those of the chains that some of the records name
pub record AreFaults {N O : Type 0} (zone : ZoneView N O) (chains : List (Record N O)) (faults : List ChainFaults) : Type 0 where
  pub size : length faults ≡ length zone.records
  pub each : (i : ℕ) (d : ChainFaults) → i < length zone.records → get_or faults i d ≡ faults_among zone chains i

-- those of the chains that the records before an index name
abbrev pub AreFaultsBefore : {N O : Type 0} → ZoneView N O → ℕ → List ChainFaults → Type 0
AreFaultsBefore zone place faults = AreFaults zone (take place zone.records) faults

-- those at each record, and others
pub record AddsFaults (here : ℕ → ChainFaults) (others : List ChainFaults) (count : ℕ) (faults : List ChainFaults) : Type 0 where
  pub size : length faults ≡ count
  pub each : (i : ℕ) (d : ChainFaults) → i < count → get_or faults i d ≡ either_faults (get_or others i d) (here i)

-- those of a chain, and others
abbrev pub AddsChain : {N O M P : Type 0} → ZoneView N O → Record M P → List ChainFaults → ℕ → List ChainFaults → Type 0
AddsChain zone chain others count faults = AddsFaults (chain_faults zone chain) others count faults

-- the record at an index is at the apex
abbrev pub IsAtApex : {N O : Type 0} → ZoneView N O → ℕ → Type 0
IsAtApex {N = N} {O = O} zone place = (d : Record N O) → same_name (get_or zone.records place d).owner zone.origin ≡ true
