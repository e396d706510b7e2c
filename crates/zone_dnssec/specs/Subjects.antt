-- A record at an index, with what rules ask of it: words for private functions.
use Rattle.std.specs.Prelude.{◌≡◌, ℕ, nat_eq, ◌==◌, ◌&&◌, ◌||◌, not, Bool, false, Option, Some, None, List, slice_get, ⊤}
use Rattle.std.specs.Cmp.Lexicographic.{pointwise}
use Rattle.std.specs.Option.{option_map, option_map_or}
use Rattle.rdata_values.specs.Rtype as Rtype
use Rattle.dns_octets.specs.Lowered.{same_lowered}
use Rattle.dns_wire.specs.Wire.{wire}
use Rattle.zone_record.specs.Records.{data_of}
use Rattle.zone_record.specs.declared.record.Record.{Record}
use Rattle.zone_rules.specs.Searches.{AreOwnedFrom}
use Rattle.zone_rules.specs.Rules.{is_below_zone_cut, is_zone_cut}
use Rattle.zone_rules.specs.Zones.{as_listed, record_before, set_type, type_of}
use Rattle.zone_dnssec.specs.DenialRecords.{denial_ttl}
use Rattle.zone_dnssec.specs.HashedLinks.{fails_chain, names_other_hash}
use Rattle.zone_dnssec.specs.NsecChain.{is_in_chain}
use Rattle.zone_dnssec.specs.OptOutFlags.{has_own_flag}
use Rattle.zone_dnssec.specs.Parameters.{has_named_chain}
use Rattle.zone_dnssec.specs.SecurityFindings.{breaks_security, breaks_security_at}
use Rattle.zone_dnssec.specs.SignedApex.{is_inner_signature}
use Rattle.zone_dnssec.specs.SignedSets.{belongs_to_parent, covers_some_set, is_authoritative}
use Rattle.zone_dnssec.specs.SigningAlgorithms.{signs_set, zone_signers}
use Rattle.zone_dnssec.specs.UnmatchedLinks.{matches_no_name}
use Rattle.zone_dnssec.specs.ZoneKeys.{zone_keys}
use Rattle.zone_dnssec.specs.ZoneViews.{ZoneView, zone_with}
use Rattle.zone_dnssec.specs.declared.check.Facts.{Facts}
use Rattle.zone_dnssec.specs.declared.hashed.LinkFault.TheVariants.{Missing, DifferentTypes}
use Rattle.finding_codes.specs.declared.code.Code.{Code}
use Rattle.zone_dnssec.specs.declared.keys.Key.{Key}
use Rattle.zone_dnssec.specs.declared.sets.KnownOwner.{KnownOwner}
use Rattle.zone_dnssec.specs.declared.subject.OwnerFacts.{OwnerFacts}
use Rattle.zone_dnssec.specs.declared.subject.Subject.{Subject}
use Rattle.zone_dnssec.specs.declared.times.Times.{Times}

-- what a zone is for a name
pub record AreOwnerFacts {N O : Type 0} (origin : List (List ℕ)) (records : List (Record N O)) (name : List (List ℕ)) (facts : OwnerFacts) : Type 0 where
  pub owned : AreOwnedFrom name records facts.first facts.past
  pub authority : facts.is_authoritative ≡ is_authoritative origin records name
  pub under : facts.is_under_cut ≡ is_below_zone_cut origin records name
  pub cut : facts.is_cut ≡ is_zone_cut origin records name

abbrev pub HasOwnerFacts : {N O : Type 0} → List (List ℕ) → List (Record N O) → Subject → Type 0
HasOwnerFacts origin records s = AreOwnerFacts origin records s.found.owner s.facts

abbrev pub HasOwnRange : {N O : Type 0} → List (Record N O) → Subject → Type 0
HasOwnRange records s = AreOwnedFrom s.found.owner records s.facts.first s.facts.past

-- facts about a name, given by its wire format
abbrev pub AreFactsOf : {N O : Type 0} → List (List ℕ) → List (Record N O) → List ℕ → OwnerFacts → Type 0
AreFactsOf origin records octets facts = (name : List (List ℕ)) → octets ≡ wire name → AreOwnerFacts origin records name facts

-- facts about the last name, if there is one
abbrev pub IsKnown : {N O : Type 0} → List (List ℕ) → List (Record N O) → Option KnownOwner → Type 0
IsKnown origin records None = ⊤
IsKnown origin records (Some known) = AreFactsOf origin records known.name.items known.facts

-- the last name is given by these octets, and these are the facts about it
abbrev pub IsLastFact : Option KnownOwner → List ℕ → OwnerFacts → Type 0
IsLastFact None octets facts = ⊥
IsLastFact (Some known) octets facts = (known.name.items ≡ octets) × (known.facts ≡ facts)

abbrev pub HasCoveredSet : {N O : Type 0} → List (Record N O) → Subject → Type 0
HasCoveredSet records s = s.covers_set ≡ covers_some_set records s.found

-- the RRset of a record must be signed, by what the zone is for its owner
abbrev pub is_to_be_signed : {M P : Type 0} → OwnerFacts → Record M P → Bool
is_to_be_signed facts r = not (type_of r == Rtype.rrsig) && (facts.is_authoritative && (belongs_to_parent (type_of r) || not facts.is_cut))

-- a record is occluded, by what the zone is for its owner
abbrev pub is_occluded_by : {M P : Type 0} → OwnerFacts → Record M P → Bool
is_occluded_by facts r =
    (type_of r == Rtype.rrsig || type_of r == Rtype.nsec) && facts.is_under_cut || type_of r == Rtype.rrsig && (not (belongs_to_parent (set_type r)) && facts.is_cut)

-- the record at an index is one for which its name is in the chain of NSEC
abbrev pub is_in_chain_at : {N O : Type 0} → List (List ℕ) → List (Record N O) → ℕ → Bool
is_in_chain_at origin records place = option_map_or (is_in_chain origin records) (slice_get records place) false

-- octets are the owner of the record at an index, ignoring letter case
abbrev pub is_owner_in : {N O : Type 0} → List ℕ → List (Record N O) → ℕ → Bool
is_owner_in octets records place = option_map_or (λ r. same_lowered octets (wire r.owner)) (slice_get records place) false

-- the record at an index is an RRSIG by an algorithm that fits a key and signs an RRset
abbrev pub signs_set_in : {N O : Type 0} → List Key → ZoneView N O → ℕ → Bool → ℕ → Bool
signs_set_in keys zone algorithm is_of_keys place = option_map_or (signs_set keys zone algorithm is_of_keys) (slice_get zone.records place) false

-- the RDATA of the record at an index has these octets
abbrev pub has_octets_in : {N O : Type 0} → List ℕ → List (Record N O) → ℕ → Bool
has_octets_in octets records place = option_map_or (λ r. pointwise nat_eq (data_of r).octets octets) (slice_get records place) false

-- the record at an index is an RRSIG of another name than the apex
abbrev pub is_inner_in : {N O : Type 0} → List (List ℕ) → List (Record N O) → ℕ → Bool
is_inner_in origin records place = option_map_or (is_inner_signature origin records) (slice_get records place) false

-- facts about a zone as a whole
pub record AreZoneFacts {N O : Type 0} (origin : List (List ℕ)) (records : List (Record N O)) (facts : Facts) : Type 0 where
  pub keys : facts.keys.now ≡ zone_keys origin records
  pub signers : facts.signers.now ≡ zone_signers (zone_with origin records) (zone_keys origin records)
  pub ttl : facts.denial_ttl ≡ denial_ttl origin records
  pub chain : facts.has_chain ≡ has_named_chain origin records

-- the record at an index, the one before it, and facts about it
pub record IsSignedSubject {N O : Type 0} (origin : List (List ℕ)) (records : List (Record N O)) (s : Subject) : Type 0 where
  pub found : Some s.found ≡ option_map as_listed (slice_get records s.place)
  pub before : s.before ≡ option_map as_listed (record_before records s.place)
  pub facts : HasOwnerFacts origin records s
  pub set : HasCoveredSet records s
  pub missing : s.faults.is_missing ≡ fails_chain Missing (zone_with origin records) s.before s.found
  pub types : s.faults.has_other_types ≡ fails_chain DifferentTypes (zone_with origin records) s.before s.found
  pub next : s.faults.has_other_next ≡ names_other_hash (zone_with origin records) s.found
  pub unmatched : s.faults.is_unmatched ≡ matches_no_name (zone_with origin records) s.found
  pub flag : s.faults.has_lone_flag ≡ has_own_flag (zone_with origin records) s.found

-- the record of a subject breaks a rule
abbrev pub breaks_security_by : {N O : Type 0} → Code → List (List ℕ) → List (Record N O) → Times → Subject → Bool
breaks_security_by rule origin records times s = breaks_security rule (zone_with origin records) times s.before s.found

-- the record at the index of a subject breaks a rule
abbrev pub is_security_broken : {N O : Type 0} → Code → List (List ℕ) → List (Record N O) → Times → Subject → Bool
is_security_broken rule origin records times s = breaks_security_at (zone_with origin records) times s.place rule
