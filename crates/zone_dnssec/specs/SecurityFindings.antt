-- The findings of a signed zone.
use Rattle.std.specs.Prelude.{ℕ, if◌then◌else◌, Bool, false, Option, List, [], ◌∷◌, length, slice_get}
use Rattle.std.specs.List.{flat_map, range_with_len}
use Rattle.std.specs.Option.{option_map_or}
use Rattle.rdata_values.specs.Rtype as Rtype
use Rattle.zone_record.specs.declared.record.Record.{Record}
use Rattle.zone_rules.specs.Zones.{has_type_at, record_before}
use Rattle.zone_dnssec.specs.DenialRecords.{denial_ttl, has_other_denial_ttl, has_other_link_owner, is_occluded, iterates_within}
use Rattle.zone_dnssec.specs.HashedLinks.{fails_chain, names_other_hash}
use Rattle.zone_dnssec.specs.KeyLengths.{has_other_key_length, has_other_signature_length}
use Rattle.zone_dnssec.specs.KeyRequests.{asks_for_other_keys, requests_differ}
use Rattle.zone_dnssec.specs.NsecChain.{lacks_nsec, names_other_next}
use Rattle.zone_dnssec.specs.NsecTypes.{lists_other_types}
use Rattle.zone_dnssec.specs.OptOutFlags.{has_own_flag}
use Rattle.zone_dnssec.specs.SignatureFields.{has_other_labels, has_other_original_ttl, has_other_own_ttl, has_other_signer}
use Rattle.zone_dnssec.specs.SignatureTimes.{is_expired, expires_within, has_reversed_times, is_early}
use Rattle.zone_dnssec.specs.SignedSets.{is_missing_signature, signs_nothing}
use Rattle.zone_dnssec.specs.SigningAlgorithms.{breaks_algorithms}
use Rattle.zone_dnssec.specs.UnmatchedLinks.{matches_no_name}
use Rattle.zone_dnssec.specs.ZoneKeys.{is_by_revoked_key, lacks_known_key, misses_key, zone_keys}
use Rattle.zone_dnssec.specs.ZoneViews.{ZoneView, zone_with}
use Rattle.zone_dnssec.specs.declared.hashed.LinkFault.TheVariants.{Missing, DifferentTypes}
use Rattle.zone_dnssec.specs.declared.rule.SecurityFinding.{SecurityFinding}
use Rattle.finding_codes.specs.declared.code.Code.{Code}
use Rattle.finding_codes.specs.declared.code.Code.TheVariants.{Expired, ExpiresSoon, NotYetValid, RrsigTimes, RrsigSigner, RrsigLabels, RrsigLength, OriginalTtl, RrsigTtl, Unsigned, NoKey, KeyMissing, RrsigKey, RrsigAlgorithm, KeyLength, SignsNothing, OccludedDnssec, NoNsec, NsecNext, NsecTypes, NoNsec3, Nsec3Next, Nsec3Types, Nsec3Owner, Nsec3Iterations, Nsec3Iterations50, Nsec3Iterations0, NsecTtl, Nsec3Extra, OptOut, CdsKey, CdsDiffers}
use Rattle.zone_dnssec.specs.declared.times.Times.{Times}

-- whether a record breaks a rule, which the code of a finding names, beside the one before it
abbrev pub breaks_security : {N O M P : Type 0} → Code → ZoneView N O → Times → Option (Record M P) → Record M P → Bool
breaks_security Expired zone times before r = is_expired times.instant r
breaks_security ExpiresSoon zone times before r = expires_within times.margin times.instant r
breaks_security NotYetValid zone times before r = is_early times.instant r
breaks_security RrsigTimes zone times before r = has_reversed_times r
breaks_security RrsigSigner zone times before r = has_other_signer zone.origin r
breaks_security RrsigLabels zone times before r = has_other_labels r
breaks_security RrsigLength zone times before r = has_other_signature_length (zone_keys zone.origin zone.records) r
breaks_security OriginalTtl zone times before r = has_other_original_ttl zone.records r
breaks_security RrsigTtl zone times before r = has_other_own_ttl zone.records r
breaks_security Unsigned zone times before r = is_missing_signature zone.origin zone.records before r
breaks_security NoKey zone times before r = lacks_known_key (zone_keys zone.origin zone.records) zone.origin zone.records before r
breaks_security KeyMissing zone times before r = misses_key (zone_keys zone.origin zone.records) zone.records r
breaks_security RrsigKey zone times before r = is_by_revoked_key (zone_keys zone.origin zone.records) r
breaks_security RrsigAlgorithm zone times before r = breaks_algorithms zone before r
breaks_security KeyLength zone times before r = has_other_key_length r
breaks_security SignsNothing zone times before r = signs_nothing zone.records r
breaks_security OccludedDnssec zone times before r = is_occluded zone.origin zone.records r
breaks_security NoNsec zone times before r = lacks_nsec zone.origin zone.records before r
breaks_security NsecNext zone times before r = names_other_next zone.origin zone.records r
breaks_security NsecTypes zone times before r = lists_other_types zone.origin zone.records r
breaks_security NoNsec3 zone times before r = fails_chain Missing zone before r
breaks_security Nsec3Next zone times before r = names_other_hash zone r
breaks_security Nsec3Types zone times before r = fails_chain DifferentTypes zone before r
breaks_security Nsec3Owner zone times before r = has_other_link_owner zone.origin r
breaks_security Nsec3Iterations zone times before r = iterates_within 150 65535 zone.origin r
breaks_security Nsec3Iterations50 zone times before r = iterates_within 50 150 zone.origin r
breaks_security Nsec3Iterations0 zone times before r = iterates_within 0 50 zone.origin r
breaks_security NsecTtl zone times before r = has_other_denial_ttl (denial_ttl zone.origin zone.records) r
breaks_security Nsec3Extra zone times before r = matches_no_name zone r
breaks_security OptOut zone times before r = has_own_flag zone r
breaks_security CdsKey zone times before r = asks_for_other_keys (zone_keys zone.origin zone.records) zone.origin zone.records before r
breaks_security CdsDiffers zone times before r = requests_differ zone.origin zone.records before r
breaks_security _ zone times before r = false

-- a finding of a rule, if the rule is broken
abbrev pub insecure_if : Bool → Code → ℕ → List SecurityFinding
insecure_if is_broken rule place = if is_broken then record { rule = rule; «record» = place } ∷ [] else []

-- the rules, in the order in which their findings are reported
abbrev pub security_rules : List Code
security_rules =
    Expired ∷ ExpiresSoon ∷ NotYetValid ∷ RrsigTimes ∷ RrsigSigner ∷ RrsigLabels ∷ RrsigLength ∷ OriginalTtl ∷ RrsigTtl ∷ Unsigned ∷ NoKey ∷ KeyMissing ∷ RrsigKey ∷ RrsigAlgorithm ∷ KeyLength ∷ SignsNothing ∷ OccludedDnssec ∷ NoNsec ∷ NsecNext ∷ NsecTypes ∷ NoNsec3 ∷ Nsec3Next ∷ Nsec3Types ∷ Nsec3Owner ∷ Nsec3Iterations ∷ Nsec3Iterations50 ∷ Nsec3Iterations0 ∷ NsecTtl ∷ Nsec3Extra ∷ OptOut ∷ CdsKey ∷ CdsDiffers ∷ []

-- the record at an index breaks the rule
abbrev pub breaks_security_at : {N O : Type 0} → ZoneView N O → Times → ℕ → Code → Bool
breaks_security_at zone times place rule = option_map_or (breaks_security rule zone times (record_before zone.records place)) (slice_get zone.records place) false

-- a finding of a rule, if the record at an index breaks it
abbrev pub insecure_of : {N O : Type 0} → ZoneView N O → Times → ℕ → Code → List SecurityFinding
insecure_of zone times place rule = insecure_if (breaks_security_at zone times place rule) rule place

-- findings of the rules that the record at an index breaks
abbrev pub insecure_at : {N O : Type 0} → ZoneView N O → Times → ℕ → List SecurityFinding
insecure_at zone times place = flat_map (insecure_of zone times place) security_rules

-- findings of the rules that each record breaks, record by record, if the zone is signed: its apex has a DNSKEY
abbrev pub insecure_in_zone : {N O : Type 0} → List (List ℕ) → Times → List (Record N O) → List SecurityFinding
insecure_in_zone origin times records =
    if has_type_at Rtype.dnskey origin records then flat_map (insecure_at (zone_with origin records) times) (range_with_len 0 (length records)) else []
