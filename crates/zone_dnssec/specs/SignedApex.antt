-- When a zone is signed, and when it is being signed.
use Rattle.std.specs.Prelude.{ℕ, ◌==◌, ◌&&◌, ◌||◌, not, if◌then◌else◌, Bool, true, false, Option, List, length, slice_index}
use Rattle.std.specs.List.{find, list_any}
use Rattle.dns_wire.specs.Order.{same_name}
use Rattle.finding_codes.specs.declared.code.Code.{Code}
use Rattle.finding_codes.specs.declared.code.Code.TheVariants.{Unsigned, RrsigAlgorithm, NoNsec, NsecNext, NsecTypes, NoNsec3, Nsec3Next, Nsec3Types, Nsec3Extra}
use Rattle.rdata_values.specs.Rtype as Rtype
use Rattle.rdata_values.specs.declared.types.RecordType.{RecordType}
use Rattle.zone_record.specs.Records.{data_of}
use Rattle.zone_record.specs.declared.record.Record.{Record}
use Rattle.zone_rules.specs.Rules.{is_zone_cut}
use Rattle.zone_rules.specs.Zones.{has_type_at, set_type, type_of}
use Rattle.zone_dnssec.specs.SignedSets.{belongs_to_parent, covers, is_authoritative}
use Rattle.zone_dnssec.specs.declared.apex.SignedRules.{SignedRules}
use Rattle.zone_dnssec.specs.declared.apex.SignedRules.TheVariants.{AllRules, NoRules, PresentRules}
use Rattle.zone_dnssec.specs.declared.apex.SigningDemand.{SigningDemand}
use Rattle.zone_dnssec.specs.declared.apex.SigningDemand.TheVariants.{Always, IfSigned, Never}

-- ---- signed zones

-- an RRSIG covers the SOA or the NS of a name, which each apex has
abbrev pub is_apex_signature : {N O : Type 0} → Record N O → Bool
is_apex_signature r = covers Rtype.soa r || covers Rtype.ns r

-- the first such RRSIG at the apex
abbrev pub apex_signature : {N O : Type 0} → List (List ℕ) → List (Record N O) → Option (Record N O)
apex_signature origin records = find (λ r. same_name r.owner origin && is_apex_signature r) records

-- a zone is signed if its apex has one
abbrev pub has_apex_signature : {N O : Type 0} → List (List ℕ) → List (Record N O) → Bool
has_apex_signature origin records = list_any (λ r. same_name r.owner origin && is_apex_signature r) records

-- ---- zones that are being signed

-- the private type in which BIND notes at the apex what it is signing
abbrev pub signing_type : RecordType
signing_type = 65534

-- its data: algorithm, key tag, whether the key is removed, and whether its signatures are complete; or 0, and a chain of NSEC3 that is made or removed
abbrev pub is_incomplete : List ℕ → Bool
is_incomplete octets = not (length octets == 0) && (slice_index octets 0 == 0 || length octets == 5 && slice_index octets 4 == 0)

abbrev pub is_signing_note : {N O : Type 0} → Record N O → Bool
is_signing_note r = type_of r == signing_type && is_incomplete (data_of r).octets

abbrev pub is_being_signed : {N O : Type 0} → List (List ℕ) → List (Record N O) → Bool
is_being_signed origin records = list_any (λ r. same_name r.owner origin && is_signing_note r) records

-- ---- the rules by which a zone is checked

-- the rules of what a signed zone lacks
abbrev pub is_of_lack : Code → Bool
is_of_lack Unsigned = true
is_of_lack RrsigAlgorithm = true
is_of_lack NoNsec = true
is_of_lack NsecNext = true
is_of_lack NsecTypes = true
is_of_lack NoNsec3 = true
is_of_lack Nsec3Next = true
is_of_lack Nsec3Types = true
is_of_lack Nsec3Extra = true
is_of_lack _ = false

-- a zone is checked as signed if it is, or if it must be. While it is being signed, it may lack what is still to come
abbrev pub signed_rules : {N O : Type 0} → SigningDemand → List (List ℕ) → List (Record N O) → SignedRules
signed_rules Never origin records = NoRules
signed_rules Always origin records = AllRules
signed_rules IfSigned origin records =
    if has_apex_signature origin records then (if is_being_signed origin records then PresentRules else AllRules) else NoRules

-- findings of a rule are reported
abbrev pub reports_rule : SignedRules → Code → Bool
reports_rule NoRules rule = false
reports_rule PresentRules rule = not (is_of_lack rule)
reports_rule AllRules rule = true

-- ---- zones whose apex lost its signatures

-- an RRSIG of another name than the apex covers a type for which the zone is authoritative
abbrev pub is_inner_signature : {N O M P : Type 0} → List (List ℕ) → List (Record N O) → Record M P → Bool
is_inner_signature origin records r =
    type_of r == Rtype.rrsig
    && (not (same_name r.owner origin) && (is_authoritative origin records r.owner && (belongs_to_parent (set_type r) || not (is_zone_cut origin records r.owner))))

-- the apex has DNSKEYs, and neither such an RRSIG nor a note of BIND, and other names have RRSIGs
abbrev pub lacks_apex_signature : {N O : Type 0} → List (List ℕ) → List (Record N O) → Bool
lacks_apex_signature origin records =
    has_type_at Rtype.dnskey origin records
    && (not (has_apex_signature origin records) && (not (has_type_at signing_type origin records) && list_any (is_inner_signature origin records) records))
