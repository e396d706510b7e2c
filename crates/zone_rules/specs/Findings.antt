-- The findings of a zone.
use Rattle.std.specs.Prelude.{ℕ, ◌≡◌, ◌<◌, ◌-◌, ◌↔◌, IsTrue, not, if◌then◌else◌, Bool, false, Option, Some, None, List, [], ◌∷◌, ◌++◌, length, slice_get, Vec}
use Rattle.std.specs.List.{Contains, flat_map, range_with_len}
use Rattle.std.specs.Option.{option_map_or}
use Rattle.finding_codes.specs.Rule.{coded_rule}
use Rattle.finding_codes.specs.declared.code.Code.TheVariants.{NoSoa, NoNs, Outside, TwoSoas, NsAddress, Cname, BelowDname, WildcardNs, SoaNotApex, NsBesideDname, KeyBesideCname, HostName, DsWithoutNs, NotAtApex, KeyProtocol, KeyAlgorithm, CnameTargetMissing, CnameLoop, TwoSpf, WeakDigest, SingleNs, TtlDiffers, Duplicate, Dname, DsApex, Nsec3Wildcard, Glue, TargetCname, TargetMissing, Cds, CdsDelete, NullMx, ZonemdSerial, TlsaHost, SvcbAlias}
use Rattle.finding_codes.specs.declared.rule.Rule.{Rule}
use Rattle.rdata_values.specs.Rtype as Rtype
use Rattle.zone_record.specs.declared.record.Record.{Record}
use Rattle.zone_rules.specs.Present.{is_present}
use Rattle.zone_rules.specs.Rules.{breaks}
use Rattle.zone_rules.specs.Zones.{record_before}
use Rattle.zone_rules.specs.declared.refused.RrsetName.{RrsetName}
use Rattle.zone_rules.specs.declared.rule.Finding.{Finding}

-- a finding of a rule, if the rule is broken
abbrev pub found_if : Bool → Rule → Option ℕ → List Finding
found_if is_broken rule place = if is_broken then record { rule = rule; «record» = place } ∷ [] else []

-- what is missing at the zone's apex
abbrev pub found_at_apex : {N O : Type 0} → List (List ℕ) → List (Record N O) → List RrsetName → List Finding
found_at_apex origin records refused = found_if (not (is_present Rtype.soa origin records refused)) (coded_rule NoSoa 0) None ++ found_if (not (is_present Rtype.ns origin records refused)) (coded_rule NoNs 0) None

-- the rules for records
abbrev pub record_rules : List Rule
record_rules =
    coded_rule Outside 0 ∷ coded_rule TwoSoas 0 ∷ coded_rule NsAddress 0 ∷ coded_rule Cname 0 ∷ coded_rule Dname 0 ∷ coded_rule BelowDname 0 ∷ coded_rule DsApex 0 ∷ coded_rule WildcardNs 0 ∷ coded_rule SoaNotApex 0 ∷ coded_rule NsBesideDname 0 ∷ coded_rule KeyBesideCname 0 ∷ coded_rule Nsec3Wildcard 0 ∷ coded_rule Glue 0 ∷ coded_rule TargetCname 0
    ∷ coded_rule TargetCname 1 ∷ coded_rule TargetMissing 0 ∷ coded_rule HostName 0 ∷ coded_rule Cds 0 ∷ coded_rule CdsDelete 0 ∷ coded_rule DsWithoutNs 0 ∷ coded_rule NotAtApex 0 ∷ coded_rule KeyProtocol 0 ∷ coded_rule KeyAlgorithm 0 ∷ coded_rule CnameTargetMissing 0 ∷ coded_rule CnameLoop 0 ∷ coded_rule TwoSpf 0 ∷ coded_rule WeakDigest 0 ∷ coded_rule SingleNs 0 ∷ coded_rule NullMx 0 ∷ coded_rule ZonemdSerial 0 ∷ coded_rule TlsaHost 0 ∷ coded_rule SvcbAlias 0 ∷ coded_rule SvcbAlias 1 ∷ coded_rule SvcbAlias 2 ∷ coded_rule SvcbAlias 3 ∷ coded_rule TtlDiffers 0 ∷ coded_rule Duplicate 0 ∷ []

-- the record at an index breaks the rule
abbrev pub breaks_at : {N O : Type 0} → List (List ℕ) → List (Record N O) → List RrsetName → ℕ → Rule → Bool
breaks_at origin records refused place rule = option_map_or (breaks rule origin records refused (record_before records place)) (slice_get records place) false

-- a finding of a rule, if the record at an index breaks it
abbrev pub found_of : {N O : Type 0} → List (List ℕ) → List (Record N O) → List RrsetName → ℕ → Rule → List Finding
found_of origin records refused place rule = found_if (breaks_at origin records refused place rule) rule (Some place)

-- findings of the rules that the record at an index breaks
abbrev pub found_at : {N O : Type 0} → List (List ℕ) → List (Record N O) → List RrsetName → ℕ → List Finding
found_at origin records refused place = flat_map (found_of origin records refused place) record_rules

-- what is missing at the apex, and then the rules that each record breaks, record by record
abbrev pub found_in_zone : {N O : Type 0} → List (List ℕ) → List (Record N O) → List RrsetName → List Finding
found_in_zone origin records refused = found_at_apex origin records refused ++ flat_map (found_at origin records refused) (range_with_len 0 (length records))

-- a vector has exactly these findings, in this order
abbrev pub HasZoneFindings : {N O A : Type 0} → List (List ℕ) → List (Record N O) → List RrsetName → Vec Finding A → Type 0
HasZoneFindings origin records refused found = found.items ≡ found_in_zone origin records refused

-- it has those of the records from one index up to another after those that it had
abbrev pub HasPartFindings : {N O A : Type 0} → List (List ℕ) → List (Record N O) → List RrsetName → ℕ → ℕ → (old new : Vec Finding A) → Type 0
HasPartFindings origin records refused first past old new = new.items ≡ old.items ++ flat_map (found_at origin records refused) (range_with_len first (past - first))

-- a finding names the record at an index and a rule for records if and only if the record breaks the rule
abbrev pub ReportsBrokenRules : {N O : Type 0} → List (List ℕ) → List (Record N O) → List RrsetName → List Finding → Type 0
ReportsBrokenRules origin records refused found = (rule : Rule) (place : ℕ)
    → Contains found (record { rule = rule; «record» = Some place }) ↔ (Contains record_rules rule × (place < length records) × IsTrue (breaks_at origin records refused place rule))

-- this holds of all findings of a zone
abbrev pub BrokenRulesAreReported : {N O : Type 0} → List (List ℕ) → List (Record N O) → List RrsetName → Type 0
BrokenRulesAreReported origin records refused = ReportsBrokenRules origin records refused (found_in_zone origin records refused)
