-- The rules that a record breaks, with its octets in other types.
use Rattle.std.proofs.Common.{ℕ, ◌≡◌, Option, Some, None, List, false, refl, ◌∙◌}
use Rattle.std.specs.Prelude.{slice_get}
use Rattle.std.specs.Option.{option_map, option_map_or}
use Rattle.zone_record.specs.declared.record.Record.{Record}
use Rattle.zone_rules.specs.Zones.{as_listed, record_before}
use Rattle.zone_dnssec.specs.SecurityFindings.{breaks_security, breaks_security_at}
use Rattle.zone_dnssec.specs.Subjects.{IsSignedSubject}
use Rattle.zone_dnssec.specs.ZoneViews.{ZoneView, zone_with}
use Rattle.finding_codes.specs.declared.code.Code.{Code}
use Rattle.finding_codes.specs.declared.code.Code.TheVariants.{Expired, ExpiresSoon, NotYetValid, RrsigTimes, RrsigSigner, RrsigLabels, RrsigLength, OriginalTtl, RrsigTtl, Unsigned, NoKey, KeyMissing, RrsigKey, RrsigAlgorithm, KeyLength, SignsNothing, OccludedDnssec, NoNsec, NsecNext, NsecTypes, NoNsec3, Nsec3Next, Nsec3Types, Nsec3Owner, Nsec3Iterations, Nsec3Iterations50, Nsec3Iterations0, NsecTtl, Nsec3Extra, OptOut, CdsKey, CdsDiffers}
use Rattle.zone_dnssec.specs.declared.subject.Subject.{Subject}
use Rattle.zone_dnssec.specs.declared.times.Times.{Times}

some_is : {X : Type 0} {x y : X} → Some x ≡ Some y → x ≡ y
some_is f = cc

security_listed : {N O : Type 0} (R S : Type 0) (rule : Code) (zone : ZoneView N O) (times : Times) (before : Option (Record N O)) (r : Record N O)
    → breaks_security {M = R} {P = S} rule zone times (option_map as_listed before) (as_listed r) ≡ breaks_security rule zone times before r
security_listed R S Expired zone times before r = refl
security_listed R S ExpiresSoon zone times before r = refl
security_listed R S NotYetValid zone times before r = refl
security_listed R S RrsigTimes zone times before r = refl
security_listed R S RrsigSigner zone times before r = refl
security_listed R S RrsigLabels zone times before r = refl
security_listed R S RrsigLength zone times before r = refl
security_listed R S OriginalTtl zone times before r = refl
security_listed R S RrsigTtl zone times before r = refl
security_listed R S Unsigned zone times None r = refl
security_listed R S Unsigned zone times (Some b) r = refl
security_listed R S NoKey zone times None r = refl
security_listed R S NoKey zone times (Some b) r = refl
security_listed R S KeyMissing zone times before r = refl
security_listed R S RrsigKey zone times before r = refl
security_listed R S RrsigAlgorithm zone times None r = refl
security_listed R S RrsigAlgorithm zone times (Some b) r = refl
security_listed R S KeyLength zone times before r = refl
security_listed R S SignsNothing zone times before r = refl
security_listed R S OccludedDnssec zone times before r = refl
security_listed R S NoNsec zone times None r = refl
security_listed R S NoNsec zone times (Some b) r = refl
security_listed R S NsecNext zone times before r = refl
security_listed R S NsecTypes zone times before r = refl
security_listed R S NoNsec3 zone times None r = refl
security_listed R S NoNsec3 zone times (Some b) r = refl
security_listed R S Nsec3Next zone times before r = refl
security_listed R S Nsec3Types zone times None r = refl
security_listed R S Nsec3Types zone times (Some b) r = refl
security_listed R S Nsec3Owner zone times before r = refl
security_listed R S Nsec3Iterations zone times before r = refl
security_listed R S Nsec3Iterations50 zone times before r = refl
security_listed R S Nsec3Iterations0 zone times before r = refl
security_listed R S NsecTtl zone times before r = refl
security_listed R S Nsec3Extra zone times before r = refl
security_listed R S OptOut zone times before r = refl
security_listed R S CdsKey zone times None r = refl
security_listed R S CdsKey zone times (Some b) r = refl
security_listed R S CdsDiffers zone times None r = refl
security_listed R S CdsDiffers zone times (Some b) r = refl
security_listed R S _ zone times before r = refl

security_in : {N O R S : Type 0} (rule : Code) (zone : ZoneView N O) (times : Times) (before : Option (Record R S)) (found : Record R S) (place : ℕ) (o : Option (Record N O)) → Some found ≡ option_map as_listed o
    → before ≡ option_map as_listed (record_before zone.records place)
    → breaks_security rule zone times before found ≡ option_map_or (breaks_security rule zone times (record_before zone.records place)) o false
security_in rule zone times before found place None e f = cc
security_in rule zone times before found place (Some r) e f =
    (λ i. breaks_security rule zone times (f i) (some_is e i)) ∙ security_listed _ _ rule zone times (record_before zone.records place) r

pub security_broken : {N O : Type 0} (rule : Code) (origin : List (List ℕ)) (records : List (Record N O)) (times : Times) (s : Subject) → IsSignedSubject origin records s
    → breaks_security rule (zone_with origin records) times s.before s.found ≡ breaks_security_at (zone_with origin records) times s.place rule
security_broken rule origin records times s h = security_in rule (zone_with origin records) times s.before s.found s.place (slice_get records s.place) h.found h.before
