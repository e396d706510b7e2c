use Rattle.std.proofs.Common.{◌≡◌, drop}
use Rattle.std.specs.List.{list_any}
use Rattle.zone_rules.specs.Zones.{type_of}
use Rattle.zone_dnssec.specs.SigningAlgorithms.{is_missed}
use Rattle.zone_dnssec.proofs.algorithms.misses_some.Given as goal

abbrev pub invariant-loop-signer : goal.invariant-loop-signer
invariant-loop-signer g l =
    list_any (is_missed l.keys (type_of l.subject.found) l.subject.found.owner (g.Z.ZoneRecords.contents l.records)) l.signers
    ≡ list_any (is_missed l.keys (type_of l.subject.found) l.subject.found.owner (g.Z.ZoneRecords.contents l.records)) (drop l.signer-index l.signers)
