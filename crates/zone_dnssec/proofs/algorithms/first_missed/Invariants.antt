use Rattle.std.proofs.Common.{◌≡◌, drop}
use Rattle.std.specs.List.{find}
use Rattle.std.specs.Option.{option_map}
use Rattle.zone_rules.specs.Zones.{type_of}
use Rattle.zone_dnssec.specs.SigningAlgorithms.{is_missed}
use Rattle.zone_dnssec.proofs.algorithms.first_missed.Given as goal

abbrev pub invariant-loop-signer : goal.invariant-loop-signer
invariant-loop-signer g l =
    option_map (λ s. s.algorithm) (find (is_missed l.keys (type_of l.record) l.record.owner (g.Z.ZoneRecords.contents l.records)) l.signers)
    ≡ option_map (λ s. s.algorithm) (find (is_missed l.keys (type_of l.record) l.record.owner (g.Z.ZoneRecords.contents l.records)) (drop l.signer-index l.signers))
