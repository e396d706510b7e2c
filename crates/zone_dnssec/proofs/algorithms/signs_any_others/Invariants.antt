use Rattle.std.proofs.Common.{◌≡◌, drop}
use Rattle.std.specs.List.{list_any}
use Rattle.zone_dnssec.proofs.algorithms.signs_any_others.Given as goal

abbrev pub invariant-loop-signer : goal.invariant-loop-signer
invariant-loop-signer l = list_any (λ s. s.signs_others) l.signers ≡ list_any (λ s. s.signs_others) (drop l.signer-index l.signers)
