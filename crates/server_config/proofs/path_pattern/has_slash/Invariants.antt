use Rattle.std.proofs.Common.{◌≡◌, drop}
use Rattle.server_config.specs.PathPatterns.{has_slash}
use Rattle.server_config.proofs.path_pattern.has_slash.Given as goal

abbrev pub invariant-loop-octet : goal.invariant-loop-octet
invariant-loop-octet l = has_slash (drop l.octet-index l.octets) ≡ has_slash l.octets
