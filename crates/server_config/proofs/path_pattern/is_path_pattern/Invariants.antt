use Rattle.std.proofs.Common.{◌≡◌, drop}
use Rattle.server_config.specs.PathPatterns.{is_path_pattern}
use Rattle.server_config.proofs.path_pattern.is_path_pattern.Given as goal

abbrev pub invariant-loop-octet : goal.invariant-loop-octet
invariant-loop-octet l = is_path_pattern (drop l.octet-index l.part) ≡ is_path_pattern l.part
