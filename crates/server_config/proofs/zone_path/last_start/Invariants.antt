use Rattle.std.proofs.Common.{◌≡◌, ◌≤◌, drop}
use Rattle.server_config.specs.ZonePaths.{last_start}
use Rattle.server_config.proofs.zone_path.last_start.Given as goal

abbrev pub invariant-loop-octet : goal.invariant-loop-octet
invariant-loop-octet l = record {
  counted : l.index ≡ l.octet-index;
  before : l.start ≤ l.octet-index;
  value : last_start l.start l.octet-index (drop l.octet-index l.name) ≡ last_start 0 0 l.name;
}
