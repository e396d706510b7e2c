use Rattle.std.proofs.Common.{◌≡◌, ◌≤◌, drop}
use Rattle.server_config.specs.ZoneNames.{base_start}
use Rattle.server_config.proofs.zone_name.base_start.Given as goal

abbrev pub invariant-loop-octet : goal.invariant-loop-octet
invariant-loop-octet l = record {
  counted : l.index ≡ l.octet-index;
  before : l.start ≤ l.octet-index;
  value : base_start l.start l.octet-index (drop l.octet-index l.path) ≡ base_start 0 0 l.path;
}
