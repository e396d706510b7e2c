use Rattle.std.proofs.Common.{◌≡◌, ◌+◌, drop}
use Rattle.server_config.specs.ZoneNames.{zone_mark}
use Rattle.server_config.proofs.zone_name.zone_mark.Given as goal

abbrev pub invariant-loop-octet : goal.invariant-loop-octet
invariant-loop-octet l = record {
  counted : l.index ≡ l.octet-index;
  value : zone_mark l.form ≡ l.octet-index + zone_mark (drop l.octet-index l.form);
}
