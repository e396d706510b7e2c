use Rattle.std.proofs.Common.{◌≡◌, ◌+◌, drop}
use Rattle.server_config.specs.ZoneLists.{list_blank_len}
use Rattle.server_config.proofs.zone_list.list_blank_len.Given as goal

abbrev pub invariant-loop-octet : goal.invariant-loop-octet
invariant-loop-octet l = record {
  counted : l.count ≡ l.octet-index;
  value : list_blank_len l.text ≡ l.octet-index + list_blank_len (drop l.octet-index l.text);
}
