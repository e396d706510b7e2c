use Rattle.std.proofs.Common.{◌≡◌, ◌+◌, drop}
use Rattle.server_config.specs.ZoneLists.{list_word_len}
use Rattle.server_config.proofs.zone_list.list_word_len.Given as goal

abbrev pub invariant-loop-octet : goal.invariant-loop-octet
invariant-loop-octet l = record {
  counted : l.count ≡ l.octet-index;
  value : list_word_len l.text ≡ l.octet-index + list_word_len (drop l.octet-index l.text);
}
