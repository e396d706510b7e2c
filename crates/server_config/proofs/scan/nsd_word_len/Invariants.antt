use Rattle.std.proofs.Common.{◌≡◌, ◌+◌, drop}
use Rattle.server_config.specs.NsdLexemes.{nsd_word_len}
use Rattle.server_config.proofs.scan.nsd_word_len.Given as goal

abbrev pub invariant-loop-octet : goal.invariant-loop-octet
invariant-loop-octet l = record {
  counted : l.index ≡ l.octet-index;
  value : nsd_word_len l.begins_escaped l.text ≡ l.octet-index + nsd_word_len l.is_escaped (drop l.octet-index l.text);
}
