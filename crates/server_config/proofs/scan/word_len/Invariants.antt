use Rattle.std.proofs.Common.{◌≡◌, ◌+◌, drop}
use Rattle.server_config.specs.Lexemes.{word_len}
use Rattle.server_config.proofs.scan.word_len.Given as goal

abbrev pub invariant-loop-octet : goal.invariant-loop-octet
invariant-loop-octet l = record {
  counted : l.count ≡ l.octet-index;
  value : word_len l.text ≡ l.octet-index + word_len (drop l.octet-index l.text);
}
