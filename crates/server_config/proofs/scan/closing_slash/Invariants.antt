use Rattle.std.proofs.Common.{◌≡◌, ◌+◌, drop, false}
use Rattle.server_config.specs.Lexemes.{closing_slash}
use Rattle.server_config.proofs.scan.closing_slash.Given as goal

abbrev pub invariant-loop-octet : goal.invariant-loop-octet
invariant-loop-octet l = record {
  counted : l.index ≡ l.octet-index;
  value : closing_slash false l.text ≡ l.octet-index + closing_slash l.is_starred (drop l.octet-index l.text);
}
