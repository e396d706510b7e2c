use Rattle.std.proofs.Common.{◌≡◌, ◌+◌, drop}
use Rattle.server_config.specs.Lexemes.{line_len}
use Rattle.server_config.proofs.scan.line_len.Given as goal

abbrev pub invariant-loop-octet : goal.invariant-loop-octet
invariant-loop-octet l = record {
  counted : l.count ≡ l.octet-index;
  value : line_len l.text ≡ l.octet-index + line_len (drop l.octet-index l.text);
}
