use Rattle.std.proofs.Common.{◌≡◌, ◌+◌, drop, false}
use Rattle.server_config.specs.Lexemes.{closing_quote}
use Rattle.server_config.proofs.scan.closing_quote.Given as goal

abbrev pub invariant-loop-octet : goal.invariant-loop-octet
invariant-loop-octet l = record {
  counted : l.index ≡ l.octet-index;
  value : closing_quote false l.text ≡ l.octet-index + closing_quote l.is_escaped (drop l.octet-index l.text);
}
