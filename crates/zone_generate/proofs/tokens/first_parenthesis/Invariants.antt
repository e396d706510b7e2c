use Rattle.std.proofs.Common.{◌≡◌, drop}
use Rattle.zone_generate.specs.Tokens.{parenthesis_from}
use Rattle.zone_generate.specs.declared.tokens.TextMode.TheVariants.{Plain}
use Rattle.zone_generate.proofs.tokens.first_parenthesis.Given as goal

abbrev pub invariant-loop-octet : goal.invariant-loop-octet
invariant-loop-octet l = record {
  counted : l.at ≡ l.octet-index;
  value : parenthesis_from Plain 0 l.octets ≡ parenthesis_from l.mode l.octet-index (drop l.octet-index l.octets);
}
