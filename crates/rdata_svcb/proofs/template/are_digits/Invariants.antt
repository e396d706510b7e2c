use Rattle.std.proofs.Common.{◌≡◌, drop}
use Rattle.std.specs.List.{list_all}
use Rattle.rdata_svcb.specs.Template.{is_limit_digit}
use Rattle.rdata_svcb.proofs.template.are_digits.Given as goal

abbrev pub invariant-loop-octet : goal.invariant-loop-octet
invariant-loop-octet l = list_all is_limit_digit (drop l.octet-index l.text) ≡ list_all is_limit_digit l.text
