use Rattle.rdata_svcb.specs.Template.{is_limit_digit}
use Rattle.rdata_svcb.proofs.Templates.{none_fails}
use Rattle.rdata_svcb.proofs.template.are_digits.Goals as goal

pub returns : goal.returns
returns c = none_fails is_limit_digit c.args.text.now c.loop-octet.octet-index _ c.loop-octet.invariant c.loop-octet-test.false
