use Rattle.std.proofs.Common.{◌∙◌, sym}
use Rattle.rdata.proofs.WireTypes.{first_is_zero}
use Rattle.rdata.proofs.wire.has_type_zero.Goals as goal

pub returns-in-Some : goal.returns-in-Some
returns-in-Some c = rw c.first.view_is (first_is_zero c.args.octets.now _ c.in-Some.first c.requires (sym c.new-types.ensures ∙ c.in-Some.ensures.steps))
