use Rattle.rdata_tails.proofs.ItemLemmas.{begins_with}
use Rattle.rdata_tails.proofs.apl.Prefix.from_octets.Goals as goal

pub returns : goal.returns
returns c = begins_with c.args.octets.now c.in_ok-first_item.field-0.prefix c.in_ok-first_item.field-0.width c.in_ok-first_item.ensures
