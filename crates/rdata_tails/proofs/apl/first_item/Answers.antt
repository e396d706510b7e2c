use Rattle.std.proofs.Common.{sym, subst}
use Rattle.rdata_tails.specs.Prefixes.{FindsItem}
use Rattle.rdata_tails.proofs.ItemLemmas.{no_part, no_address}
use Rattle.rdata_tails.proofs.apl.first_item.Goals as goal

pub returns-in_err-part : goal.returns-in_err-part
returns-in_err-part c = subst (FindsItem c.args.octets.now) (sym c.from_residual.ensures) (no_part c.args.octets.now c.in_err-part.ensures)

pub returns-in_err-address : goal.returns-in_err-address
returns-in_err-address c = subst (FindsItem c.args.octets.now) (sym c.from_residual-in_err-address.ensures) (no_address c.args.octets.now c.in_ok-part.part.now c.in_ok-part.ensures c.in_err-address.ensures)
