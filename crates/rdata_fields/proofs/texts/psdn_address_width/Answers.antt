use Rattle.rdata_fields.proofs.FormLaws.{psdn_address_front, no_psdn_digits}
use Rattle.rdata_fields.proofs.texts.psdn_address_width.Goals as goal

pub returns-then-not-is_psdn_address : goal.returns-then-not-is_psdn_address
returns-then-not-is_psdn_address c = no_psdn_digits c.args.octets.now c.in_ok-width.width c.in_ok-width.ensures c.if-not-is_psdn_address.ensures

pub returns : goal.returns
returns c = psdn_address_front c.args.octets.now c.in_ok-width.width c.in_ok-width.ensures c.if-not-is_psdn_address.ensures
