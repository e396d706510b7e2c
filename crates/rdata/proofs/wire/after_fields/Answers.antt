use Rattle.std.proofs.Common.{sym}
use Rattle.rdata.proofs.Textless.{behind_is}
use Rattle.rdata.proofs.wire.after_fields.Goals as goal

pub returns : goal.returns
returns c = sym (behind_is c.args.fields.now c.args.octets.now c.in-Some.back.now c.in-Some.ensures)
