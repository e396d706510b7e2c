use Rattle.std.proofs.Common.{length, sym}
use Rattle.std.proofs.lemmas.Bool.{eqb-false}
use Rattle.rdata_values.proofs.GroupLemmas.{behind_colon}
use Rattle.rdata_values.proofs.locator.next_group.Goals as goal

pub returns : goal.returns
returns c = behind_colon c.args.text.now _ (eqb-false (length c.args.text.now) 0 (sym c.if-is_empty.ensures)) c.if-text-ne58.false c.first_group.ensures
