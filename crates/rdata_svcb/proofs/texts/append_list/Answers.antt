use Rattle.rdata_svcb.proofs.ListFaults.{if_err, list_fault}
use Rattle.rdata_svcb.proofs.texts.append_list.Goals as goal

pub returns-clause-err : goal.returns-clause-err
returns-clause-err g c =
    if_err c.append_items.result _ _ (λ e h. list_fault g.B.OctetsBuilder.room (g.B.AsOctets.octets c.args.target.now) c.args.text.now e h) c.append_items.ensures.fault
