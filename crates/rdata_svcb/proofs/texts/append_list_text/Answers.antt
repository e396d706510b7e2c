use Rattle.rdata_svcb.proofs.ListFaults.{if_err, strings_fault}
use Rattle.rdata_svcb.proofs.texts.append_list_text.Goals as goal

pub returns-clause-err : goal.returns-clause-err
returns-clause-err g c =
    if_err c.append_strings_text.result _ _ (λ e h. strings_fault g.B.OctetsBuilder.room (g.B.AsOctets.octets c.args.target.now) c.args.octets.now e h) c.append_strings_text.ensures.fault
