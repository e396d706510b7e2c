use Rattle.dns_zone.specs.DocumentSteps.{document_steps}
use Rattle.dns_zone.proofs.Scanned.{surely_well_formed}
use Rattle.dns_zone.proofs.document.DocumentZoneTokens.known.Goals as goal

pub returns : goal.returns
returns g c = surely_well_formed (document_steps c.args.self.now) c.first_fault-fault.result (rw (← c.deref.ensures.value) c.first_fault-fault.ensures.fine)
    (rw (← c.deref.ensures.value) c.first_fault-fault.ensures.fault) c.args.self.now.well_formed
