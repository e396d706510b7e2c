use Rattle.findings.specs.Collected.{counted_after}
use Rattle.findings.specs.FindingOrder.{findings_of}
use Rattle.findings.proofs.ShownFirsts.{shown_of_all}
use Rattle.findings.proofs.collector.FindingCollector.finish.Goals as goal

pub returns-clause-shown : goal.returns-clause-shown
returns-clause-shown g c found h =
    let self = c.args.self in (
      h.severities,
      h.judged,
      shown_of_all self.tally.most (counted_after 0 found h.severities) (findings_of self.kept.items) (findings_of c.choose_shown.new.findings.items) h.kept c.in_ok-choose_shown.ensures.shown,
    )
