use Rattle.zone_check.proofs.rejection_findings.fault_finding.Goals as goal

pub returns : goal.returns
returns c = (c.opened_by-opened.result, c.opened_by-opened.ensures, cc)
