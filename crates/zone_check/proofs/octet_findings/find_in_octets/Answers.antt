use Rattle.std.proofs.Common.{◌≡◌, ◌++◌, subst}
use Rattle.std.proofs.lemmas.Result.{on_ok_weaker}
use Rattle.zone_check.specs.Lint.{ShowsBlock}
use Rattle.zone_check.specs.OctetFindings.{octet_findings}
use Rattle.zone_check.proofs.octet_findings.find_in_octets.Goals as goal

pub returns : goal.returns
returns c =
    let remarks = c.lint.new.found.items in
    on_ok_weaker c.append_reported.result
    (λ e. (
      remarks,
      subst (λ l. ShowsBlock c.args.octets.now c.args.block l remarks) c.new-remarks.ensures.items c.in_ok-lint.ensures,
      subst (λ l. c.append_reported.new.found.items ≡ c.args.found.now.items ++ octet_findings c.args.reported l) c.as_slice.ensures.value e,
    ))
    c.append_reported.ensures
