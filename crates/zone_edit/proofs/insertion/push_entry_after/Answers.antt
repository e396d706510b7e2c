use Rattle.std.proofs.Common.{◌++◌, take, ap, ◌∙◌}
use Rattle.zone_edit.specs.Lines.{line_after}
use Rattle.zone_edit.proofs.insertion.push_entry_after.Goals as goal

pub returns-clause-ok : goal.returns-clause-ok
returns-clause-ok g c =
    let line = line_after (take c.args.end c.args.octets.now) c.args.line.now in
    let p = c.in_ok-push_edit.ensures.ok in
    (p.0, p.1, p.2, p.3 ∙ c.in_ok-push_line_after.ensures.made ∙ ap (λ l. l ++ line) c.new-text.ensures.items)
