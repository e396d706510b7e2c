use Rattle.std.proofs.Common.{◌++◌}
use Rattle.std.specs.Prelude.{codes}
use Rattle.finding_formats.proofs.Appending.{on_ok}
use Rattle.finding_formats.proofs.LineParts.{whole_line}
use Rattle.finding_formats.proofs.lines.push_first_line.Goals as goal

pub returns : goal.returns
returns g c =
    let last = c.extend_from_slice in
    whole_line last.result c.args.is_coloured c.args.finding.now c.args.out.now.items c.push_place.new.out.items c.push_severity.new.out.items c.push_subject.new.out.items c.push_shown.new.out.items
    c.push_opened.new.out.items c.push_code.new.out.items last.new.self.items
    c.in_ok-push_place.ensures
    c.in_ok-push_severity.ensures
    c.in_ok-push_subject.ensures
    c.in_ok-push_shown.ensures
    c.in_ok-push_opened.ensures
    c.in_ok-push_code.ensures
    (on_ok last.result last.new.self.items (c.push_code.new.out.items ++ codes "\n") c.push_code.new.out.items last.ensures.items)
