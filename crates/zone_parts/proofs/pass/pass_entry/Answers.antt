use Rattle.std.proofs.Common.{◌∙◌, ap}
use Rattle.zone_parts.specs.Passing.{outcome, was_read}
use Rattle.zone_parts.proofs.pass.pass_entry.Goals as goal

pub returns-then-is_directive-clause-passes : goal.returns-then-is_directive-clause-passes
returns-then-is_directive-clause-passes g c =
    was_read c.read_entry-read.result c.read_entry-read.ensures.reads (c.passed.ensures ∙ ap (λ b. outcome b c.read_entry-read.result) c.is_directive-is_directive.ensures)
