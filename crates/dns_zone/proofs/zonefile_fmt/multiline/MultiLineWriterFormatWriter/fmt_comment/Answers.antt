use Rattle.std.proofs.Output.{if_some_weaken}
use Rattle.dns_zone.specs.Sinks.{greatest_usize}
use Rattle.dns_zone.proofs.MultilineSteps.{multiline_comment}
use Rattle.dns_zone.proofs.zonefile_fmt.multiline.MultiLineWriterFormatWriter.fmt_comment.Goals as goal

pub returns-in_ok-write_spaces-clause-gives : goal.returns-in_ok-write_spaces-clause-gives
returns-in_ok-write_spaces-clause-gives g c =
    if_some_weaken (g.T.Display.output c.args.text) _ _
    (λ bs p. multiline_comment greatest_usize _ _ _ _ _ _ _ bs c.in-Some.is (c.in_ok-put_str.ensures.ok) p (c.in_ok-put_str-2.ensures.ok) c.in_ok-write_spaces.ensures.ok)
    c.in_ok-print.ensures.ok
