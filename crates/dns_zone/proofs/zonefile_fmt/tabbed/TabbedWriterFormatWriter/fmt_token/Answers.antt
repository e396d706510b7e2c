use Rattle.std.proofs.Common.{refl}
use Rattle.std.proofs.Output.{if_some_weaken, writes_in_calls_single, writes_in_calls_nil}
use Rattle.dns_zone.proofs.TabbedSteps.{tabbed_token, GapWritten}
use Rattle.dns_zone.proofs.zonefile_fmt.tabbed.TabbedWriterFormatWriter.fmt_token.Goals as goal
use Rattle.dns_zone.proofs.zonefile_fmt.tabbed.TabbedWriterFormatWriter.fmt_token.Goals.{then-not-self+in_ok-put_str, else-not-self}

pub returns-clause-gives : goal.returns-clause-gives
returns-clause-gives g c =
    let gap : GapWritten g.W.Write.write_str_gives c.args.self.now c.if-not-self.self =
    elim c.if-not-self.branch [
      | then-not-self+in_ok-put_str w ↦ rw w.self-is
          (record { blocks = refl; wrote = rw w.if-not-self.true (rw (← w.open.ensures, ← w.gap.ensures) (writes_in_calls_single _ _ _ _ (w.in_ok-put_str.ensures.ok))) })
      | else-not-self w ↦ rw w.self-is (record { blocks = refl; wrote = rw w.if-not-self.false (writes_in_calls_nil _ _) })
    ] in
    if_some_weaken (g.T.Display.output c.args.text) _ _ (λ bs p. tabbed_token _ c.args.self.now c.if-not-self.self _ bs gap p) c.in_ok-print.ensures.ok
