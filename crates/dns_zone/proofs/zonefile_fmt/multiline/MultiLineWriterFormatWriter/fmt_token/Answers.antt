use Rattle.std.proofs.Common.{refl, inr}
use Rattle.std.proofs.Output.{if_some_weaken}
use Rattle.dns_zone.specs.Sinks.{greatest_usize}
use Rattle.dns_zone.proofs.MultilineSteps.{multiline_token, token_too_wide, SpaceWritten, counted_one, counted_none}
use Rattle.dns_zone.proofs.zonefile_fmt.multiline.MultiLineWriterFormatWriter.fmt_token.Goals as goal
use Rattle.dns_zone.proofs.zonefile_fmt.multiline.MultiLineWriterFormatWriter.fmt_token.Goals.{then-not-self+in_ok-write_str, else-not-self}

pub returns-in-Some-clause-gives : goal.returns-in-Some-clause-gives
returns-in-Some-clause-gives g c =
    let space : SpaceWritten greatest_usize g.W.Write.write_str_gives c.args.self.now c.if-not-self.self =
    elim c.if-not-self.branch [
      | then-not-self+in_ok-write_str w ↦ rw w.self-is (record { blocks = refl; block_indent = refl; line = rw w.if-not-self.true (counted_one _ _ _ _ _ (w.in_ok-write_str.ensures.ok refl)) })
      | else-not-self w ↦ rw w.self-is (record { blocks = refl; block_indent = refl; line = rw w.if-not-self.false (counted_none _ _ _) })
    ] in
    if_some_weaken (g.T.Display.output c.args.text) _ _ (λ bs p. multiline_token greatest_usize _ c.args.self.now c.if-not-self.self _ bs _ space p c.in-Some.is) c.in_ok-print.ensures.ok

pub returns-in-None-clause-fails : goal.returns-in-None-clause-fails
returns-in-None-clause-fails g c =
    let space : SpaceWritten greatest_usize g.W.Write.write_str_gives c.args.self.now c.if-not-self.self =
    elim c.if-not-self.branch [
      | then-not-self+in_ok-write_str w ↦ rw w.self-is (record { blocks = refl; block_indent = refl; line = rw w.if-not-self.true (counted_one _ _ _ _ _ (w.in_ok-write_str.ensures.ok refl)) })
      | else-not-self w ↦ rw w.self-is (record { blocks = refl; block_indent = refl; line = rw w.if-not-self.false (counted_none _ _ _) })
    ] in
    if_some_weaken (g.T.Display.output c.args.text) _ _ (λ bs p. inr (λ past h. token_too_wide greatest_usize _ c.args.self.now c.if-not-self.self _ bs past space p c.in-None.is h)) c.in_ok-print.ensures.ok
