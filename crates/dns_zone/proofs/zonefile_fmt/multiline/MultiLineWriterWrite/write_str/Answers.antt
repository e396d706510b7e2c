use Rattle.std.proofs.Common.{refl, inr}
use Rattle.dns_zone.specs.Sinks.{greatest_usize}
use Rattle.dns_zone.proofs.MultilineSteps.{counts_some}
use Rattle.dns_zone.proofs.zonefile_fmt.multiline.MultiLineWriterWrite.write_str.Goals as goal

pub returns-in-Some-clause-ok : goal.returns-in-Some-clause-ok
returns-in-Some-clause-ok g c = λ _. record {
  first = refl;
  blocks = refl;
  block_indent = refl;
  column = λ n e. counts_some greatest_usize g.W.Write.write_str_gives _ _ _ c.in-Some.is ((c.in_ok-write_str.ensures.ok refl).column n (rw e refl));
  wrote = (c.in_ok-write_str.ensures.ok refl).wrote;
}

pub returns-in-None-clause-err : goal.returns-in-None-clause-err
returns-in-None-clause-err g c = inr (λ n e. rw c.in-None.is at ((c.in_ok-write_str.ensures.ok refl).column n (rw e refl)))
