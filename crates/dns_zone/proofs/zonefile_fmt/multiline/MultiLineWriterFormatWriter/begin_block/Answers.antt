use Rattle.std.proofs.Common.{inr, arith}
use Rattle.dns_zone.specs.Sinks.{greatest_usize}
use Rattle.dns_zone.proofs.MultilineSteps.{multiline_begin, begin_is, begin_too_wide}
use Rattle.dns_zone.proofs.zonefile_fmt.multiline.MultiLineWriterFormatWriter.begin_block.Goals as goal

pub returns-in_default-clause-fails : goal.returns-in_default-clause-fails
returns-in_default-clause-fails g c =
    inr (λ past h. inr (begin_too_wide greatest_usize g.W.Write.write_str_gives c.args.self.now c.fmt_token.new.self c.count_on.result past c.in_ok-fmt_token.ensures.gives c.count_on.ensures c.in_default.is h))

pub returns-clause-gives : goal.returns-clause-gives
returns-clause-gives g c = record {
  opens = c.in_ok-blocks.ensures.more;
  gives = multiline_begin greatest_usize g.W.Write.write_str_gives c.args.self.now c.fmt_token.new.self c.count_on.result _ _ c.in_ok-fmt_token.ensures.gives c.count_on.ensures c.in-Some.is c.in_ok-blocks.ensures.more;
}

pub returns-clause-indented : goal.returns-clause-indented
returns-clause-indented g c past h =
    let e = begin_is greatest_usize g.W.Write.write_str_gives c.args.self.now c.fmt_token.new.self c.count_on.result _ past c.in_ok-fmt_token.ensures.gives c.count_on.ensures c.in-Some.is h in
    omega (arith, e)
