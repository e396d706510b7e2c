use Rattle.dns_charstr.proofs.Skipped.{passed}
use Rattle.dns_charstr.proofs.charstr.wire.CharStr+ref+slice+u8.skip.Goals as goal

pub returns-clause-goes : goal.returns-clause-goes
returns-clause-goes c =
    passed c.args.parser.now c.parse_u8.new.self c.advance.new.self c.in_ok-len.field-0 c.advance.result
    c.in_ok-len.ensures.value c.in_ok-len.ensures.moved c.advance.ensures.ok.0 c.advance.ensures.moved
