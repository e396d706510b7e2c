use Rattle.dns_codec.proofs.Texts.{at_ok, formatter_writes}
use Rattle.dns_codec.proofs.encode.EncodedDisplay.fmt.Goals as goal

pub returns-clause-writes : goal.returns-clause-writes
returns-clause-writes g c = λ plain ok. formatter_writes g.W.Write.write_str_gives c.args.f.now _ c.display.new.f (at_ok c.display.result _ ok c.display.ensures) plain
