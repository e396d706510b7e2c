use Rattle.dns_codec.proofs.Texts.{ok_after}
use Rattle.dns_codec.proofs.encode.display.Goals as goal

pub returns : goal.returns
returns g c =
    ok_after g.W.Write.write_str_gives c.write_str.result c.args.f.now c.write_digits.new.f c.write_str.new.self _ _ _ c.padding_of-padding.ensures c.in_ok-write_digits.ensures c.write_str.ensures.ok
