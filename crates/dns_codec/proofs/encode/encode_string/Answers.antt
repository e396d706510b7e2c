use Rattle.std.proofs.Common.{rules}
use Rattle.dns_codec.proofs.Texts.{string_written}
use Rattle.dns_codec.proofs.encode.encode_string.Goals as goal

pub returns-in-Ok-display : goal.returns-in-Ok-display
returns-in-Ok-display g c = string_written c.in-Ok.text c.display.new.f _ c.in-Ok-display.ensures (search rules)
