use Rattle.dns_zone.specs.EntryCodecs.{codec_of}
use Rattle.dns_laws.proofs.Spelled.{converts_once}
use Rattle.dns_laws.proofs.encodings.tokens_convert_to_one_thing.Goals as goal

pub returns : goal.returns
returns c = λ b. converts_once (codec_of b)
