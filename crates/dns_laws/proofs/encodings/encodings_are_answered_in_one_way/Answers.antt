use Rattle.dns_zone.specs.EntryCodecs.{codec_of}
use Rattle.dns_laws.proofs.Spelled.{answers_once}
use Rattle.dns_laws.proofs.encodings.encodings_are_answered_in_one_way.Goals as goal

pub returns : goal.returns
returns c = λ b. answers_once (codec_of b)
