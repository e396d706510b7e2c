use Rattle.dns_zone.specs.EntryCodecs.{codec_of}
use Rattle.dns_laws.proofs.Converted.{base_text, base_only}
use Rattle.dns_laws.proofs.Spelled.{spelled, converts, base_same, base_needs}
use Rattle.dns_laws.proofs.encodings.only_encodings_convert.Goals as goal

pub returns : goal.returns
returns c = λ b known token octets. (
  spelled (codec_of b) (base_same b) (base_needs b) b (base_text b known) (base_only b known) token octets,
  converts (codec_of b) (base_same b) (base_needs b) b (base_text b known) (base_only b known) token octets,
)
