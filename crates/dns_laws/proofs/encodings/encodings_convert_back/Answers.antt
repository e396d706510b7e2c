use Rattle.std.proofs.Common.{sym, ◌∙◌}
use Rattle.dns_codec.specs.Base.{encoded}
use Rattle.dns_codec.proofs.Each.{decodes}
use Rattle.dns_zone.specs.EntryCodecs.{codec_of}
use Rattle.dns_laws.proofs.Converted.{converts_plain, encoded_plain, plain_alphabet, base_text}
use Rattle.dns_laws.proofs.encodings.encodings_convert_back.Goals as goal

pub returns : goal.returns
returns c = λ b known octets all r h.
    sym (converts_plain (codec_of b) (encoded b octets) r (encoded_plain b octets (plain_alphabet b known)) h) ∙ base_text b known (encoded b octets) octets (decodes b known octets all)
