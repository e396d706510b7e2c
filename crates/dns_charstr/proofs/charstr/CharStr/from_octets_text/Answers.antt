use Rattle.dns_charstr.proofs.OctetAnswers.{octets_are_read}
use Rattle.dns_charstr.proofs.charstr.CharStr.from_octets_text.Goals as goal

pub returns-clause-succeeds : goal.returns-clause-succeeds
returns-clause-succeeds g c = λ octets whole fits short. octets_are_read _ _ octets _ c.read_octets.ensures whole fits short
