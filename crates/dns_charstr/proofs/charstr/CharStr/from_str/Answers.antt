use Rattle.dns_charstr.proofs.Answered.{whole_is_read}
use Rattle.dns_charstr.proofs.charstr.CharStr.from_str.Goals as goal

pub returns-clause-succeeds : goal.returns-clause-succeeds
returns-clause-succeeds g c = λ octets whole fits short. whole_is_read _ _ octets _ c.read_symbols.ensures whole fits short
