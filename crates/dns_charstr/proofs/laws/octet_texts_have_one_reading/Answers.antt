use Rattle.std.proofs.Common.{arith, length}
use Rattle.dns_charstr.proofs.OctetAnswers.{octets_or_short, one_answer_of_octets}
use Rattle.dns_charstr.proofs.OctetSpellings.{spells_one, all_of}
use Rattle.dns_charstr.proofs.laws.octet_texts_have_one_reading.Goals as goal

pub returns-clause-octets : goal.returns-clause-octets
returns-clause-octets c = λ xs ys h k. spells_one c.args.text.now xs ys h k

pub returns-clause-whole : goal.returns-clause-whole
returns-clause-whole c = λ room octets r read whole short. octets_or_short room c.args.text.now octets r read whole short

pub returns-clause-answer : goal.returns-clause-answer
returns-clause-answer c = λ size q r h k. one_answer_of_octets size c.args.text.now (all_of (length c.args.text.now) c.args.text.now (omega arith)) q r h k
