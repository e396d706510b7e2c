use Rattle.std.proofs.Common.{arith, length}
use Rattle.dns_symbol.proofs.Texts.{symbols_exist}
use Rattle.dns_charstr.proofs.Answered.{one_list, read_or_short}
use Rattle.dns_charstr.proofs.OneAnswer.{one_answer}
use Rattle.dns_charstr.proofs.laws.texts_have_one_reading.Goals as goal

pub returns-clause-octets : goal.returns-clause-octets
returns-clause-octets c = λ xs ys h k. one_list c.args.text.now xs ys h k

pub returns-clause-answer : goal.returns-clause-answer
returns-clause-answer c = λ size q r h k.
    let whole = symbols_exist (length c.args.text.now) c.args.text.now (omega arith) c.utf8.text in
    one_answer size c.args.text.now whole.0 whole.1 whole.2 q r h k

pub returns-clause-whole : goal.returns-clause-whole
returns-clause-whole c = λ room octets r read whole short. read_or_short room c.args.text.now octets r read whole short
