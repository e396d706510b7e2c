use Rattle.std.proofs.Common.{refl}
use Rattle.rdata_values.proofs.TtlLaws.{reads_periods}
use Rattle.rdata_values.proofs.ttl.seconds_from_text.Goals as goal

pub returns-then-not-begins_with_digit : goal.returns-then-not-begins_with_digit
returns-then-not-begins_with_digit c = λ n small s. c.if-not-begins_with_digit.ensures.none refl n s

pub returns-in-None : goal.returns-in-None
returns-in-None c = reads_periods c.args.text.now c.periods_from_text.result (c.if-not-begins_with_digit.ensures.some refl) c.in-None.ensures c.periods_from_text.ensures
