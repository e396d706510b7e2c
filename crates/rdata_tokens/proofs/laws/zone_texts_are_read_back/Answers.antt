use Rattle.rdata_tokens.proofs.ZoneTexts.{one_text, absolute_back, relative_back}
use Rattle.rdata_tokens.proofs.laws.zone_texts_are_read_back.Goals as goal

pub returns-clause-one : goal.returns-clause-one
returns-clause-one c = one_text

pub returns-clause-absolute : goal.returns-clause-absolute
returns-clause-absolute c = absolute_back

pub returns-clause-relative : goal.returns-clause-relative
returns-clause-relative c = relative_back
