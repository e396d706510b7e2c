use Rattle.c_calls.proofs.RecordCalls.{record_calls_return_all}
use Rattle.c_calls.proofs.laws.record_calls_return_all.Goals as goal

pub returns : goal.returns
returns c = record_calls_return_all
