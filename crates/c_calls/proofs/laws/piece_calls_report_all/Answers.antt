use Rattle.c_calls.proofs.PieceCalls.{tell_pieces, tell_split}
use Rattle.c_calls.proofs.laws.piece_calls_report_all.Goals as goal

pub returns-clause-pieces : goal.returns-clause-pieces
returns-clause-pieces c = λ text given first last told. tell_pieces text given first last told

pub returns-clause-tokens : goal.returns-clause-tokens
returns-clause-tokens c = λ text found first last told. tell_split text found first last told
