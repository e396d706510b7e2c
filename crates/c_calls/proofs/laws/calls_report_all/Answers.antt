use Rattle.c_calls.proofs.InCalls.{tell_all, tell_entries, tell_opener}
use Rattle.c_calls.proofs.laws.calls_report_all.Goals as goal

pub returns-clause-entries : goal.returns-clause-entries
returns-clause-entries c = λ text given first last entries o g start going calls. tell_all text first last entries o start going calls given g

pub returns-clause-tokens : goal.returns-clause-tokens
returns-clause-tokens c = λ text found first last entries o s start going calls. tell_entries text first last entries o start going calls found s

pub returns-clause-opened : goal.returns-clause-opened
returns-clause-opened c = λ text first last entries o start going calls h. tell_opener text first last entries o start going calls h
