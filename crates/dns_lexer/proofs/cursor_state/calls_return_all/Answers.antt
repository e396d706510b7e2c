use Rattle.dns_lexer.proofs.Standings.{takes_from_entry, takes_from_start}
use Rattle.dns_lexer.proofs.cursor_state.calls_return_all.Goals as goal

pub returns-clause-entry : goal.returns-clause-entry
returns-clause-entry c = takes_from_entry

pub returns-clause-text : goal.returns-clause-text
returns-clause-text c = takes_from_start
