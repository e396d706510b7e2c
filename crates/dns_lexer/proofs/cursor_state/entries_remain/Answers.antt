use Rattle.dns_lexer.proofs.Standings.{entry_left, left_entry}
use Rattle.dns_lexer.proofs.cursor_state.entries_remain.Goals as goal

pub returns : goal.returns
returns c = λ octets at given o. (entry_left octets at o given, left_entry octets at o given)
