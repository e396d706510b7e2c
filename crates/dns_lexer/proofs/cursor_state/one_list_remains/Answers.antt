use Rattle.dns_lexer.specs.CursorStates.{ahead}
use Rattle.dns_lexer.proofs.Standings.{left_ahead, left_once, left_within}
use Rattle.dns_lexer.proofs.cursor_state.one_list_remains.Goals as goal

pub returns-clause-one : goal.returns-clause-one
returns-clause-one c = left_once

pub returns-clause-within : goal.returns-clause-within
returns-clause-within c = left_within

pub returns-clause-some : goal.returns-clause-some
returns-clause-some c = λ octets s o. (ahead octets s, left_ahead octets s o)
