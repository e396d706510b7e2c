use Rattle.std.proofs.Common.{◌≡◌, length}
use Rattle.dns_lexer.proofs.Gathering.{Gathers}
use Rattle.dns_lexer.proofs.entry_tokens.EntryTokens.next_entry.Given as goal

abbrev pub invariant-tokens : goal.invariant-tokens
invariant-tokens g l = record { begun : l.begun ≡ l.fn.self; gathers : Gathers l.fn.self l.self l.tokens.items }

abbrev pub decreases-tokens : goal.decreases-tokens
decreases-tokens g l = length l.self
