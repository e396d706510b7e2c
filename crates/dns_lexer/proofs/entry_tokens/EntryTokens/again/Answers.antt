use Rattle.std.proofs.Common.{subst}
use Rattle.dns_lexer.specs.EntryTokens.{IsInEntries}
use Rattle.dns_lexer.proofs.EntryParts.{in_entries}
use Rattle.dns_lexer.proofs.entry_tokens.EntryTokens.again.Goals as goal

pub returns-clause-entries : goal.returns-clause-entries
returns-clause-entries c =
    let me = c.self.inside in
    subst IsInEntries c.self.view_is (in_entries me.octets.now me.standing me.ended c.self.invariant)
