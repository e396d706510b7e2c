use Rattle.dns_lexer.proofs.EntryParts.{stands_at, starts_from}
use Rattle.dns_lexer.proofs.OctetsOnce.{are_octets}
use Rattle.dns_lexer.proofs.entry_tokens.EntryTokens.of_octets_starting_at.Goals as goal

pub invariant_of-result : goal.invariant_of-result
invariant_of-result c =
    let octets = c.args.octets.now in
    rw c.at_entry.ensures (stands_at octets c.args.at (are_octets octets (λ k. (c.type_inv.octets k).fits)) c.requires)

pub returns : goal.returns
returns c =
    let octets = c.args.octets.now in
    rw c.at_entry.ensures (starts_from octets c.args.at (are_octets octets (λ k. (c.type_inv.octets k).fits)))
