use Rattle.std.proofs.Common.{arith}
use Rattle.dns_lexer.proofs.EntryParts.{starts, stands_at}
use Rattle.dns_lexer.proofs.OctetsOnce.{are_octets}
use Rattle.dns_lexer.proofs.entry_tokens.EntryTokens.of_octets.Goals as goal

pub invariant_of-result : goal.invariant_of-result
invariant_of-result c =
    let octets = c.args.octets.now in
    rw c.at_entry.ensures (stands_at octets 0 (are_octets octets (λ k. (c.type_inv.octets k).fits)) (omega arith))

pub returns : goal.returns
returns c =
    let octets = c.args.octets.now in
    rw c.at_entry.ensures (starts octets (are_octets octets (λ k. (c.type_inv.octets k).fits)))
