use Rattle.std.proofs.Common.{List, ℕ, drop, length, subst, sym, ap, ◌∙◌, true≢false}
use Rattle.rdata_tokens.specs.NameSpelling.{IsWireName}
use Rattle.rdata_tokens.proofs.Pieces.{rest_of}
use Rattle.rdata.specs.TokenForms.{AreParts}
use Rattle.rdata.proofs.HostWire.{host_of, servers_place, servers_there}
use Rattle.rdata.proofs.host_identities.is_host_identity.Goals as goal

pub returns-in-Some : goal.returns-in-Some
returns-in-Some c =
    let octets = c.args.octets.now in
    let at = c.in-Some.at in
    let cut = rest_of at octets in (
      λ yes. host_of octets at c.in-Some.ensures (subst (AreParts IsWireName) cut (c.are_names.ensures.0 yes)),
      λ is. (
          let there = servers_there octets is in
          let same = servers_place octets there.0 there.1 ∙ sym (servers_place octets at c.in-Some.ensures) in
          c.are_names.ensures.1 (subst (AreParts IsWireName) (sym cut) (subst (λ n. AreParts IsWireName (drop n octets)) same there.2))
          ),
    )

pub returns-in-None : goal.returns-in-None
returns-in-None c = (λ no. absurd (true≢false (sym no)), λ is. (let there = servers_there c.args.octets.now is in absurd (c.in-None.ensures there.0 there.1)))
