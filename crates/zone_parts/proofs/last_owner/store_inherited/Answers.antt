use Rattle.std.proofs.Common.{subst}
use Rattle.std.specs.Prelude.{option_map}
use Rattle.dns_lexer.specs.EntryTokens.{token_seen}
use Rattle.zone_parts.specs.Inherited.{IsInherited}
use Rattle.zone_parts.proofs.Keeps.{keeps_owner, takes_owner}
use Rattle.zone_parts.proofs.last_owner.store_inherited.Goals as goal

pub returns-in-Some : goal.returns-in-Some
returns-in-Some c = λ blank end tokens knows i.
    let ttl = c.args.inherited.ttl in
    takes_owner blank end tokens (token_seen c.in-Some.token) ttl c.args.state.now c.pass_ttl.new.state (option_map token_seen c.args.owner.now) knows
    (subst (λ o. IsInherited blank tokens (option_map token_seen o) ttl) c.in-Some.is i) c.pass_ttl.ensures

pub returns-in-None : goal.returns-in-None
returns-in-None c = λ blank end tokens knows i.
    let ttl = c.args.inherited.ttl in
    keeps_owner blank end tokens ttl c.args.state.now c.pass_ttl.new.state (option_map token_seen c.args.owner.now) knows
    (subst (λ o. IsInherited blank tokens (option_map token_seen o) ttl) c.in-None.is i) c.pass_ttl.ensures
