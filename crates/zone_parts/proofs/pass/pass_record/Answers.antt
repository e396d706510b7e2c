use Rattle.std.proofs.Common.{subst}
use Rattle.zone_parts.specs.Passing.{FindsTtl}
use Rattle.zone_parts.proofs.Passes.{leaves_always}
use Rattle.zone_parts.proofs.pass.pass_record.Goals as goal

pub returns-clause-leaves : goal.returns-clause-leaves
returns-clause-leaves g c =
    let ttl = c.explicit_ttl-ttl.result in
    leaves_always c.args.begins_blank (g.S.TokenSource.end c.args.source.now).at (g.S.TokenSource.left c.args.source.now) ttl c.args.state.now c.pass_owner.new.state c.pass_ttl.new.state c.requires.some c.requires.plain c.requires.knows
    (c.pass_owner.ensures.learns c.requires.some) (subst (λ l. FindsTtl l ttl) c.pass_owner.ensures.left c.explicit_ttl-ttl.ensures.found) c.pass_ttl.ensures
