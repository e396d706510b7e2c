use Rattle.std.proofs.Common.{sym, subst}
use Rattle.zone_reader.specs.EntryReading.{owner_of_record}
use Rattle.zone_reader.specs.EntrySteps.{owner_token}
use Rattle.zone_reader.specs.Learning.{Updates}
use Rattle.zone_reader.proofs.Learned.{nothing_learned}
use Rattle.zone_parts.specs.Passing.{NamesNext}
use Rattle.zone_parts.proofs.Passes.{owner_next}
use Rattle.zone_parts.proofs.pass.pass_owner.Goals as goal

pub returns-then-begins_blank-clause-learns : goal.returns-then-begins_blank-clause-learns
returns-then-begins_blank-clause-learns g c =
    let tokens = g.S.TokenSource.left c.args.source.now in
    let state = c.args.state.now in
    λ some. subst (λ b. Updates (owner_of_record (owner_token b tokens)) state state) (sym c.if-begins_blank.true) (nothing_learned state)

pub returns-clause-learns : goal.returns-clause-learns
returns-clause-learns g c =
    let tokens = g.S.TokenSource.left c.args.source.now in
    let state = c.args.state.now in
    let name = c.parse_owner-state.result in
    λ some. subst (λ b. Updates (owner_of_record (owner_token b tokens)) state (record state { owner = name })) (sym c.if-begins_blank.false)
    (owner_next state tokens name (subst (λ o. NamesNext o tokens name) c.name.ensures c.parse_owner-state.ensures.named) some)
