use Rattle.std.proofs.Common.{sym, subst}
use Rattle.zone_reader.specs.EntryReading.{owner_of_record}
use Rattle.zone_reader.specs.EntrySteps.{owner_token}
use Rattle.zone_reader.specs.Learning.{Updates}
use Rattle.zone_reader.proofs.Learned.{nothing_learned}
use Rattle.zone_reader.proofs.entry.update_owner.Goals as goal

pub returns-then-begins_blank-clause-learns : goal.returns-then-begins_blank-clause-learns
returns-then-begins_blank-clause-learns g c =
    let tokens = g.S.TokenSource.left c.args.source.now in
    let state = c.args.state.now in
    λ some. subst (λ b. Updates (owner_of_record (owner_token b tokens)) state state) (sym c.if-begins_blank.true) (nothing_learned state)

pub returns-clause-learns : goal.returns-clause-learns
returns-clause-learns g c =
    let tokens = g.S.TokenSource.left c.args.source.now in
    λ some. subst (λ b. Updates (owner_of_record (owner_token b tokens)) c.args.state.now c.parse_owner.new.state) (sym c.if-begins_blank.false) (c.parse_owner.ensures.learns some)
