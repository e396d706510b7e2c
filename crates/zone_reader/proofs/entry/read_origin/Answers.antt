use Rattle.std.proofs.Common.{subst}
use Rattle.std.specs.Option.{option_copied}
use Rattle.zone_reader.specs.EntrySteps.{only_token}
use Rattle.zone_reader.specs.Past.{NamedBy}
use Rattle.zone_reader.specs.declared.known.NameState.TheVariants.{Name as known_as, Rejected}
use Rattle.zone_reader.proofs.EntrySteps.{last_named, last_refused}
use Rattle.zone_reader.proofs.Learned.{origin_learned}
use Rattle.zone_reader.proofs.entry.read_origin.Goals as goal

pub returns-in-Ok-clause-learns : goal.returns-in-Ok-clause-learns
returns-in-Ok-clause-learns g c =
    let tokens = g.S.TokenSource.left c.args.source.now in
    let known = known_as c.in-Ok.name in
    origin_learned c.args.state.now (only_token tokens) known
    (subst (λ o. NamedBy o (only_token tokens) known) c.name.ensures (last_named (option_copied c.name.result) (g.S.TokenSource.end c.args.source.now).at tokens c.in-Ok.name c.in-Ok.ensures.takes))

pub returns-in-Err-clause-learns : goal.returns-in-Err-clause-learns
returns-in-Err-clause-learns g c =
    let tokens = g.S.TokenSource.left c.args.source.now in
    origin_learned c.args.state.now (only_token tokens) Rejected
    (subst (λ o. NamedBy o (only_token tokens) Rejected) c.name.ensures (last_refused (option_copied c.name.result) (g.S.TokenSource.end c.args.source.now).at tokens c.in-Err.error c.in-Err.ensures.takes))
