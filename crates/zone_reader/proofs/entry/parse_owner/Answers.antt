use Rattle.std.proofs.Common.{Ok, Err, drop, refl, subst}
use Rattle.zone_reader.specs.Learning.{ParsesName}
use Rattle.zone_reader.specs.Past.{known_name}
use Rattle.zone_reader.proofs.EntrySteps.{known_learned, known_owner, passes_refused, passes_taken, refusal_learned, refused_owner}
use Rattle.zone_reader.proofs.entry.parse_owner.Goals as goal

pub returns-in-Ok-clause-reads : goal.returns-in-Ok-clause-reads
returns-in-Ok-clause-reads g c =
    let tokens = g.S.TokenSource.left c.args.source.now in
    let left = g.S.TokenSource.left c.parse_name_into.new.source in
    let end = (g.S.TokenSource.end c.args.source.now).at in
    let h = c.in-Ok.ensures.takes in
    let name : ParsesName (known_name c.args.state.now.origin) end tokens (Ok h.0) left = subst (λ o. ParsesName o end tokens (Ok h.0) left) c.name.ensures h.2 in
    λ some. known_owner c.args.state.now end tokens left c.parse_name_into.new.known h.0 _ h.1 (passes_taken _ end tokens left h.0 name) some

pub returns-in-Ok-clause-learns : goal.returns-in-Ok-clause-learns
returns-in-Ok-clause-learns g c =
    let tokens = g.S.TokenSource.left c.args.source.now in
    let left = g.S.TokenSource.left c.parse_name_into.new.source in
    let end = (g.S.TokenSource.end c.args.source.now).at in
    let h = c.in-Ok.ensures.takes in
    let name : ParsesName (known_name c.args.state.now.origin) end tokens (Ok h.0) left = subst (λ o. ParsesName o end tokens (Ok h.0) left) c.name.ensures h.2 in
    λ some. known_learned c.args.state.now end tokens left c.parse_name_into.new.known h.0 h.1 (passes_taken _ end tokens left h.0 name) some

pub returns-in-Err-clause-reads : goal.returns-in-Err-clause-reads
returns-in-Err-clause-reads g c =
    let tokens = g.S.TokenSource.left c.args.source.now in
    let left = g.S.TokenSource.left c.parse_name_into.new.source in
    let end = (g.S.TokenSource.end c.args.source.now).at in
    let h = c.in-Err.ensures.takes in
    let name : ParsesName (known_name c.args.state.now.origin) end tokens (Err c.in-Err.error) left = subst (λ o. ParsesName o end tokens (Err c.in-Err.error) left) c.name.ensures h.1 in
    λ some. refused_owner c.args.state.now end tokens (drop 1 left) c.parse_name_into.new.known c.in-Err.error h.0 (passes_refused _ end tokens left (drop 1 left) c.in-Err.error name refl) some

pub returns-in-Err-clause-learns : goal.returns-in-Err-clause-learns
returns-in-Err-clause-learns g c =
    let tokens = g.S.TokenSource.left c.args.source.now in
    let left = g.S.TokenSource.left c.parse_name_into.new.source in
    let end = (g.S.TokenSource.end c.args.source.now).at in
    let h = c.in-Err.ensures.takes in
    let name : ParsesName (known_name c.args.state.now.origin) end tokens (Err c.in-Err.error) left = subst (λ o. ParsesName o end tokens (Err c.in-Err.error) left) c.name.ensures h.1 in
    λ some. refusal_learned c.args.state.now end tokens (drop 1 left) c.parse_name_into.new.known c.in-Err.error h.0 (passes_refused _ end tokens left (drop 1 left) c.in-Err.error name refl) some
