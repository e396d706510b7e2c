use Rattle.std.proofs.Common.{sym, subst}
use Rattle.zonetext_lib.specs.Comparing.{Compared, SameUntil}
use Rattle.zonetext_lib.proofs.Together.{both, compared_on}
use Rattle.zonetext_lib.proofs.comparer.Comparer.discard_read.Goals as goal

pub returns : goal.returns
returns g c = λ one other h.
    let here = subst (Compared one other) (sym c.self.view_is) h in
    let ours = c.held.ensures in
    let theirs = c.held-2.ensures in
    let r = c.same_until-one.result in
    let e = subst (λ l. SameUntil c.self.inside.first.octets l r.0 r.1) theirs.held (subst (λ l. SameUntil l c.held-2.result.now r.0 r.1) ours.held c.same_until-one.ensures) in
    compared_on one other (both c.self.inside.first c.self.inside.second) (both c.release.new.self c.release-2.new.self) r.0 r.1 e.2.0 here ours.octets theirs.octets e.0 e.1 e.2.1 e.2.2 c.release.ensures
    c.release-2.ensures
