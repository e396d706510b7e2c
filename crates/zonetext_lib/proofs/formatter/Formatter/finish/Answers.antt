use Rattle.std.proofs.Common.{sym, subst}
use Rattle.zone_format.specs.declared.place.LocatedOffset.{LocatedOffset}
use Rattle.zonetext_lib.specs.Forming.{FormedSoFar, HasNoFormAfter}
use Rattle.zonetext_lib.proofs.Forming.{last_error}
use Rattle.zonetext_lib.proofs.formatter.Formatter.finish.Goals as goal

pub returns-in-Err-clause-bad : goal.returns-in-Err-clause-bad
returns-in-Err-clause-bad g c = λ all written x.
    let h = c.self.inside.checker in
    let s = c.self.inside.seam in
    let why = c.why_after.result in
    let k = subst (λ (q : LocatedOffset). HasNoFormAfter s.above q h.octets why) c.place.ensures.place
    (subst (λ l. HasNoFormAfter s.above c.place.result l why) c.held-held.ensures.held (c.why_after.ensures s.above c.in-Err.ensures.bad)) in
    last_error all written h s why c.held-held.ensures.octets k (subst (FormedSoFar all written) (sym c.self.view_is) x)
