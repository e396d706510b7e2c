use Rattle.std.proofs.Common.{◌+◌, take, drop, sym, ap, ◌∙◌, arith}
use Rattle.zone_update.specs.Parts.{AreSeparable}
use Rattle.zone_update.proofs.Fitting.{none_longer, none_more}
use Rattle.zone_update.proofs.parts.part_len.Goals as goal

pub scan-preserved : goal.scan-preserved
scan-preserved g c =
    let ops = c.args.operations.now in
    let s = c.scan in
    record {
      used = ap (λ n. n + c.in-Some.size) s.invariant.used ∙ sym c.in-Some.ensures.adds;
      room = omega (arith, s.invariant.room, c.in-Some.ensures.within.1);
      within = omega (arith, c.in-Some.ensures.within.0);
      longest = omega (arith, s.invariant.longest);
      fits = s.invariant.fits;
      whole = s.invariant.whole;
      none = none_more (λ n. AreSeparable c.args.names.now (take n ops) (drop n ops)) s.longest s.at s.invariant.none c.if-are_apart.ensures;
    }

pub returns-clause-longest : goal.returns-clause-longest
returns-clause-longest g c =
    let ops = c.args.operations.now in
    let s = c.scan in
    none_longer (λ n. AreSeparable c.args.names.now (take n ops) (drop n ops)) s.longest s.at s.invariant.none ops c.args.limit s.used s.invariant.used s.invariant.room c.in_default.ensures.none
