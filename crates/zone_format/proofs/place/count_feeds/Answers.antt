use Rattle.std.proofs.Common.{◌==◌, ◌+◌, ◌≤◌, length, arith}
use Rattle.std.proofs.lemmas.List.Sums.{count_by-le-length}
use Rattle.zone_format.proofs.Positions.{feeds_on, feeds_parted, load_short}
use Rattle.zone_format.proofs.place.count_feeds.Goals as goal

pub overflow_add-lines : goal.overflow_add-lines
overflow_add-lines c =
    let inv = c.loop-place.invariant in
    let few = load_short c.args.octets.now c.loop-place.place in
    record { fits = omega (arith, inv.few, inv.within, few, c.feeds_in-lines.ensures, c.loop-place-test.true) }

pub loop-place-preserved : goal.loop-place-preserved
loop-place-preserved c =
    let inv = c.loop-place.invariant in
    let xs = c.args.octets.now in
    let i = c.loop-place.place in
    let room : i + 16 ≤ length xs = omega (arith, c.loop-place-test.true, inv.within) in
    record {
      within = room;
      lines = omega (arith, inv.lines, c.feeds_in-lines.ensures, feeds_on xs i room);
      few = omega (arith, inv.few, c.feeds_in-lines.ensures, load_short xs i);
    }

pub overflow_add-result : goal.overflow_add-result
overflow_add-result c =
    let inv = c.loop-place.invariant in
    let all = feeds_parted c.args.octets.now c.loop-place.place inv.within in
    record { fits = omega (arith, inv.lines, c.count_few_feeds.ensures, all, count_by-le-length (λ x. x == 10) c.args.octets.now) }

pub returns : goal.returns
returns c = omega (arith, c.loop-place.invariant.lines, c.count_few_feeds.ensures, feeds_parted c.args.octets.now c.loop-place.place c.loop-place.invariant.within)
