use Rattle.std.proofs.Common.{arith}
use Rattle.dns_lexer.specs.Reader.{home}
use Rattle.dns_lexer.specs.Run.{ContinuesPiece}
use Rattle.dns_lexer.proofs.Skips.{class_more, run_joined}
use Rattle.dns_lexer.proofs.skip.token_end.Goals as goal

pub returns-then-stop-octets-clause-same : goal.returns-then-stop-octets-clause-same
returns-then-stop-octets-clause-same c =
    let e = c.run_end-stop.ensures in
    class_more c.args.within _ c.class_of-class.ensures c.args.octets.now c.args.at c.loop-place.place _ c.loop-place.invariant.same e.on e.within e.each

pub returns-in_default-clause-same : goal.returns-in_default-clause-same
returns-in_default-clause-same c =
    let e = c.run_end-stop.ensures in
    class_more c.args.within _ c.class_of-class.ensures c.args.octets.now c.args.at c.loop-place.place _ c.loop-place.invariant.same e.on e.within e.each

pub loop-place-preserved : goal.loop-place-preserved
loop-place-preserved c =
    let inv = c.loop-place.invariant in
    let e = c.run_end-stop.ensures in
    let here = class_more c.args.within _ c.class_of-class.ensures c.args.octets.now c.args.at c.loop-place.place c.run_end-stop.result inv.same e.on e.within e.each in
    let more : ContinuesPiece c.args.within c.args.octets.now c.run_end-stop.result c.in-Some.next = c.in-Some.ensures in
    record {
      on = omega (arith, inv.on, e.on, more.on);
      within = more.within;
      same = run_joined (home c.args.within) c.args.octets.now c.args.at c.run_end-stop.result c.in-Some.next here more.same;
    }
