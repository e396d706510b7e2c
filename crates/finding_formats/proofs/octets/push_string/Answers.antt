use Rattle.std.proofs.Common.{arith}
use Rattle.finding_formats.specs.Octets.{json_octet}
use Rattle.finding_formats.proofs.PlainRuns.{octet_written, run_written}
use Rattle.finding_formats.proofs.octets.push_string.Goals as goal

pub loop-place-preserved-then-place-octets : goal.loop-place-preserved-then-place-octets
loop-place-preserved-then-place-octets g c =
    let e = c.plain_end-end.ensures in
    let f = json_octet in
    let xs = c.args.octets.now in
    let old = c.args.out.now.items in
    let run = run_written f xs old c.loop-place.out.items _ c.loop-place.place c.plain_end-end.result e.on e.within e.plain c.loop-place.invariant.out c.in_ok-extend_from_slice.ensures.items in
    record {
      within = omega (arith, c.if-place-octets.true);
      out = octet_written f xs old _ _ c.plain_end-end.result (omega (arith, c.if-place-octets.true)) run c.in_ok-push_octet.ensures;
    }

pub loop-place-preserved : goal.loop-place-preserved
loop-place-preserved g c =
    let e = c.plain_end-end.ensures in
    record {
      within = e.within;
      out = run_written json_octet c.args.octets.now c.args.out.now.items c.loop-place.out.items _ c.loop-place.place c.plain_end-end.result e.on e.within e.plain c.loop-place.invariant.out c.in_ok-extend_from_slice.ensures.items;
    }
