use Rattle.std.proofs.Common.{◌++◌, length}
use Rattle.std.specs.Prelude.{◌<◌, ◌+◌, replicate}
use Rattle.zone_generate.proofs.Appends.{extends_none, extends_on, short_of, when_err}
use Rattle.zone_generate.proofs.DigitSteps.{zeros_lack, zeros_more}
use Rattle.zone_generate.proofs.number.append_zeros.Goals as goal

pub loop-left-preserved : goal.loop-left-preserved
loop-left-preserved g c =
    let octets = g.B.AsOctets.octets in
    let l = c.loop-left in
    let old = octets c.args.out.now in
    let new = octets c.append_slice.new.self in
    record {
      made = zeros_more l.left (octets l.out) new (old ++ replicate c.args.count 48) c.loop-left-test.true c.in_ok-append_slice.ensures.ok l.invariant.made;
      extends = extends_on old (octets l.out) new _ l.invariant.extends c.in_ok-append_slice.ensures.ok;
    }

pub returns-in_err-append_slice-clause-fits : goal.returns-in_err-append_slice-clause-fits
returns-in_err-append_slice-clause-fits g c =
    let octets = g.B.AsOctets.octets in
    let l = c.loop-left in
    let old = octets c.args.out.now in
    when_err (g.B.OctetsBuilder.room.fits < length old + c.args.count) c.from_residual.result
    (zeros_lack g.B.OctetsBuilder.room.fits l.left c.args.count old (octets l.out) c.loop-left-test.true l.invariant.made (short_of _ _ _ c.in_err-append_slice.ensures.fits))
