use Rattle.std.proofs.Common.{[], ◌∷◌, ◌++◌, ap, ◌∙◌, arith, length}
use Rattle.std.specs.Prelude.{◌<◌, ◌+◌}
use Rattle.dns_symbol.specs.Characters.{dot}
use Rattle.zone_generate.specs.NumberTexts.{dotted_nibbles}
use Rattle.zone_generate.proofs.Appends.{extends_on, on_lack, on_ok, short_of, when_err}
use Rattle.zone_generate.proofs.DigitSteps.{dotted_ended, dotted_lacks, dotted_last_lacks, dotted_next}
use Rattle.zone_generate.proofs.number.append_dotted.Goals as goal

pub loop-left-preserved : goal.loop-left-preserved
loop-left-preserved g c =
    let octets = g.B.AsOctets.octets in
    let l = c.loop-left in
    let old = octets c.args.out.now in
    let new = octets c.append_slice.new.self in
    let is = c.in_ok-append_slice.ensures.ok ∙ ap (λ d. octets l.out ++ (d ∷ dot ∷ [])) c.glyph.ensures in
    record {
      some = omega (arith, c.loop-left-test.true);
      made = dotted_next c.args.is_upper l.left l.rest (octets l.out) new (old ++ dotted_nibbles c.args.is_upper c.args.count c.args.number) c.loop-left-test.true is l.invariant.made;
      extends = extends_on old (octets l.out) new _ l.invariant.extends is;
    }

pub returns-in_err-append_slice-clause-fits : goal.returns-in_err-append_slice-clause-fits
returns-in_err-append_slice-clause-fits g c =
    let octets = g.B.AsOctets.octets in
    let l = c.loop-left in
    let old = octets c.args.out.now in
    let text = dotted_nibbles c.args.is_upper c.args.count c.args.number in
    when_err (g.B.OctetsBuilder.room.fits < length old + length text) c.from_residual.result
    (dotted_lacks c.args.is_upper l.left l.rest (octets l.out) g.B.OctetsBuilder.room.fits old text c.loop-left-test.true l.invariant.made (short_of _ _ _ c.in_err-append_slice.ensures.fits))
