use Rattle.std.proofs.Common.{length, ◌<◌, arith, subst}
use Rattle.std.specs.Prelude.{All}
use Rattle.std.proofs.lemmas.List.{take_all}
use Rattle.std.proofs.lemmas.List.Elements.{All-more}
use Rattle.custom_record.specs.Several.{IsString}
use Rattle.custom_record.proofs.several.known_each.Goals as goal

pub loop-string-preserved : goal.loop-string-preserved
loop-string-preserved g c =
    let h : c.loop-string.string-index < length c.args.strings.now = omega arith in
    All-more IsString c.args.strings.now c.loop-string.string-index c.string-item.result h c.loop-string.invariant
    (subst IsString c.string-item.is (c.as_slice-octets.ensures.bytes, c.as_slice-octets.ensures.short))

pub returns : goal.returns
returns g c = subst (λ l. All IsString l) (take_all c.loop-string.string-index c.args.strings.now c.loop-string-test.false) c.loop-string.invariant
