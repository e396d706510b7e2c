use Rattle.std.proofs.Common.{refl}
use Rattle.dns_wire.specs.Label.{label_octets}
use Rattle.dns_wire.proofs.Splitting.{passed_more, not_root, none_at_root, root_and_more}
use Rattle.dns_wire.proofs.split.rest_of.Goals as goal

pub returns-else-is_empty : goal.returns-else-is_empty
returns-else-is_empty c =
    let root = c.if-is_root.ensures.0 refl in (
      c.loop-rest.invariant.labels,
      c.loop-rest.rest.now,
      record {
        spelled = c.loop-rest.invariant.spelled;
        plain = c.loop-rest.invariant.plain;
        ends = none_at_root c.loop-rest.rest.now (label_octets c.in-Ok.label) c.in-Ok.after.now c.in-Ok.ensures root;
      },
      root_and_more c.loop-rest.rest.now (label_octets c.in-Ok.label) c.in-Ok.after.now c.in-Ok.ensures root c.if-is_empty.ensures,
    )

pub loop-rest-preserved : goal.loop-rest-preserved
loop-rest-preserved c =
    passed_more c.args.octets.now c.loop-rest.rest.now (label_octets c.in-Ok.label) c.in-Ok.after.now c.loop-rest.invariant c.in-Ok.ensures
    (not_root (label_octets c.in-Ok.label) c.if-is_root.ensures.1) c.in-Ok.label.short
