use Rattle.std.proofs.Common.{length, ap, sym, ◌∙◌, arith}
use Rattle.dns_name.specs.Uncertain.{is_name_of, labels_of}
use Rattle.c_calls.proofs.LastLabels.{all_left, ends_compared, one_left}
use Rattle.c_calls.proofs.name_forms.ends_with.Goals as goal

pub labels-init : goal.labels-init
labels-init c = all_left (labels_of c.args.name.now) (labels_of c.args.zone.now) c.iter_labels-rest.result (is_name_of c.args.name.now c.iter_labels-rest.ensures.holds) c.iter_labels-rest.ensures.value

pub labels-preserved : goal.labels-preserved
labels-preserved c =
    one_left (labels_of c.args.name.now) (labels_of c.args.zone.now) c.labels.rest c.next.new.self c.next.result c.as_slice.result.now c.as_slice-last.result.now (is_name_of c.args.zone.now c.as_slice-last.ensures.holds)
    c.labels.invariant c.next.ensures.steps c.if-is_none.ensures c.as_slice.ensures c.as_slice-last.ensures.value (omega (arith, c.labels-test.true))

pub returns : goal.returns
returns c =
    ends_compared (labels_of c.args.name.now) (labels_of c.args.zone.now) c.labels.rest c.as_slice-2.result.now c.as_slice-last.result.now c.same_octets.result (is_name_of c.args.zone.now c.as_slice-last.ensures.holds)
    c.labels.invariant c.as_slice-2.ensures c.as_slice-last.ensures.value (omega (arith, c.labels-test.false, ap length (c.as_slice-2.ensures ∙ sym c.as_slice.ensures))) c.same_octets.ensures
