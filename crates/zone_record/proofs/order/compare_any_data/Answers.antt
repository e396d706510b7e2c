use Rattle.std.proofs.Common.{ℕ, List, true≢false, sym, ap, ◌∙◌}
use Rattle.std.specs.Prelude.{Contains}
use Rattle.zone_record.specs.FieldForms.{lowered_types}
use Rattle.zone_record.specs.Names.{octet_order}
use Rattle.rdata.specs.Types.{row_shape}
use Rattle.zone_record.specs.CanonicalData.{canonical_data}
use Rattle.zone_record.proofs.AnyOrders.{any_kept, any_shaped, any_untexted, any_valid, untexted_any}
use Rattle.zone_record.proofs.CanonicalForms.{data_kept}
use Rattle.zone_record.proofs.PartWalks.{row_starts}
use Rattle.zone_record.proofs.order.compare_any_data.Goals as goal

pub returns-then-not-lowers_names-clause-value : goal.returns-then-not-lowers_names-clause-value
returns-then-not-lowers_names-clause-value c =
    let no = λ (h : Contains lowered_types c.args.rtype). true≢false (sym (c.lowers_names.ensures.1 h) ∙ c.if-not-lowers_names.true) in
    c.compare_octets.ensures ∙ any_kept c.args.rtype c.args.left.now c.args.right.now no

pub returns-then-not-lowers_names-clause-valid : goal.returns-then-not-lowers_names-clause-valid
returns-then-not-lowers_names-clause-valid c =
    let no = λ (h : Contains lowered_types c.args.rtype). true≢false (sym (c.lowers_names.ensures.1 h) ∙ c.if-not-lowers_names.true) in
    λ p q. c.compare_octets.ensures ∙ (λ i. octet_order (data_kept c.args.rtype c.args.left.now no i) (data_kept c.args.rtype c.args.right.now no i))

pub returns-in-Some-clause-value : goal.returns-in-Some-clause-value
returns-in-Some-clause-value c =
    c.compare_parts.ensures ∙ any_shaped c.args.rtype c.args.left.now c.args.right.now (row_shape c.in-Some.row.now) c.shape.result.fields.now (c.lowers_names.ensures.0 c.if-not-lowers_names.false) c.in-Some.ensures c.shape.ensures.fields

pub returns-in-Some-clause-valid : goal.returns-in-Some-clause-valid
returns-in-Some-clause-valid c = λ p q.
    c.compare_parts.ensures
    ∙ any_valid c.args.rtype c.args.left.now c.args.right.now (row_shape c.in-Some.row.now) c.shape.result.fields.now (c.lowers_names.ensures.0 c.if-not-lowers_names.false) c.in-Some.ensures c.shape.ensures.fields
    (row_starts c.args.rtype c.args.left.now c.in-Some.row.now c.shape.result c.in-Some.ensures (c.shape.ensures.fields, c.shape.ensures.rest, c.shape.ensures.length) p)
    (row_starts c.args.rtype c.args.right.now c.in-Some.row.now c.shape.result c.in-Some.ensures (c.shape.ensures.fields, c.shape.ensures.rest, c.shape.ensures.length) q)

pub returns-in-None-clause-value : goal.returns-in-None-clause-value
returns-in-None-clause-value c =
    let rtype = c.args.rtype in
    let left = c.args.left.now in
    let right = c.args.right.now in
    let lowers = c.lowers_names.ensures.0 c.if-not-lowers_names.false in
    c.compare_untexted.ensures (canonical_data rtype left) (canonical_data rtype right) (untexted_any rtype left lowers c.in-None.ensures) (untexted_any rtype right lowers c.in-None.ensures)
    ∙ any_untexted rtype left right lowers c.in-None.ensures

pub returns-in-None-clause-valid : goal.returns-in-None-clause-valid
returns-in-None-clause-valid c = λ p q.
    let rtype = c.args.rtype in
    let left = c.args.left.now in
    let right = c.args.right.now in
    let lowers = c.lowers_names.ensures.0 c.if-not-lowers_names.false in
    c.compare_untexted.ensures (canonical_data rtype left) (canonical_data rtype right) (untexted_any rtype left lowers c.in-None.ensures) (untexted_any rtype right lowers c.in-None.ensures)
