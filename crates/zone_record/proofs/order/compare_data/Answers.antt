use Rattle.std.proofs.Common.{ℕ, List, true≢false, sym, ◌∙◌}
use Rattle.std.specs.Prelude.{Contains}
use Rattle.zone_record.specs.FieldForms.{lowered_types}
use Rattle.zone_record.specs.Names.{octet_order}
use Rattle.rdata.specs.Types.{row_shape}
use Rattle.zone_record.specs.CanonicalData.{canonical_data}
use Rattle.zone_record.proofs.CanonicalForms.{data_kept, data_lowered, untexted_form_is}
use Rattle.zone_record.proofs.PartWalks.{row_starts}
use Rattle.zone_record.proofs.order.compare_data.Goals as goal

pub returns-then-not-lowers_names : goal.returns-then-not-lowers_names
returns-then-not-lowers_names c =
    let no = λ (h : Contains lowered_types c.args.rtype). true≢false (sym (c.lowers_names.ensures.1 h) ∙ c.if-not-lowers_names.true) in
    c.compare_octets.ensures ∙ (λ i. octet_order (data_kept c.args.rtype c.args.left.now no i) (data_kept c.args.rtype c.args.right.now no i))

pub compare_in_fields-requires-clause-left : goal.compare_in_fields-requires-clause-left
compare_in_fields-requires-clause-left c =
    row_starts c.args.rtype c.args.left.now c.in-Some.row.now c.shape.result c.in-Some.ensures (c.shape.ensures.fields, c.shape.ensures.rest, c.shape.ensures.length) c.requires.left

pub compare_in_fields-requires-clause-right : goal.compare_in_fields-requires-clause-right
compare_in_fields-requires-clause-right c =
    row_starts c.args.rtype c.args.right.now c.in-Some.row.now c.shape.result c.in-Some.ensures (c.shape.ensures.fields, c.shape.ensures.rest, c.shape.ensures.length) c.requires.right

pub returns-in-Some : goal.returns-in-Some
returns-in-Some c =
    let row = row_shape c.in-Some.row.now in
    let lowers = c.lowers_names.ensures.0 c.if-not-lowers_names.false in
    let form = λ (octets : List ℕ). data_lowered c.args.rtype octets row c.shape.result.fields.now lowers c.in-Some.ensures c.shape.ensures.fields in
    c.compare_in_fields.ensures ∙ (λ i. octet_order (form c.args.left.now i) (form c.args.right.now i))

pub returns-in-None : goal.returns-in-None
returns-in-None c =
    let rtype = c.args.rtype in
    let left = c.args.left.now in
    let right = c.args.right.now in
    let lowers = c.lowers_names.ensures.0 c.if-not-lowers_names.false in
    c.compare_untexted.ensures (canonical_data rtype left) (canonical_data rtype right) (untexted_form_is rtype left c.requires.left lowers c.in-None.ensures) (untexted_form_is rtype right c.requires.right lowers c.in-None.ensures)
