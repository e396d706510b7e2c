use Rattle.std.proofs.Common.{[], get_or, inr, refl}
use Rattle.zone_contents.specs.declared.zonemd.Zonemd.{Zonemd}
use Rattle.zone_edit.specs.declared.zonemd.ZonemdEdit.{ZonemdEdit}
use Rattle.zone_edit.specs.Tokens.{Continues}
use Rattle.zone_edit.proofs.Applying.{when_err}
use Rattle.zone_edit.proofs.Changes.{enough_after, error_after, ordered_after, spans_after, texts_after}
use Rattle.zone_edit.proofs.Pushing.{continues_both}
use Rattle.zone_edit.proofs.zonemd.push_records.Goals as goal

abbrev no_zonemd : Zonemd
no_zonemd = record { serial = 0; scheme = 0; hash = 0; digest = record { ref_ptr = (0, 0); now = [] } }

abbrev no_edit : ZonemdEdit
no_edit = record { before = no_zonemd; after = no_zonemd; tokens = record { ref_ptr = (0, 0); now = [] } }

pub loop-one-preserved : goal.loop-one-preserved
loop-one-preserved g c =
    let octets = c.args.octets.now in
    let records = c.args.records.now in
    let i = c.loop-one.one-index in
    let r = get_or records i no_edit in
    let first = c.args.edits.now.items in
    let old = c.loop-one.edits.items in
    let new = c.push_record.new.edits.items in
    let lt = c.loop-one-test.true in
    let p = c.in_ok-push_record.ensures.ok in
    record {
      spans = spans_after octets records i r no_edit lt refl first old new p c.loop-one.invariant.spans;
      texts = texts_after octets records i r no_edit lt refl first old new p c.loop-one.invariant.texts;
      continues = continues_both first old new c.loop-one.invariant.continues p.continues;
      ordered = λ h. c.loop-one.invariant.ordered (ordered_after octets records i r no_edit lt refl old new p h);
      enough = λ h. c.loop-one.invariant.enough (enough_after octets records i r no_edit lt refl c.in_ok-push_record.ensures.enough h);
      error = λ e h. c.loop-one.invariant.error e (error_after octets records i r no_edit lt refl e (inr h));
    }

pub returns-in_err-push_record-clause-continues : goal.returns-in_err-push_record-clause-continues
returns-in_err-push_record-clause-continues g c =
    let first = c.args.edits.now.items in
    let old = c.loop-one.edits.items in
    let new = c.push_record.new.edits.items in
    when_err (Continues first new) c.from_residual.result (continues_both first old new c.loop-one.invariant.continues c.in_err-push_record.ensures.continues)
