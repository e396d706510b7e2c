use Rattle.std.specs.Option.{option_copied}
use Rattle.rdata_fields.specs.Words.{SpellsAs}
use Rattle.std.proofs.lemmas.Result.{err_from_is_err_and}
use Rattle.rdata_svcb.proofs.Apart.{each_more}
use Rattle.rdata_svcb.proofs.Refusals.{each_refused, once_as, more_extends}
use Rattle.rdata_svcb.proofs.values.append_each.Goals as goal

pub loop-left-preserved : goal.loop-left-preserved
loop-left-preserved g c =
    let split = c.split_first-split in
    each_more (SpellsAs g.W.Word.valid g.W.Word.spells g.W.Word.wire) c.args.text.now c.in-Some.rest.now split.result.before.now (g.B.AsOctets.octets c.args.target.now) (g.B.AsOctets.octets c.loop-left.target)
    (g.B.AsOctets.octets c.append_one.new.target) (option_copied split.result.behind) (rw c.in-Some.is at c.loop-left.invariant) split.ensures.without split.ensures.split c.in_ok-append_one.ensures.ok

pub returns-in_err-append_one-clause-err : goal.returns-in_err-append_one-clause-err
returns-in_err-append_one-clause-err g c =
    let p = err_from_is_err_and c.from_residual.result c.from_residual.ensures.1 in
    let split = c.split_first-split in
    rw (p.1, p.2) (each_refused g.B.OctetsBuilder.room g.W.Word.reason (SpellsAs g.W.Word.valid g.W.Word.spells g.W.Word.wire) c.args.text.now c.in-Some.rest.now split.result.before.now
    (g.B.AsOctets.octets c.args.target.now) (g.B.AsOctets.octets c.loop-left.target) (option_copied split.result.behind) _ (once_as g.W.Word.valid g.W.Word.spells g.W.Word.wire g.met.W.Word.is_kind.once)
    (rw c.in-Some.is at c.loop-left.invariant) split.ensures.without split.ensures.split c.in_err-append_one.ensures.err)

pub returns-in_err-append_one-clause-extends : goal.returns-in_err-append_one-clause-extends
returns-in_err-append_one-clause-extends g c =
    let p = err_from_is_err_and c.from_residual.result c.from_residual.ensures.1 in
    rw p.1 (more_extends _ _ _ _ c.loop-left.invariant.gained c.in_err-append_one.ensures.extends)
