use Rattle.std.proofs.Common.{refl, sym}
use Rattle.rdata_svcb.proofs.Marks.{any_lacks, before_lacks, split_lacks, ended_lacks, cuts_at}
use Rattle.rdata_svcb.proofs.template.split_first.Goals as goal

pub returns-then-octet-mark-clause-before : goal.returns-then-octet-mark-clause-before
returns-then-octet-mark-clause-before c =
    (cuts_at c.args.mark c.args.text.now c.loop-index.index _ c.loop-index.invariant c.loop-index-test.true c.if-octet-mark.true refl).before_is

pub returns-then-octet-mark-clause-split : goal.returns-then-octet-mark-clause-split
returns-then-octet-mark-clause-split c =
    (cuts_at c.args.mark c.args.text.now c.loop-index.index _ c.loop-index.invariant c.loop-index-test.true c.if-octet-mark.true refl).parts

pub returns-clause-before : goal.returns-clause-before
returns-clause-before c = sym (before_lacks c.args.mark c.args.text.now (ended_lacks _ _ _ c.loop-index-test.false c.loop-index.invariant))

pub returns-clause-found : goal.returns-clause-found
returns-clause-found c = sym (any_lacks c.args.mark c.args.text.now (ended_lacks _ _ _ c.loop-index-test.false c.loop-index.invariant))

pub returns-clause-split : goal.returns-clause-split
returns-clause-split c = split_lacks c.args.mark c.args.text.now (ended_lacks _ _ _ c.loop-index-test.false c.loop-index.invariant)
