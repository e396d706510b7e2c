use Rattle.std.proofs.Common.{sym, ◌∙◌, arith}
use Rattle.rdata.proofs.ItemLaws.{none_is, search_begins, search_on, size_within}
use Rattle.rdata.proofs.prefixes.has_other_family.Goals as goal

pub loop-left-init : goal.loop-left-init
loop-left-init c = search_begins c.args.octets.now c.requires

pub after_item-left-requires-clause-whole : goal.after_item-left-requires-clause-whole
after_item-left-requires-clause-whole c = size_within c.loop-left.left.now (omega (arith, c.loop-left-test.true)) c.loop-left.invariant.2

pub loop-left-preserved : goal.loop-left-preserved
loop-left-preserved c =
    search_on c.args.octets.now c.loop-left.left.now (omega (arith, c.loop-left-test.true)) c.loop-left.invariant _ (sym c.is_other_family.ensures ∙ c.if-is_other_family.false) c.after_item-left.ensures.rest

pub returns : goal.returns
returns c = none_is c.args.octets.now c.loop-left.left.now (omega (arith, c.loop-left-test.false)) c.loop-left.invariant
