use Rattle.std.proofs.Common.{◌∙◌, sym, arith}
use Rattle.zone_store.proofs.EntrySearches.{rrset_absent, rrset_found}
use Rattle.zone_store.proofs.StoreSorts.{not_below}
use Rattle.zone_store.proofs.sorted.SortedStore.has_type.Goals as goal

pub returns-then-index-len : goal.returns-then-index-len
returns-then-index-len g c =
    c.is_of_rrset.ensures
    ∙ sym (rrset_found c.args.key.now c.args.class c.args.rtype c.args.self.now c.count_before_type-index.result c.len.ensures.sorted c.count_before_type-index.ensures.point (omega (arith, c.if-index-len.true, c.len.ensures.count)))

pub returns-else-index-len : goal.returns-else-index-len
returns-else-index-len g c =
    not_below c.count_before_type-index.result c.len.result (omega (arith, c.if-index-len.false))
    ∙ sym (rrset_absent c.args.key.now c.args.class c.args.rtype c.args.self.now c.count_before_type-index.result c.len.ensures.sorted c.count_before_type-index.ensures.point (omega (arith, c.if-index-len.false, c.len.ensures.count)))
