use Rattle.std.proofs.Common.{sym, ◌∙◌}
use Rattle.std.specs.declared.cmp.Ordering.TheVariants.{Equal}
use Rattle.std.proofs.lemmas.Cmp.{ranked}
use Rattle.zone_record.proofs.data.Data.compare.Goals as goal

pub compare_data-requires-clause-left : goal.compare_data-requires-clause-left
compare_data-requires-clause-left g c = rw (c.as_slice.ensures.value, c.rtype-in-Equal.ensures) c.as_slice.ensures.is_data

pub compare_data-requires-clause-right : goal.compare_data-requires-clause-right
compare_data-requires-clause-right g c =
    let same = sym c.rtype.ensures ∙ sym c.cmp.view_is ∙ ranked c.cmp.inside.0 c.cmp-2.inside.0 Equal (sym c.in-Equal.is ∙ c.cmp-3.ensures) ∙ c.cmp-2.view_is ∙ c.rtype-2.ensures in
    rw (c.as_slice-in-Equal.ensures.value, c.rtype-in-Equal.ensures, same) c.as_slice-in-Equal.ensures.is_data
