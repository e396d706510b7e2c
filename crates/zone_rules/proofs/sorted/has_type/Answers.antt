use Rattle.std.proofs.Common.{◌≡◌, sym, ap, subst, ◌∙◌, rules, tests}
use Rattle.std.specs.Prelude.{◌==◌}
use Rattle.std.specs.List.{list_any}
use Rattle.std.proofs.lemmas.Iterator.{YieldsList-from_slice}
use Rattle.std.proofs.lemmas.Iterator.Search.{any_from_yields_List}
use Rattle.dns_wire.specs.Order.{same_name}
use Rattle.zone_rules.specs.Zones.{AreInOrder, is_one_class, type_of}
use Rattle.zone_rules.proofs.Lookups.{any_in_filter}
use Rattle.zone_rules.proofs.Within.{record_sets}
use Rattle.zone_rules.proofs.sorted.has_type.Goals as goal

pub finds-requires : goal.finds-requires
finds-requires g c =
    record_sets c.as_slice.result.now (subst AreInOrder (sym c.as_slice.ensures.value) c.as_slice.ensures.in_order) (ap is_one_class c.as_slice.ensures.value ∙ sym c.is_one_class.ensures ∙ c.if-is_one_class.true)

pub returns : goal.returns
returns g c =
    let found : c.any.result ≡ list_any (λ r. type_of r == c.args.rtype) c.owned_by.result.now =
    any_from_yields_List (λ r. type_of r == c.args.rtype) _ _ c.any.result c.any.ensures.ran (YieldsList-from_slice c.owned_by.result.now cc) (λ x b q k. search (rules, tests)) in
    found ∙ ap (list_any (λ r. type_of r == c.args.rtype)) c.owned_by.ensures
    ∙ any_in_filter (λ r. same_name r.owner c.args.name.now) (λ r. type_of r == c.args.rtype) c.args.records.now
