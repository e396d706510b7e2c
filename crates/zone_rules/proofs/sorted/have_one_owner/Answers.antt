use Rattle.std.proofs.Common.{ap, false, Some, sym, ◌∙◌}
use Rattle.std.specs.Option.{option_map_or}
use Rattle.std.proofs.lemmas.Option.{slice_get-get_or}
use Rattle.dns_wire.specs.Order.{same_name}
use Rattle.zone_rules.proofs.sorted.have_one_owner.Goals as goal

pub returns : goal.returns
returns g c =
    let records = c.args.records.now in
    let a = c.index-records-left.result in
    let b = c.index-records-right.result in
    let is_left = slice_get-get_or records c.args.left a c.requires.left ∙ ap Some (sym c.index-records-left.is) in
    let is_right = slice_get-get_or records c.args.right b c.requires.right ∙ ap Some (sym c.index-records-right.is) in
    c.have_one_owner.ensures ∙ sym (λ i. option_map_or (λ x. option_map_or (λ y. same_name x.owner y.owner) (is_right i) false) (is_left i) false)
