use Rattle.std.proofs.Common.{ap, subst, sym, ◌∙◌}
use Rattle.dns_wire.specs.Wire.{wire}
use Rattle.zone_contents.specs.Keys.{name_in_zone, IsNameKey}
use Rattle.zone_contents.proofs.Listings.{valid_at}
use Rattle.zone_contents.proofs.ZoneNames.{key_short}
use Rattle.zone_store.specs.Stored.{record_at}
use Rattle.zone_contents.proofs.searches.write_joined_owner.Goals as goal

pub write_key-requires-clause-short : goal.write_key-requires-clause-short
write_key-requires-clause-short g c =
    let apex = c.args.apex.now in
    let key = (record_at c.args.store.now c.args.place).key in
    key_short apex key (valid_at apex c.args.store.now c.requires.are c.args.place c.requires.place).owner

pub write_name-requires : goal.write_name-requires
write_name-requires g c =
    subst (IsNameKey c.args.apex.now) (sym (c.as_slice.ensures.value ∙ c.write_key.ensures)) (valid_at c.args.apex.now c.args.store.now c.requires.are c.args.place c.requires.place).owner

pub returns : goal.returns
returns g c =
    c.write_name.ensures ∙ ap (λ k. wire (name_in_zone c.args.apex.now k)) (c.as_slice.ensures.value ∙ c.write_key.ensures)
