use Rattle.std.proofs.Common.{subst, sym, ◌∙◌}
use Rattle.rdata_tokens.specs.NameSpelling.{IsWireName}
use Rattle.dns_wire.specs.Labelled.{wire_same}
use Rattle.zone_contents.proofs.Listings.{valid_at}
use Rattle.zone_contents.proofs.ZoneNames.{owner_wire}
use Rattle.zone_store.specs.Stored.{record_at}
use Rattle.zone_contents.proofs.searches.owner_at.Goals as goal

pub name_of-requires : goal.name_of-requires
name_of-requires g c =
    let apex = c.args.apex.now in
    let key = (record_at c.args.store.now c.args.place).key in
    subst IsWireName (sym (c.as_slice.ensures.value ∙ c.write_owner.ensures))
    (owner_wire apex key (valid_at apex c.args.store.now c.requires.are c.args.place c.requires.place).owner)

pub returns : goal.returns
returns g c =
    wire_same _ _ (sym c.name_of.ensures ∙ c.as_slice.ensures.value ∙ c.write_owner.ensures)
