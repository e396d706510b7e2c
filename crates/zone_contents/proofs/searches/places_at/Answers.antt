use Rattle.zone_contents.proofs.OwnPlaces.{owned_at}
use Rattle.zone_contents.proofs.searches.places_at.Goals as goal

pub returns : goal.returns
returns g c =
    owned_at c.args.store.now c.args.place c.first_with_key.result c.past_with_key.result c.requires.place c.requires.records.sorted c.first_with_key.ensures c.past_with_key.ensures c.args.apex.now
    c.requires.records.are
