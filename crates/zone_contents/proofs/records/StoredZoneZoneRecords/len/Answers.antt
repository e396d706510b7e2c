use Rattle.std.proofs.Common.{length, ap, sym, ◌∙◌}
use Rattle.zone_contents.specs.Contents.{contents}
use Rattle.zone_contents.proofs.Listings.{listed_length}
use Rattle.zone_contents.proofs.records.StoredZoneZoneRecords.len.Goals as goal

pub returns : goal.returns
returns g c = c.len.ensures.count ∙ sym (listed_length c.self.inside.apex c.self.inside.store) ∙ ap (λ z. length (contents z)) c.self.view_is
