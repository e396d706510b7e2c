use Rattle.std.proofs.Common.{false, refl, ◌∙◌}
use Rattle.std.specs.Prelude.{slice_get}
use Rattle.zone_dnssec.specs.HashedLinks.{is_hash_of}
use Rattle.zone_dnssec.proofs.OwnedRecords.{of_listed}
use Rattle.zone_dnssec.proofs.hashed.is_hash_at.Goals as goal

pub returns : goal.returns
returns g c =
    c.is_hash_of.ensures
    ∙ of_listed (is_hash_of c.args.origin.now c.args.hash.now) (is_hash_of c.args.origin.now c.args.hash.now) (λ r. refl) (slice_get (g.Z.ZoneRecords.contents c.args.records.now) c.args.place) c.record-one.result false c.record-one.ensures
