use Rattle.std.proofs.Common.{ap, arith, sym}
use Rattle.std.proofs.lemmas.Option.{slice_get_past}
use Rattle.zone_contents.specs.Contents.{listing}
use Rattle.zone_contents.proofs.Listings.{listed_length}
use Rattle.zone_contents.specs.Searches.{shared_by}
use Rattle.zone_contents.proofs.searches.shared_from.Goals as goal

pub returns-then-place-len : goal.returns-then-place-len
returns-then-place-len g c =
    ap (shared_by c.args.name.now)
    (sym (slice_get_past (listing c.args.apex.now c.args.store.now) c.args.place (omega (arith, listed_length c.args.apex.now c.args.store.now, c.if-place-len.true, c.len.ensures.count))))
