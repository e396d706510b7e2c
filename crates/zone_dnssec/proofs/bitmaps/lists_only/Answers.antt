use Rattle.std.proofs.Common.{rules, tests}
use Rattle.std.proofs.lemmas.Iterator.Consumers.{YieldsList-from_first}
use Rattle.std.proofs.lemmas.Iterator.Search.{all_from_yields_List}
use Rattle.rdata_values.specs.Bitmap.{types_of}
use Rattle.zone_dnssec.specs.NsecTypes.{has_listed_type}
use Rattle.zone_dnssec.proofs.bitmaps.lists_only.Goals as goal

pub returns : goal.returns
returns g c =
    all_from_yields_List (has_listed_type c.args.is_cut (g.Z.ZoneRecords.contents c.args.records.now) c.args.name.now) _ _ c.all.result c.all.ensures.ran
    (YieldsList-from_first (λ x. x) (λ left. left) (types_of c.args.bitmap.now) c.new.ensures) (λ x b q k. search (rules, tests))
