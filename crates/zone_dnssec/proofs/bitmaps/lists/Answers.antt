use Rattle.std.proofs.Common.{rules, tests}
use Rattle.std.specs.Prelude.{◌==◌}
use Rattle.std.proofs.lemmas.Iterator.Consumers.{YieldsList-from_first}
use Rattle.std.proofs.lemmas.Iterator.Search.{any_from_yields_List}
use Rattle.rdata_values.specs.Bitmap.{types_of}
use Rattle.zone_dnssec.proofs.bitmaps.lists.Goals as goal

pub returns : goal.returns
returns c =
    any_from_yields_List (λ t. t == c.args.rtype) _ _ c.any.result c.any.ensures.ran (YieldsList-from_first (λ x. x) (λ left. left) (types_of c.args.bitmap.now) c.new.ensures) (λ x b q k. search (rules, tests))
