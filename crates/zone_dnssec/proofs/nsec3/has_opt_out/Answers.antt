use Rattle.std.proofs.Common.{ap, ◌∙◌, rules, tests}
use Rattle.std.specs.Prelude.{◌%◌, ◌==◌}
use Rattle.std.specs.List.{list_any}
use Rattle.std.proofs.lemmas.Iterator.{YieldsList-from_slice}
use Rattle.std.proofs.lemmas.Iterator.Search.{any_from_yields_List}
use Rattle.zone_dnssec.proofs.nsec3.has_opt_out.Goals as goal

pub returns : goal.returns
returns c =
    any_from_yields_List (λ f. f % 2 == 1) _ _ c.any.result c.any.ensures.ran (YieldsList-from_slice c.field.result.now cc) (λ x b q k. search (rules, tests))
    ∙ ap (list_any (λ f. f % 2 == 1)) c.field.ensures
