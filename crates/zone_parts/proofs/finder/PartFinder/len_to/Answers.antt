use Rattle.std.proofs.Common.{sym, subst}
use Rattle.zone_parts.specs.PartSpans.{EndsPart}
use Rattle.zone_parts.proofs.Follows.{part_ends}
use Rattle.zone_parts.proofs.finder.PartFinder.len_to.Goals as goal

pub returns : goal.returns
returns c = subst (λ n. EndsPart c.args.self.now.began n c.args.at) (sym c.saturating_sub.ensures) (part_ends c.args.self.now.began c.args.at)
