use Rattle.finding_counts.proofs.KeyMaps.{found_next}
use Rattle.finding_counts.proofs.key_counts.Baseline.leave_out.Goals as goal

pub returns-then-is_known-clause-next : goal.returns-then-is_known-clause-next
returns-then-is_known-clause-next c = λ numbers found h. found_next numbers found c.args.key.now c.args.self.now _ h c.remove_one-is_known.ensures.rest

pub returns-else-is_known-clause-next : goal.returns-else-is_known-clause-next
returns-else-is_known-clause-next c = λ numbers found h. found_next numbers found c.args.key.now c.args.self.now _ h c.remove_one-is_known.ensures.rest
