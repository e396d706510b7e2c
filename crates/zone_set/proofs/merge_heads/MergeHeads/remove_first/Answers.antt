use Rattle.std.proofs.lemmas.Option.{IfSome_then}
use Rattle.std.specs.BinaryHeap.{heap_items}
use Rattle.zone_set.proofs.FirstFronts.{all_before}
use Rattle.zone_set.proofs.merge_heads.MergeHeads.remove_first.Goals as goal

pub returns-clause-first : goal.returns-clause-first
returns-clause-first g c = IfSome_then c.pop.result c.pop.ensures.below_top (λ f below. all_before f (heap_items c.pop.new.self) (below c.self.invariant))
