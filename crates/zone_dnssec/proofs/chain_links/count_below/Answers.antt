use Rattle.std.proofs.Common.{rules}
use Rattle.std.specs.Prelude.{nat_lt}
use Rattle.std.proofs.lemmas.List.Sorted.{IsPartitionedBy-ltb, IsPartitionPoint-from_clause}
use Rattle.zone_dnssec.proofs.chain_links.count_below.Goals as goal

pub returns-clause-point : goal.returns-clause-point
returns-clause-point c =
    IsPartitionPoint-from_clause (λ i. nat_lt i c.args.place) c.args.links.now c.partition_point.result c.partition_point.ensures.partitioned
    (IsPartitionedBy-ltb (λ i. i) c.args.links.now c.args.place c.requires) (λ a r q k. search rules)
