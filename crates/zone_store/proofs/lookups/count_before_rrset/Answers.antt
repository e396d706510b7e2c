use Rattle.std.proofs.Common.{ℕ, ◌<◌, get_or, arith, rules}
use Rattle.std.proofs.lemmas.List.Sorted.{IsPartitionPoint-from_clause}
use Rattle.zone_store.specs.Entries.{is_before_rrset}
use Rattle.zone_store.proofs.EntryOrders.{rrsets_total}
use Rattle.zone_store.proofs.EntrySearches.{before_rrset, parted, point, rrset, rrsets_coarser}
use Rattle.zone_store.proofs.lookups.count_before_rrset.Goals as goal

pub returns-clause-point : goal.returns-clause-point
returns-clause-point c =
    let octets = c.args.octets.now in
    let key = c.args.key.now in
    let class = c.args.class in
    let code = c.args.rtype in
    let entries = c.args.entries.now in
    let prefix = c.key_prefix-prefix.result in
    let few : (i : ℕ) → get_or key i 0 < 256 = λ i. omega (arith, c.type_inv.key i) in
    let target = rrset key class code in
    let same = before_rrset octets key few prefix c.key_prefix-prefix.ensures.value entries c.requires.are class code in
    point rrsets_total rrsets_coarser target octets entries (is_before_rrset octets prefix key class code) same c.partition_point.result c.partition_point.ensures.bound
    (IsPartitionPoint-from_clause (is_before_rrset octets prefix key class code) entries c.partition_point.result c.partition_point.ensures.partitioned
    (parted rrsets_total rrsets_coarser target octets entries (is_before_rrset octets prefix key class code) same c.requires.sorted) (λ a r f k. search rules))
