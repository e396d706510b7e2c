use Rattle.std.proofs.Common.{ℕ, ◌<◌, get_or, arith, rules}
use Rattle.std.proofs.lemmas.List.Sorted.{IsPartitionPoint-from_clause}
use Rattle.zone_store.specs.Entries.{is_before_key}
use Rattle.zone_store.specs.Stored.{added_record, absent_parts}
use Rattle.zone_store.proofs.EntrySearches.{before_key, keys_coarser, keys_total, parted, point}
use Rattle.zone_store.proofs.lookups.count_before_key.Goals as goal

pub returns-clause-point : goal.returns-clause-point
returns-clause-point c =
    let octets = c.args.octets.now in
    let key = c.args.key.now in
    let entries = c.args.entries.now in
    let prefix = c.key_prefix-prefix.result in
    let few : (i : ℕ) → get_or key i 0 < 256 = λ i. omega (arith, c.type_inv.key i) in
    let target = added_record key absent_parts in
    let same = before_key octets key few prefix c.key_prefix-prefix.ensures.value entries c.requires.are in
    point keys_total keys_coarser target octets entries (is_before_key octets prefix key) same c.partition_point.result c.partition_point.ensures.bound
    (IsPartitionPoint-from_clause (is_before_key octets prefix key) entries c.partition_point.result c.partition_point.ensures.partitioned
    (parted keys_total keys_coarser target octets entries (is_before_key octets prefix key) same c.requires.sorted) (λ a r f k. search rules))
