use Rattle.std.proofs.Common.{is_lt, sym, ap, ◌∙◌, ◌+◌, get_or, arith}
use Rattle.std.specs.Ordering.{nat_cmp, ordering_then}
use Rattle.std.proofs.lemmas.List.Elements.{All-get_or}
use Rattle.std.proofs.lemmas.List.Sorted.{All-permutation}
use Rattle.zone_store.specs.Entries.{IsStoreEntry, record_offset}
use Rattle.zone_store.proofs.EntryOrders.{prefixed_is}
use Rattle.zone_store.proofs.entries.sort_entries.Goals as goal

pub returns-clause-sorted : goal.returns-clause-sorted
returns-clause-sorted g c = λ k d low high.
    let octets = c.args.octets.now in
    let old = c.args.entries.now.items in
    let new = c.sort_prefixed.new.entries.items in
    let all = All-permutation (IsStoreEntry octets) old new c.sort_prefixed.ensures.permutation c.requires in
    let at = All-get_or (IsStoreEntry octets) new (k + 1) d high all in
    let before = All-get_or (IsStoreEntry octets) new k d (omega (arith, high)) all in
    ap (λ o. is_lt (ordering_then o (nat_cmp (record_offset (get_or new (k + 1) d)) (record_offset (get_or new k d))))) (sym (prefixed_is octets (get_or new (k + 1) d) (get_or new k d) at before))
    ∙ c.sort_prefixed.ensures.sorted k d low high
