use Rattle.std.proofs.Common.{◌∙◌, arith}
use Rattle.zone_store.proofs.EntryOrders.{indexed_key}
use Rattle.zone_store.proofs.entries.compare_key_by_index.Goals as goal

pub returns : goal.returns
returns c =
    c.compare_prefixed.ensures
    ∙ indexed_key c.args.octets.now c.args.entries.now c.requires.stored c.args.index c.key_prefix.result _ c.args.key.now c.requires.index (λ i. omega (arith, c.type_inv.key i)) c.key_prefix.ensures.value
