use Rattle.std.proofs.Common.{◌∙◌}
use Rattle.zone_store.proofs.EntryOrders.{indexed_keys}
use Rattle.zone_store.proofs.entries.compare_keys_by_index.Goals as goal

pub returns : goal.returns
returns c = c.compare_keys.ensures ∙ indexed_keys c.args.octets.now c.args.entries.now c.requires.stored c.args.left c.args.right _ _ c.requires.left c.requires.right
