use Rattle.std.proofs.Common.{◌∙◌, is_eq, sym, ap}
use Rattle.zone_store.specs.Stored.{record_at}
use Rattle.zone_store.proofs.EntryOrders.{keys_apart, keys_tie}
use Rattle.zone_store.proofs.sorted.SortedStore.has_key.Goals as goal

pub returns-clause-has : goal.returns-clause-has
returns-clause-has g c e = keys_tie (record_at c.args.self.now c.args.index).key c.args.key.now (sym (c.is_eq.ensures ∙ ap is_eq c.compare_key.ensures) ∙ e)

pub returns-clause-lacks : goal.returns-clause-lacks
returns-clause-lacks g c e = keys_apart (record_at c.args.self.now c.args.index).key c.args.key.now (sym (c.is_eq.ensures ∙ ap is_eq c.compare_key.ensures) ∙ e)
