use Rattle.std.proofs.Common.{◌∙◌, is_eq, sym, ap}
use Rattle.zone_store.specs.Stored.{record_at}
use Rattle.zone_store.proofs.EntryOrders.{keys_apart, keys_tie}
use Rattle.zone_store.proofs.sorted.SortedStore.have_one_key.Goals as goal

pub returns-clause-have : goal.returns-clause-have
returns-clause-have g c e = keys_tie (record_at c.args.self.now c.args.left).key (record_at c.args.self.now c.args.right).key (sym (c.is_eq.ensures ∙ ap is_eq c.compare_keys.ensures) ∙ e)

pub returns-clause-lack : goal.returns-clause-lack
returns-clause-lack g c e = keys_apart (record_at c.args.self.now c.args.left).key (record_at c.args.self.now c.args.right).key (sym (c.is_eq.ensures ∙ ap is_eq c.compare_keys.ensures) ∙ e)
