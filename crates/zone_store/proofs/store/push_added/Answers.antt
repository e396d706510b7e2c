use Rattle.std.proofs.Common.{ℕ, List, ◌++◌, ◌∷◌, [], sym, subst}
use Rattle.std.proofs.lemmas.Result.{on_ok_weaker}
use Rattle.zone_store.specs.Entries.{IsEntryOf}
use Rattle.zone_store.specs.Parts.{record_parts}
use Rattle.zone_store.specs.Stored.{added_record}
use Rattle.zone_store.specs.Stores.{StoresMore}
use Rattle.zone_store.specs.declared.entries.Entry.{Entry}
use Rattle.zone_store.proofs.EntriesRead.{stored_more}
use Rattle.zone_store.proofs.store.push_added.Goals as goal

pub returns-clause-ok : goal.returns-clause-ok
returns-clause-ok g c =
    let octets = c.args.octets.now.items in
    let entries = c.args.entries.now.items in
    let e = c.in_ok-entry.entry in
    let r = added_record c.args.key.now (record_parts c.args.added.now) in
    let more = c.push_octets.ensures.more in
    let all = stored_more octets more.0 entries e r c.requires.stored (subst (λ (os : List ℕ). IsEntryOf os e r) more.1 c.in_ok-entry.ensures.ok) c.in_ok-entry.ensures.last in
    let stores = subst (λ (os : List ℕ). StoresMore octets entries os (entries ++ e ∷ []) r) (sym more.1) all in
    on_ok_weaker c.push_entry.result (λ is. subst (λ (es : List Entry). StoresMore octets entries c.push_octets.new.octets.items es r) (sym is) stores) c.push_entry.ensures.ok
