use Rattle.std.proofs.Common.{ℕ, ◌≡◌, ◌<◌, true, get_or, arith, ap, sym, ◌∙◌}
use Rattle.std.proofs.lemmas.List.{get_or_default}
use Rattle.std.proofs.lemmas.List.Elements.{AllWithin-more}
use Rattle.zone_store.specs.Entries.{is_before_key}
use Rattle.zone_store.specs.Stored.{added_record, absent_parts}
use Rattle.zone_store.proofs.EntrySearches.{before_key, keys_coarser, keys_total, point, turn}
use Rattle.zone_store.proofs.lookups.count_near.Goals as goal

pub loop-index-preserved : goal.loop-index-preserved
loop-index-preserved c =
    let octets = c.args.octets.now in
    let key = c.args.key.now in
    let entries = c.args.entries.now in
    let prefix = c.key_prefix-prefix.result in
    let index = c.loop-index.index in
    AllWithin-more (λ e. is_before_key octets prefix key e ≡ true) entries c.args.place index c.loop-index.invariant
    (λ d. ap (is_before_key octets prefix key) (get_or_default entries index d _ (omega arith)) ∙ sym c.is_before_key-in-loop-index.ensures ∙ c.if-not-is_before_key.false)

pub returns-then-index-place-clause-is : goal.returns-then-index-place-clause-is
returns-then-index-place-clause-is c =
    let octets = c.args.octets.now in
    let key = c.args.key.now in
    let entries = c.args.entries.now in
    let prefix = c.key_prefix-prefix.result in
    let index = c.loop-index.index in
    let few : (i : ℕ) → get_or key i 0 < 256 = λ i. omega (arith, c.type_inv.key i) in
    let target = added_record key absent_parts in
    let same = before_key octets key few prefix c.key_prefix-prefix.ensures.value entries c.requires.are in
    let test = is_before_key octets prefix key in
    point keys_total keys_coarser target octets entries test same index (omega arith)
    (turn keys_total keys_coarser target octets entries test same c.requires.sorted c.args.place index (omega arith) (omega arith) c.loop-index.invariant
    (λ d. ap test (get_or_default entries index d _ (omega arith)) ∙ sym c.is_before_key-in-loop-index.ensures ∙ c.if-not-is_before_key.true))
