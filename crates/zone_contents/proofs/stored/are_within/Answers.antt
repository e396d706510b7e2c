use Rattle.std.proofs.Common.{length, ap, sym, ◌∙◌, ◌-◌, [], ◌∷◌}
use Rattle.std.specs.Ordering.{is_lt}
use Rattle.zone_record.specs.Names.{octet_order}
use Rattle.zone_contents.proofs.WithinZone.{all_within, not_less, some_more}
use Rattle.zone_store.specs.Stored.{record_at}
use Rattle.zone_contents.proofs.stored.are_within.Goals as goal

pub returns-then-is_ge : goal.returns-then-is_ge
returns-then-is_ge g c known =
    all_within c.args.store.now c.len.ensures.sorted (some_more (length c.args.store.now) (λ e. c.if-len-eq0.false (c.len.ensures.count ∙ e)))
    (ap is_lt (sym c.compare_key.ensures) ∙ not_less c.compare_key.result (sym c.is_ge.ensures ∙ c.if-is_ge.true))
    (ap (λ n. is_lt (octet_order (record_at c.args.store.now (n - 1)).key (2 ∷ []))) (sym c.len-then-is_ge.ensures.count) ∙ ap is_lt (sym c.compare_key-then-is_ge.ensures) ∙ sym c.is_lt.ensures ∙ known)
