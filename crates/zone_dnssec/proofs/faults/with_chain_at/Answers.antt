use Rattle.std.proofs.Common.{◌+◌, length, sym, ap, subst, ◌∙◌}
use Rattle.std.specs.Prelude.{IfOk}
use Rattle.std.proofs.lemmas.Result.{IfOk-weaker}
use Rattle.zone_dnssec.specs.ChainFaults.{AddsChain, AreFaultsBefore}
use Rattle.zone_dnssec.specs.ZoneViews.{zone_with}
use Rattle.zone_dnssec.proofs.ChainTests.{no_chain, one_chain}
use Rattle.zone_dnssec.proofs.faults.with_chain_at.Goals as goal

pub returns-then-not-is_chain : goal.returns-then-not-is_chain
returns-then-not-is_chain g c =
    no_chain (zone_with c.args.origin.now (g.Z.ZoneRecords.contents c.args.records.now)) c.args.place c.requires.place c.requires.apex c.record-one.result c.args.others.items c.record-one.ensures
    (sym c.is_chain.ensures ∙ c.if-not-is_chain.true) c.requires.others

pub with_chain-requires : goal.with_chain-requires
with_chain-requires g c = ap length c.as_slice.ensures.value ∙ c.requires.others.size

pub returns : goal.returns
returns g c =
    let zone = zone_with c.args.origin.now (g.Z.ZoneRecords.contents c.args.records.now) in
    IfOk-weaker c.with_chain.result (λ faults. AddsChain zone c.record-one.result c.args.others.items (length c.args.others.items) faults.items) (λ faults. AreFaultsBefore zone (c.args.place + 1) faults.items)
    (λ faults added. one_chain zone c.args.place c.requires.place c.requires.apex c.record-one.result c.args.others.items faults.items c.record-one.ensures (sym c.is_chain.ensures ∙ c.if-not-is_chain.false) c.requires.others added)
    (subst (λ l. IfOk c.with_chain.result (λ faults. AddsChain zone c.record-one.result l (length l) faults.items)) c.as_slice.ensures.value c.with_chain.ensures)
