use Rattle.std.proofs.Common.{◌≡◌, length, sym, ap, subst, ◌∙◌}
use Rattle.std.proofs.lemmas.Result.{IfOk-weaker}
use Rattle.zone_dnssec.specs.ChainFaults.{late_faults, link_faults, AddsChain, AddsFaults}
use Rattle.zone_dnssec.specs.UnmatchedLinks.{HaveMarks}
use Rattle.zone_dnssec.specs.ZoneViews.{zone_with}
use Rattle.zone_dnssec.proofs.ChainTests.{parts_added}
use Rattle.zone_dnssec.proofs.Marks.{taken_whole, unset_marks}
use Rattle.zone_dnssec.proofs.faults.with_chain.Goals as goal

pub with_links-requires-clause-marks : goal.with_links-requires-clause-marks
with_links-requires-clause-marks g c =
    unset_marks (zone_with c.args.origin.now (g.Z.ZoneRecords.contents c.args.records.now)) c.args.chain.now c.as_mut_slice.result.now (length c.args.others.now) (c.as_mut_slice.ensures.value ∙ c.in_ok-marks.ensures) c.requires

pub with_late-requires-clause-marks : goal.with_late-requires-clause-marks
with_late-requires-clause-marks g c =
    let records = g.Z.ZoneRecords.contents c.args.records.now in
    let zone = zone_with c.args.origin.now records in
    let chain = c.args.chain.now in
    let first = unset_marks zone chain c.as_mut_slice.result.now (length c.args.others.now) (c.as_mut_slice.ensures.value ∙ c.in_ok-marks.ensures) c.requires in
    let size : c.in_ok-marks.marks.len ≡ length c.with_links.new.marks = sym c.as_mut_slice.ensures.len ∙ first.size ∙ sym c.in_ok-faults.ensures.marks.size in
    subst (HaveMarks zone chain records) (sym (c.as_slice.ensures.value ∙ taken_whole c.in_ok-marks.marks.len c.with_links.new.marks _ size)) c.in_ok-faults.ensures.marks

pub with_late-requires-clause-others : goal.with_late-requires-clause-others
with_late-requires-clause-others g c = ap length c.as_slice-2.ensures.value ∙ c.in_ok-faults.ensures.faults.size ∙ c.requires

pub returns : goal.returns
returns g c =
    let zone = zone_with c.args.origin.now (g.Z.ZoneRecords.contents c.args.records.now) in
    let chain = c.args.chain.now in
    let others = c.args.others.now in
    let mid = c.as_slice-2.result.now in
    let same : length mid ≡ length others = ap length c.as_slice-2.ensures.value ∙ c.in_ok-faults.ensures.faults.size in
    IfOk-weaker c.with_late.result (λ faults. AddsFaults (late_faults zone chain) mid (length mid) faults.items) (λ faults. AddsChain zone chain others (length others) faults.items)
    (λ faults added. parts_added zone chain others mid faults.items (length others) (length mid) same
    (subst (λ l. AddsFaults (link_faults zone chain) others (length others) l) (sym c.as_slice-2.ensures.value) c.in_ok-faults.ensures.faults) added) c.with_late.ensures
