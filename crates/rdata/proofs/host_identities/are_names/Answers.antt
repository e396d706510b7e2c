use Rattle.std.proofs.Common.{length, refl, sym, true≢false}
use Rattle.std.proofs.lemmas.Bool.{eqb-false}
use Rattle.rdata.proofs.HostWire.{names_on, no_names}
use Rattle.rdata.proofs.PrefixListLaws.{is_some}
use Rattle.rdata.proofs.host_identities.are_names.Goals as goal

pub returns-in_default : goal.returns-in_default
returns-in_default c =
    let some = is_some c.loop-left.left.now (eqb-false (length c.loop-left.left.now) 0 (sym c.loop-left-test.ensures)) in (
      λ no. absurd (true≢false (sym no)),
      λ h. absurd (no_names c.args.octets.now c.loop-left.left.now c.loop-left.invariant some c.in_default.ensures h),
    )

pub loop-left-preserved : goal.loop-left-preserved
loop-left-preserved c =
    let some = is_some c.loop-left.left.now (eqb-false (length c.loop-left.left.now) 0 (sym c.loop-left-test.ensures)) in
    names_on c.loop-left.left.now c.in-Some.width c.in-Some.ensures c.args.octets.now _ c.loop-left.invariant some refl
