use Rattle.std.proofs.Common.{length, refl, sym, true≢false}
use Rattle.std.proofs.lemmas.Bool.{eqb-false}
use Rattle.rdata.proofs.PrefixListLaws.{is_some, items_on, no_items}
use Rattle.rdata.proofs.prefixes.are_prefixes.Goals as goal

pub returns-in_default : goal.returns-in_default
returns-in_default c =
    let some = is_some c.loop-left.left.now (eqb-false (length c.loop-left.left.now) 0 (sym c.loop-left-test.ensures)) in (
      λ no. absurd (true≢false (sym no)),
      λ h. absurd (no_items c.args.octets.now c.loop-left.left.now c.loop-left.invariant some c.in_default.ensures h),
    )

pub loop-left-preserved : goal.loop-left-preserved
loop-left-preserved c =
    let some = is_some c.loop-left.left.now (eqb-false (length c.loop-left.left.now) 0 (sym c.loop-left-test.ensures)) in
    items_on c.args.octets.now c.loop-left.left.now _ c.in-Some.ensures.0 c.in-Some.width c.loop-left.invariant some c.in-Some.ensures.1 refl
