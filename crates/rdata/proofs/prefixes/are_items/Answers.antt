use Rattle.std.proofs.Common.{length, refl, sym, true≢false}
use Rattle.std.proofs.lemmas.Bool.{eqb-true, eqb-false}
use Rattle.rdata_tokens.proofs.Pieces.{rest_of}
use Rattle.rdata.proofs.ItemLaws.{any_begin, any_on, any_end, no_any}
use Rattle.rdata.proofs.PrefixListLaws.{is_none, is_some}
use Rattle.rdata.proofs.prefixes.are_items.Goals as goal

pub loop-left-init : goal.loop-left-init
loop-left-init c = any_begin c.args.octets.now

pub returns-in_default : goal.returns-in_default
returns-in_default c =
    let some = is_some c.loop-left.left.now (eqb-false (length c.loop-left.left.now) 0 (sym c.loop-left-test.ensures)) in (
      λ no. absurd (true≢false (sym no)),
      λ h. absurd (no_any c.args.octets.now c.loop-left.left.now c.loop-left.invariant some c.in_default.ensures h),
    )

pub loop-left-preserved : goal.loop-left-preserved
loop-left-preserved c =
    let some = is_some c.loop-left.left.now (eqb-false (length c.loop-left.left.now) 0 (sym c.loop-left-test.ensures)) in
    any_on c.args.octets.now c.loop-left.left.now _ c.in-Some.width c.loop-left.invariant some c.in-Some.ensures (rest_of c.in-Some.width c.loop-left.left.now)

pub returns : goal.returns
returns c =
    let none = is_none c.loop-left.left.now (eqb-true (length c.loop-left.left.now) 0 (sym c.loop-left-test.ensures)) in
    (λ yes. any_end c.args.octets.now c.loop-left.left.now c.loop-left.invariant none, λ h. refl)
