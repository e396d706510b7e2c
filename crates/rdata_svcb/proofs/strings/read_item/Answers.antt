use Rattle.std.proofs.Common.{◌≡◌, ◌++◌, ◌∷◌, [], ◌∙◌, length, sym, refl, inl, inr, arith}
use Rattle.std.proofs.lemmas.List.{length-append}
use Rattle.rdata_svcb.proofs.ShownItems.{no_octets}
use Rattle.std.proofs.lemmas.Result.{err_from_is_err_and}
use Rattle.rdata_tokens.proofs.Spellings.{front_none}
use Rattle.rdata_svcb.proofs.ListTexts.{item_more, item_smaller}
use Rattle.rdata_svcb.proofs.ListRefusals.{no_item_bad, no_item_long, no_item_empty}
use Rattle.rdata_svcb.proofs.strings.read_item.Goals as goal

pub loop-first-smaller : goal.loop-first-smaller
loop-first-smaller c = item_smaller c.loop-first.rest.now c.in-Some.first.rest.now c.in-Some.first.octet (rw c.in-Some.is at c.in_ok-first.ensures.ok)

pub loop-first-init : goal.loop-first-init
loop-first-init c = rw c.requires (front_none c.args.text.now, omega arith)

pub loop-first-preserved : goal.loop-first-preserved
loop-first-preserved c =
    let first = c.in-Some.first in
    let item = c.loop-first.item.items in
    rw c.in-Ok.ensures.ok (
      item_more c.args.text.now c.loop-first.rest.now first.rest.now item first.octet c.loop-first.invariant.0 (rw c.in-Some.is at c.in_ok-first.ensures.ok),
      omega (arith, c.in-Ok.ensures.variant.0 refl, length-append item (first.octet ∷ [])),
    )

pub returns : goal.returns
returns c = record { ok = ((omega arith, omega arith), c.loop-first.invariant.0, rw c.in_default.is at c.in_ok-first.ensures.ok); err = tt }

pub returns-in_err-first-clause-err : goal.returns-in_err-first-clause-err
returns-in_err-first-clause-err c =
    let p = err_from_is_err_and c.from_residual.result c.from_residual.ensures.1 in
    let err = c.in_err-first.ensures.err in
    rw (p.1, p.2) ((c.loop-first.item.items, c.loop-first.rest.now, c.loop-first.invariant.0, inr (c.loop-first.invariant.1, err.0)), no_item_bad c.args.text.now c.loop-first.rest.now c.loop-first.item.items c.loop-first.invariant.0 err.1)

pub returns-in_default-try_push-clause-err : goal.returns-in_default-try_push-clause-err
returns-in_default-try_push-clause-err c =
    let first = c.in-Some.first in
    let full : length c.loop-first.item.items ≡ 255 = c.in_default-try_push.ensures.full in
    let next = rw c.in-Some.is at c.in_ok-first.ensures.ok in
    let front = c.loop-first.item.items in
    ((front ++ first.octet ∷ [], first.rest.now, item_more c.args.text.now c.loop-first.rest.now first.rest.now front first.octet c.loop-first.invariant.0 next, inl (refl, inr (omega (arith, full, length-append front (first.octet ∷ []))))), no_item_long c.args.text.now c.loop-first.rest.now first.rest.now c.loop-first.item.items first.octet c.loop-first.invariant.0 (rw c.in-Some.is at c.in_ok-first.ensures.ok) full)

pub returns-then-count-eq0-clause-err : goal.returns-then-count-eq0-clause-err
returns-then-count-eq0-clause-err c =
    let ends = rw c.in_default.is at c.in_ok-first.ensures.ok in
    let none = sym c.len-count.ensures.value ∙ c.if-count-eq0.true in
    ((c.loop-first.item.items, c.loop-first.rest.now, c.loop-first.invariant.0, inl (refl, inl (no_octets c.loop-first.item.items none, ends))), no_item_empty c.args.text.now c.loop-first.rest.now c.loop-first.item.items c.loop-first.invariant.0 ends (sym c.len-count.ensures.value ∙ c.if-count-eq0.true))
