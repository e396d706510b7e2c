use Rattle.std.proofs.Common.{ℕ, ◌<◌, ◌-◌, List, length, ap, arith, eqb-true, sym, ◌∙◌}
use Rattle.std.specs.List.{find}
use Rattle.std.specs.Option.{option_map}
use Rattle.finding_texts.specs.Mistakes.{begins_high, spelled_after, spelled_rests}
use Rattle.finding_texts.proofs.Escapes.{found_first, found_later, nothing, shorter}
use Rattle.finding_texts.proofs.mistakes.high_escape.Goals as goal

pub rests-preserved : goal.rests-preserved
rests-preserved c =
    let rest = c.rests.rest.now in
    let some : 0 < length rest = grind (arith, c.rests-test.ensures) in
    let next = c.after_spelled-rest.ensures in
    record {
      found = ap (λ t. find begins_high (spelled_rests t)) next ∙ sym (found_later rest some (sym c.if-begins_high.ensures)) ∙ c.rests.invariant.found;
      within = omega (arith, c.rests.invariant.within, shorter rest some, ap length next);
    }

pub returns-then-begins_high : goal.returns-then-begins_high
returns-then-begins_high c =
    let rest = c.rests.rest.now in
    let some : 0 < length rest = grind (arith, c.rests-test.ensures) in
    ap (option_map (λ (r : List ℕ). length c.args.text.now - length r)) (sym (found_first rest some (sym c.if-begins_high.ensures)) ∙ c.rests.invariant.found)

pub returns : goal.returns
unfolding spelled_after
returns c =
    let none = nothing c.rests.rest.now (eqb-true (length c.rests.rest.now) 0 (sym c.rests-test.ensures)) in
    ap (option_map (λ (r : List ℕ). length c.args.text.now - length r)) (sym (ap (λ t. find begins_high (spelled_rests t)) none) ∙ c.rests.invariant.found)
