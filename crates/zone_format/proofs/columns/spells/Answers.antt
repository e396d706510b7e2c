use Rattle.std.proofs.Common.{◌+◌, ◌&&◌, drop, sym, ap, ◌∙◌, arith}
use Rattle.zone_format.specs.Columns.{spells}
use Rattle.zone_format.proofs.Spelling.{other_length, spells_at}
use Rattle.zone_format.proofs.columns.spells.Goals as goal

pub loop-place-preserved : goal.loop-place-preserved
loop-place-preserved c =
    let inv = c.loop-place.invariant in
    let ls = c.args.letters.now in
    let cs = c.args.token.now in
    let i = c.loop-place.place in
    record {
      within = omega arith;
      long = inv.long;
      same = inv.same ∙ spells_at ls cs i (omega (arith, c.loop-place-test.true)) (omega (arith, c.loop-place-test.true, inv.long))
          ∙ ap (λ b. b && spells (drop (i + 1) ls) (drop (i + 1) cs)) (sym c.is_letter.ensures ∙ c.if-is_letter.true);
    }

pub returns-then-letters-token : goal.returns-then-letters-token
returns-then-letters-token c = sym (other_length c.args.letters.now c.args.token.now c.if-letters-token.true)
