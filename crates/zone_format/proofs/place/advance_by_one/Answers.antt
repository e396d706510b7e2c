use Rattle.std.proofs.Common.{◌≡◌, ◌++◌, ◌<◌, length, take, ◌==◌, true, false, get_or, ap, sym, ◌∙◌, arith, eq-eqb}
use Rattle.std.proofs.lemmas.Bool.{ne_eqb}
use Rattle.std.proofs.lemmas.List.Sums.{count_by_more_yes, count_by_more_no}
use Rattle.zone_format.specs.Place.{begins_character, column_of}
use Rattle.zone_format.proofs.Positions.{column_feed, column_more, column_same, one_on}
use Rattle.zone_format.proofs.place.advance_by_one.Goals.{then-octet-eq10, else-octet-eq10+then-begins_character, else-octet-eq10+else-begins_character}
use Rattle.zone_format.proofs.place.advance_by_one.Goals as goal

pub loop-octet-preserved : goal.loop-octet-preserved
loop-octet-preserved c =
    let inv = c.loop-octet.invariant in
    let xs = c.args.octets.now in
    let i = c.loop-octet.octet-index in
    let x = get_or xs i 0 in
    let room : i < length xs = omega arith in
    elim c.if-octet-eq10.branch [
      | then-octet-eq10 w ↦
          let is : (x == 10) ≡ true = eq-eqb x 10 w.if-octet-eq10.true in
          record {
            lines = omega (arith, w.line-is, inv.lines, count_by_more_yes (λ c. c == 10) xs i 0 room is);
            narrow = omega (arith, w.column-is);
            columns = λ before e. w.column-is ∙ sym (ap column_of (one_on before xs i room) ∙ column_feed (before ++ take i xs) x is);
          }
      | else-octet-eq10+then-begins_character w ↦
          let is : (x == 10) ≡ false = ne_eqb x 10 w.if-octet-eq10.false in
          let begins : begins_character x ≡ true = sym w.begins_character.ensures ∙ w.if-begins_character.true in
          record {
            lines = omega (arith, w.line-is, inv.lines, count_by_more_no (λ c. c == 10) xs i 0 room is);
            narrow = omega (arith, w.column-is, inv.narrow);
            columns = λ before e. w.column-is ∙ column_more (before ++ take i xs) x c.loop-octet.column is begins (inv.columns before e) ∙ sym (ap column_of (one_on before xs i room));
          }
      | else-octet-eq10+else-begins_character w ↦
          let is : (x == 10) ≡ false = ne_eqb x 10 w.if-octet-eq10.false in
          let begins : begins_character x ≡ false = sym w.begins_character.ensures ∙ w.if-begins_character.false in
          record {
            lines = omega (arith, w.line-is, inv.lines, count_by_more_no (λ c. c == 10) xs i 0 room is);
            narrow = omega (arith, w.column-is, inv.narrow);
            columns = λ before e. w.column-is ∙ column_same (before ++ take i xs) x c.loop-octet.column is begins (inv.columns before e) ∙ sym (ap column_of (one_on before xs i room));
          }
    ]
