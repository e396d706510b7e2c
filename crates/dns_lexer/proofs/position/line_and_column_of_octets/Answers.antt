use Rattle.std.proofs.Common.{◌<◌, ◌+◌, length, arith, take, get_or, sym, subst}
use Rattle.std.proofs.lemmas.List.{take_more}
use Rattle.dns_lexer.specs.Position.{IsPosition}
use Rattle.dns_lexer.proofs.Positions.{feed_more, other_more}
use Rattle.dns_lexer.proofs.position.line_and_column_of_octets.Goals.{then-octet-eq10, else-octet-eq10}
use Rattle.dns_lexer.proofs.position.line_and_column_of_octets.Goals as goal

pub loop-octet-preserved : goal.loop-octet-preserved
loop-octet-preserved c =
    let inv = c.loop-octet.invariant in
    let before = take c.args.at c.args.octets.now in
    let i = c.loop-octet.octet-index in
    let room : i < length before = omega arith in
    let more = take_more before i 0 room in
    elim c.if-octet-eq10.branch [
      | then-octet-eq10 w ↦ record {
        short = omega (arith, w.line-is, inv.short);
        narrow = omega (arith, w.column-is);
        is = rw (w.line-is, w.column-is) (subst (λ l. IsPosition l (c.loop-octet.line + 1) 1) (sym more)
            (feed_more (take i before) (get_or before i 0) c.loop-octet.line c.loop-octet.column w.if-octet-eq10.true inv.is));
      }
      | else-octet-eq10 w ↦ record {
        short = omega (arith, w.line-is, inv.short);
        narrow = omega (arith, w.column-is, inv.narrow);
        is = rw (w.line-is, w.column-is) (subst (λ l. IsPosition l c.loop-octet.line (c.loop-octet.column + 1)) (sym more)
            (other_more (take i before) (get_or before i 0) c.loop-octet.line c.loop-octet.column w.if-octet-eq10.false inv.is));
      }
    ]
