use Rattle.std.proofs.Common.{◌≡◌, ◌++◌, sym, subst}
use Rattle.std.specs.Prelude.{OnOk, Option, codes}
use Rattle.dns_lexer.specs.declared.position.Position.{Position}
use Rattle.finding_formats.specs.Lines.{opened_text, position_text}
use Rattle.finding_formats.proofs.Appending.{regroup}
use Rattle.finding_formats.proofs.lines.push_opened.Goals as goal

pub returns-in-Some : goal.returns-in-Some
returns-in-Some g c =
    let last = c.push_position in
    subst (λ (o : Option Position). OnOk last.result (last.new.out.items ≡ c.args.out.now.items ++ opened_text o)) (sym c.in-Some.is)
    (regroup last.result last.new.out.items c.args.out.now.items (codes ", opened at ") (position_text c.in-Some.position) last.ensures)
