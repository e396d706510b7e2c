use Rattle.std.proofs.Common.{◌≡◌, sym, subst}
use Rattle.std.specs.Prelude.{IfSome}
use Rattle.dns_lexer.specs.Pieces.{next_blank}
use Rattle.dns_lexer.proofs.OctetsOnce.{are_octets}
use Rattle.dns_lexer.proofs.Standings.{left_blank}
use Rattle.dns_lexer.proofs.cursor_state.CursorState.begins_blank.Goals as goal

pub returns-clause-next : goal.returns-clause-next
returns-clause-next c = λ given left.
    let octets = are_octets c.args.octets.now (λ k. (c.type_inv.octets k).fits) in
    subst (λ t. IfSome (next_blank given) (λ b. t ≡ b)) (sym c.first_blank.ensures) (left_blank c.args.octets.now c.args.self given octets left)
