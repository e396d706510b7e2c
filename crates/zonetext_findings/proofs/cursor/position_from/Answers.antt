use Rattle.std.proofs.Common.{refl, arith}
use Rattle.zonetext_findings.proofs.FollowedPositions.{followed_first, followed_later}
use Rattle.zonetext_findings.proofs.cursor.position_from.Goals as goal

pub returns-then-within-eq1 : goal.returns-then-within-eq1
returns-then-within-eq1 c lines before octets line column at in_octets =
    followed_first lines before octets c.args.start c.args.within (record { line = c.args.start.line; column = c.saturating_add.result }) at in_octets c.if-within-eq1.true refl
    (omega (arith, c.saturating_add.ensures, c.saturating_sub.ensures, column, in_octets.1))

pub returns : goal.returns
returns c lines before octets line column at in_octets =
    followed_later lines before octets c.args.start c.args.within (record { line = c.saturating_add-2.result; column = c.args.within.column }) at in_octets
    (omega (arith, c.if-within-eq1.false, in_octets.0))
    (omega (arith, c.saturating_add-2.ensures, c.saturating_sub-2.ensures, line, in_octets.0)) refl
