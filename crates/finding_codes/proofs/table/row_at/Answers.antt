use Rattle.std.proofs.Common.{subst, sym, ◌≤◌}
use Rattle.finding_codes.proofs.Tables.{count}
use Rattle.finding_codes.proofs.table.row_at.Goals as goal

pub returns-else-number-lt-COUNT-clause-none : goal.returns-else-number-lt-COUNT-clause-none
returns-else-number-lt-COUNT-clause-none c = λ e. subst (λ n. n ≤ c.args.number) (sym count) c.if-number-lt-COUNT.false
