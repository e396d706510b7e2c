use Rattle.std.proofs.Common.{◌∙◌, ◌-◌, ap, get_or, sym}
use Rattle.finding_codes.specs.Table.{no_row}
use Rattle.finding_codes.proofs.Tables.{in_first, in_later}
use Rattle.finding_codes.proofs.table.row_of_index.Goals as goal

pub returns-then-at-lt-FIRST_COUNT : goal.returns-then-at-lt-FIRST_COUNT
returns-then-at-lt-FIRST_COUNT c = c.row_in.ensures ∙ ap (λ rs. get_or rs c.args.at no_row) c.first_rows.ensures ∙ sym (in_first c.args.at c.if-at-lt-FIRST_COUNT.true)

pub returns-else-at-lt-FIRST_COUNT : goal.returns-else-at-lt-FIRST_COUNT
returns-else-at-lt-FIRST_COUNT c = c.row_in-else-at-lt-FIRST_COUNT.ensures ∙ ap (λ rs. get_or rs (c.args.at - 67) no_row) c.later_rows.ensures ∙ sym (in_later c.args.at c.if-at-lt-FIRST_COUNT.false)
