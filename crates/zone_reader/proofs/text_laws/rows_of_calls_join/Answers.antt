use Rattle.zone_reader.proofs.GivenRows.{records_end_rows, rows_join}
use Rattle.zone_reader.proofs.text_laws.rows_of_calls_join.Goals as goal

pub returns-clause-join : goal.returns-clause-join
returns-clause-join c = rows_join

pub returns-clause-records : goal.returns-clause-records
returns-clause-records c = records_end_rows
