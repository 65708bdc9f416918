use Rattle.table_ingest.proofs.Total.{some_rows, same_rows}
use Rattle.table_ingest.proofs.laws.every_text_has_records.Goals as goal

pub returns-clause-some : goal.returns-clause-some
returns-clause-some c = some_rows

pub returns-clause-only : goal.returns-clause-only
returns-clause-only c = same_rows
