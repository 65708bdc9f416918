use Rattle.table_ingest.proofs.Counts.{spelled_few}
use Rattle.table_ingest.proofs.laws.rows_are_few.Goals as goal

pub returns : goal.returns
returns c = spelled_few
