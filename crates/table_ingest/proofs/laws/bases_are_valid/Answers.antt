use Rattle.table_ingest.proofs.BaseLemmas.{spelled_valid}
use Rattle.table_ingest.proofs.laws.bases_are_valid.Goals as goal

pub returns : goal.returns
returns c = spelled_valid
