use Rattle.table_ingest.proofs.FirstLemmas.{faults_first}
use Rattle.table_ingest.proofs.laws.faults_are_first.Goals as goal

pub returns : goal.returns
returns c = faults_first
