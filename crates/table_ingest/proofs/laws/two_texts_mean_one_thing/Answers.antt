use Rattle.table_ingest.proofs.BaseLemmas.{meant, base_or_fault, one_base, one_fault}
use Rattle.table_ingest.proofs.laws.two_texts_mean_one_thing.Goals as goal

pub returns-clause-read : goal.returns-clause-read
returns-clause-read c = meant

pub returns-clause-either : goal.returns-clause-either
returns-clause-either c = base_or_fault

pub returns-clause-base : goal.returns-clause-base
returns-clause-base c = one_base

pub returns-clause-fault : goal.returns-clause-fault
returns-clause-fault c = one_fault
