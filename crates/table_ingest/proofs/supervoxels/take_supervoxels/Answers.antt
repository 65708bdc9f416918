use Rattle.std.proofs.Common.{ℕ, Global, BuildHasherDefault, FoldHasher}
use Rattle.indexmap.specs.declared.set.IndexSet.{IndexSet}
use Rattle.table_ingest.proofs.Meanings.{still_bad}
use Rattle.table_ingest.proofs.supervoxels.take_supervoxels.Goals as goal

abbrev Names : Type 0
Names = IndexSet ℕ (BuildHasherDefault FoldHasher) Global FoldHasher

pub returns-in-Ok : goal.returns-in-Ok
returns-in-Ok c = c.in-Ok.ensures

pub returns-in-Err : goal.returns-in-Err
returns-in-Err c rows left = still_bad (Unit {0}) Names (λ u. c.fill_supervoxels.new.ids.keys) (λ ids. ids.keys) c.in-Err.stop _ (c.in-Err.ensures rows left)
