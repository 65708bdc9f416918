use Rattle.std.proofs.Common.{ℕ, rules, Global, BuildHasherDefault, FoldHasher}
use Rattle.indexmap.specs.declared.set.IndexSet.{IndexSet}
use Rattle.table_ingest.specs.Supervoxels.{is_id_header, supervoxel_of, ids_of}
use Rattle.table_ingest.specs.declared.errors.Table.TheVariants as tables
use Rattle.table_ingest.specs.declared.errors.Cause.TheVariants as cause
use Rattle.table_ingest.proofs.Meanings.{under_none, under_header, bad_given}
use Rattle.table_ingest.proofs.supervoxels.ids_under_header.Goals as goal

abbrev Names : Type 0
Names = IndexSet ℕ (BuildHasherDefault FoldHasher) Global FoldHasher

pub returns-then-not-found : goal.returns-then-not-found
unfolding ids_of
returns-then-not-found c rows left =
    bad_given Names (λ ids. ids.keys) tables.Supervoxels 0 cause.BadHeader c.bad_supervoxel.result _ c.bad_supervoxel.ensures
    (under_none tables.Supervoxels (supervoxel_of c.args.dataset.now) is_id_header c.takes_header.new.rdr rows c.in_ok-found.found (c.in_ok-found.ensures.found rows left) (search rules))

pub returns : goal.returns
unfolding ids_of
returns c rows left =
    under_header tables.Supervoxels (supervoxel_of c.args.dataset.now) is_id_header (λ ids. ids.keys) c.takes_header.new.rdr rows c.in_ok-found.found c.take_supervoxels.result (c.in_ok-found.ensures.found rows left) (search rules)
    c.take_supervoxels.ensures
