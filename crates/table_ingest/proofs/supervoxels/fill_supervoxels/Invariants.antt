use Rattle.table_ingest.specs.Supervoxels.{supervoxel_of}
use Rattle.table_ingest.specs.declared.errors.Table.TheVariants as tables
use Rattle.table_ingest.proofs.Meanings.{Going}
use Rattle.table_ingest.proofs.supervoxels.fill_supervoxels.Given as goal

abbrev pub invariant-loop-number : goal.invariant-loop-number
invariant-loop-number l = Going tables.Supervoxels (supervoxel_of l.fn.dataset) l.fn.rdr l.rdr l.ids.keys l.number
