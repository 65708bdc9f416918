use Rattle.std.proofs.Common.{rules}
use Rattle.csv.specs.Records.{fields_of}
use Rattle.table_ingest.specs.declared.errors.Table.TheVariants as tables
use Rattle.table_ingest.specs.declared.errors.Cause.TheVariants as cause
use Rattle.table_ingest.proofs.Meanings.{bad_took}
use Rattle.table_ingest.proofs.Names.{took_id, double_id}
use Rattle.table_ingest.proofs.supervoxels.take_supervoxel.Goals as goal

pub returns-in-Ok-default-true : goal.returns-in-Ok-default-true
returns-in-Ok-default-true c =
    took_id c.args.dataset.now c.args.ids.now.keys c.insert_full.new.self.keys (fields_of c.args.row.now) c.in-Ok.id c.in-Ok-default-true.field-0-1
    (search rules) c.in-Ok-default-true.ensures.added c.in-Ok-default-true.ensures.keys (search rules)

pub returns-in-Ok-default-false : goal.returns-in-Ok-default-false
returns-in-Ok-default-false c =
    bad_took (Unit {0}) tables.Supervoxels c.args.number c.args.ids.now.keys c.insert_full.new.self.keys _ cause.DoubleSupervoxel c.bad_supervoxel-in-Ok-default-false.result
    c.bad_supervoxel-in-Ok-default-false.ensures
    (double_id c.args.dataset.now c.args.ids.now.keys (fields_of c.args.row.now) c.in-Ok.id c.in-Ok-default-false.field-0-1
    (search rules) c.in-Ok-default-false.ensures.added (search rules))
