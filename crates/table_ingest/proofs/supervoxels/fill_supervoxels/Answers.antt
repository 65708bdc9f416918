use Rattle.std.proofs.Common.{rules}
use Rattle.csv.specs.Records.{fields_of}
use Rattle.table_ingest.specs.Supervoxels.{supervoxel_of}
use Rattle.table_ingest.specs.declared.errors.Table.TheVariants as tables
use Rattle.table_ingest.proofs.Meanings.{begun, ended, refused, taken}
use Rattle.table_ingest.proofs.supervoxels.fill_supervoxels.Goals as goal

pub returns-then-not-found : goal.returns-then-not-found
returns-then-not-found c =
    ended tables.Supervoxels (supervoxel_of c.args.dataset.now) c.args.rdr.now c.loop-number.rdr c.next.new.rdr c.loop-number.ids.keys c.loop-number.number (fields_of c.next.new.row) c.in_ok-found.found
    c.loop-number.invariant c.in_ok-found.ensures.takes (search rules)

pub returns-in_err-take_supervoxel : goal.returns-in_err-take_supervoxel
returns-in_err-take_supervoxel c =
    refused tables.Supervoxels (supervoxel_of c.args.dataset.now) (Unit {0}) (λ u. c.take_supervoxel.new.ids.keys) c.args.rdr.now c.loop-number.rdr c.next.new.rdr c.loop-number.ids.keys c.take_supervoxel.new.ids.keys c.loop-number.number (fields_of c.next.new.row) c.in_ok-found.found
    c.in_err-take_supervoxel.field-0.0 c.from_residual-in_err-take_supervoxel.result c.loop-number.invariant c.in_ok-found.ensures.takes (search rules) c.in_err-take_supervoxel.ensures (search rules)

pub loop-number-preserved : goal.loop-number-preserved
loop-number-preserved c = taken tables.Supervoxels (supervoxel_of c.args.dataset.now) (tt {0}) c.args.rdr.now c.loop-number.rdr c.next.new.rdr c.loop-number.ids.keys c.take_supervoxel.new.ids.keys c.loop-number.number (fields_of c.next.new.row) c.in_ok-found.found
    c.loop-number.invariant c.in_ok-found.ensures.takes (search rules) c.in_ok-take_supervoxel.ensures

pub loop-number-init : goal.loop-number-init
loop-number-init c = begun tables.Supervoxels (supervoxel_of c.args.dataset.now) c.args.rdr.now c.args.ids.now.keys c.requires.empty
