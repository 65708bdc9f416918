use Rattle.std.proofs.Common.{rules}
use Rattle.csv.specs.Records.{fields_of}
use Rattle.table_ingest.specs.Supervoxels.{is_id_header}
use Rattle.table_ingest.proofs.Meanings.{no_record, first_record}
use Rattle.table_ingest.proofs.supervoxels.takes_header.Goals as goal

pub returns-then-not-found-clause-found : goal.returns-then-not-found-clause-found
returns-then-not-found-clause-found c = no_record is_id_header c.args.rdr.now c.next.new.rdr (fields_of c.next.new.row) c.in_ok-found.found c.in_ok-found.ensures.takes (search rules)

pub returns-clause-found : goal.returns-clause-found
returns-clause-found c = first_record is_id_header c.args.rdr.now c.next.new.rdr (fields_of c.next.new.row) c.in_ok-found.found c.is_id_header.result c.in_ok-found.ensures.takes (search rules) c.is_id_header.ensures
