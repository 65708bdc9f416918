use Rattle.table_ingest.proofs.supervoxels.read_ids.Goals as goal

pub returns : goal.returns
returns c rows are = c.ids_under_header.ensures rows (c.reader_of-rdr.ensures rows are)
