use Rattle.table_ingest.proofs.edges.read_edges.Goals as goal

pub returns : goal.returns
returns c rows are = c.edges_under_header.ensures rows (c.reader_of-rdr.ensures rows are)
