use Rattle.std.proofs.Common.{◌≡◌, map}
use Rattle.table_ingest.specs.Edges.{edge_of, ends}
use Rattle.table_ingest.specs.declared.errors.Table.TheVariants as tables
use Rattle.table_ingest.proofs.Meanings.{Going}
use Rattle.table_ingest.proofs.edges.fill_edges.Given as goal

abbrev pub invariant-loop-number : goal.invariant-loop-number
invariant-loop-number l = Going tables.Edges (edge_of l.fn.known.keys) l.fn.rdr l.rdr l.edges.items l.number × (l.pairs.keys ≡ map ends l.edges.items)
