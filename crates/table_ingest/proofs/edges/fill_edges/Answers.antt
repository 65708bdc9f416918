use Rattle.std.proofs.Common.{rules}
use Rattle.csv.specs.Records.{fields_of}
use Rattle.table_ingest.specs.Edges.{edge_of}
use Rattle.table_ingest.specs.declared.errors.Table.TheVariants as tables
use Rattle.table_ingest.proofs.Meanings.{begun, ended, refused, taken}
use Rattle.table_ingest.proofs.edges.fill_edges.Goals as goal

pub returns-then-not-found : goal.returns-then-not-found
returns-then-not-found c =
    ended tables.Edges (edge_of c.args.known.now.keys) c.args.rdr.now c.loop-number.rdr c.next.new.rdr c.loop-number.edges.items c.loop-number.number (fields_of c.next.new.row) c.in_ok-found.found
    c.loop-number.invariant.0 c.in_ok-found.ensures.takes (search rules)

pub returns-in_err-take_edge : goal.returns-in_err-take_edge
returns-in_err-take_edge c =
    refused tables.Edges (edge_of c.args.known.now.keys) (Unit {0}) (λ u. c.take_edge.new.edges.items) c.args.rdr.now c.loop-number.rdr c.next.new.rdr c.loop-number.edges.items c.take_edge.new.edges.items c.loop-number.number (fields_of c.next.new.row) c.in_ok-found.found
    c.in_err-take_edge.field-0.0 c.from_residual-in_err-take_edge.result c.loop-number.invariant.0 c.in_ok-found.ensures.takes (search rules) c.in_err-take_edge.ensures.took (search rules)

pub loop-number-preserved : goal.loop-number-preserved
loop-number-preserved c = (
  taken tables.Edges (edge_of c.args.known.now.keys) (tt {0}) c.args.rdr.now c.loop-number.rdr c.next.new.rdr c.loop-number.edges.items c.take_edge.new.edges.items c.loop-number.number (fields_of c.next.new.row) c.in_ok-found.found
      c.loop-number.invariant.0 c.in_ok-found.ensures.takes (search rules) c.in_ok-take_edge.ensures.took,
  search rules,
)

pub loop-number-init : goal.loop-number-init
loop-number-init c = (begun tables.Edges (edge_of c.args.known.now.keys) c.args.rdr.now c.args.edges.now.items c.requires.empty, c.requires.pairs)
