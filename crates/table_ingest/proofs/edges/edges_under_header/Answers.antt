use Rattle.std.proofs.Common.{rules, Vec, Global}
use Rattle.op_model.specs.declared.base.Edge.{Edge}
use Rattle.table_ingest.specs.Edges.{is_edge_header, edge_of, edges_of}
use Rattle.table_ingest.specs.declared.errors.Table.TheVariants as tables
use Rattle.table_ingest.specs.declared.errors.Cause.TheVariants as cause
use Rattle.table_ingest.proofs.Meanings.{under_none, under_header, bad_given}
use Rattle.table_ingest.proofs.edges.edges_under_header.Goals as goal

pub returns-then-not-found : goal.returns-then-not-found
unfolding edges_of
returns-then-not-found c rows left =
    bad_given (Vec Edge Global) (λ v. v.items) tables.Edges 0 cause.BadHeader c.bad_edge.result _ c.bad_edge.ensures
    (under_none tables.Edges (edge_of c.args.known.now.keys) is_edge_header c.takes_header.new.rdr rows c.in_ok-found.found (c.in_ok-found.ensures.found rows left) (search rules))

pub returns : goal.returns
unfolding edges_of
returns c rows left =
    under_header tables.Edges (edge_of c.args.known.now.keys) is_edge_header (λ edges. edges.items) c.takes_header.new.rdr rows c.in_ok-found.found c.take_edges.result (c.in_ok-found.ensures.found rows left) (search rules)
    c.take_edges.ensures
