use Rattle.std.proofs.Common.{rules, ◌∙◌}
use Rattle.csv.specs.Records.{fields_of}
use Rattle.table_ingest.specs.declared.errors.Table.TheVariants as tables
use Rattle.table_ingest.specs.declared.errors.Cause.TheVariants as cause
use Rattle.table_ingest.proofs.Meanings.{bad_took}
use Rattle.table_ingest.proofs.Pairs.{new_edge, double_edge, put_map}
use Rattle.table_ingest.proofs.edges.take_edge.Goals as goal

pub returns-then-not-is_new-clause-took : goal.returns-then-not-is_new-clause-took
returns-then-not-is_new-clause-took c =
    bad_took (Unit {0}) tables.Edges c.args.number c.args.edges.now.items c.args.edges.now.items _ cause.DoubleEdge c.bad_edge-then-not-is_new.result c.bad_edge-then-not-is_new.ensures
    (double_edge c.args.known.now.keys c.args.edges.now.items c.args.pairs.now.keys (fields_of c.args.row.now) c.in-Ok.pair c.in_ok-is_new.is_new c.requires (search rules) (search rules) (search rules))

pub returns-in-Err-edge_with-clause-took : goal.returns-in-Err-edge_with-clause-took
returns-in-Err-edge_with-clause-took c =
    bad_took (Unit {0}) tables.Edges c.args.number c.args.edges.now.items c.args.edges.now.items _ c.in-Err-edge_with.cause c.bad_edge-in-Err-edge_with.result c.bad_edge-in-Err-edge_with.ensures
    (new_edge c.args.known.now.keys c.args.edges.now.items c.args.pairs.now.keys (fields_of c.args.row.now) c.in-Ok.pair c.in_ok-is_new.is_new c.requires (search rules) (search rules) (search rules) ∙ search rules)

pub returns-in-Ok-push-clause-took : goal.returns-in-Ok-push-clause-took
returns-in-Ok-push-clause-took c = (
  c.in-Ok-edge_with.edge,
  new_edge c.args.known.now.keys c.args.edges.now.items c.args.pairs.now.keys (fields_of c.args.row.now) c.in-Ok.pair c.in_ok-is_new.is_new c.requires (search rules) (search rules) (search rules) ∙ search rules,
  search rules,
)

pub returns-in-Ok-push-clause-pairs : goal.returns-in-Ok-push-clause-pairs
returns-in-Ok-push-clause-pairs c =
    put_map c.args.edges.now.items c.push.new.self.items c.args.pairs.now.keys c.put_pair.new.pairs.keys (fields_of c.args.row.now) c.in-Ok.pair c.in-Ok-edge_with.edge c.requires (search rules) (search rules) (search rules)
