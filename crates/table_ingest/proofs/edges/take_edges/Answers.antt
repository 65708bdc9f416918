use Rattle.std.proofs.Common.{Vec, Global}
use Rattle.op_model.specs.declared.base.Edge.{Edge}
use Rattle.table_ingest.proofs.Meanings.{still_bad}
use Rattle.table_ingest.proofs.edges.take_edges.Goals as goal

pub returns-in-Ok : goal.returns-in-Ok
returns-in-Ok c = c.in-Ok.ensures

pub returns : goal.returns
returns c rows left = still_bad (Unit {0}) (Vec Edge Global) (λ u. c.fill_edges.new.edges.items) (λ v. v.items) c.in-Err.stop _ (c.in-Err.ensures rows left)
