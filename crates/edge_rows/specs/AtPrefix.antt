-- Inner: no clause of `run` is made of it.
-- Edges with the states that a list of edges gives them.
use Rattle.std.specs.Prelude.{List}
use Rattle.op_model.specs.declared.base.Edge.{Edge}
use Rattle.record_rows.specs.Walks.{is_active}

-- the edge with the state that its pair has among these
unfoldable pub with_state : List Edge → Edge → Edge
with_state edges e = record e { active = is_active edges e.pair }
