-- The locks of roots.
use Rattle.std.specs.Prelude.{ℕ, ◌%◌, List, map}
use Rattle.node_ids.specs.Ids.{LayoutForm, parts_of}
use Rattle.op_model.specs.Operations.{ascending}

-- the number of a root's lock, from 0 to 63
unfoldable pub lock_of : LayoutForm → ℕ → ℕ
lock_of layout root = (parts_of layout root).segment % 64

-- the locks of roots, ascending, each once
unfoldable pub locks_of : LayoutForm → List ℕ → List ℕ
locks_of layout roots = ascending (map (lock_of layout) roots)
