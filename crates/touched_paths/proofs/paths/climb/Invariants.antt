use Rattle.std.proofs.Common.{◌≡◌, ℕ, ◌<◌, ◌≤◌, ◌+◌, List, IsTrue}
use Rattle.op_model.specs.declared.base.Dataset.{Dataset}
use Rattle.op_model.specs.declared.base.Base.{Base}
use Rattle.op_model.specs.declared.entry.Entry.{Entry}
use Rattle.graph_model.specs.Lists.{has}
use Rattle.op_model.specs.Valid.{IsAscending}
use Rattle.record_rows.specs.Readings.{ParentImage}
use Rattle.touched_paths.specs.Climbing.{ArePassed, IsClimbed}
use Rattle.touched_paths.proofs.paths.climb.Given as goal

abbrev pub invariant-loop-layer : goal.invariant-loop-layer
invariant-loop-layer g l = record {
  same : l.w ≡ l.fn.w;
  low : 2 ≤ l.layer;
  high : l.layer ≤ l.top + 1;
  ascending : 2 < l.layer → IsAscending l.spots.items;
  climbed :
      (d : Dataset) (b : Base) (log : List Entry) → ParentImage d b log (g.W.Words.words l.fn.w) → ((u : ℕ) → IsTrue (has l.ids u) → IsTrue (has b.supervoxels u))
      → IsClimbed d b log (g.W.Words.words l.fn.w) l.prefix l.layer l.ids l.spots.items;
  passed :
      (d : Dataset) (b : Base) (log : List Entry) → ParentImage d b log (g.W.Words.words l.fn.w) → ((u : ℕ) → IsTrue (has l.ids u) → IsTrue (has b.supervoxels u))
      → ArePassed d b log l.layer l.ids l.places.items;
}
