use Rattle.std.proofs.Common.{◌≡◌, ℕ, List, take, IsTrue}
use Rattle.op_model.specs.declared.base.Dataset.{Dataset}
use Rattle.op_model.specs.declared.base.Base.{Base}
use Rattle.op_model.specs.declared.entry.Entry.{Entry}
use Rattle.graph_model.specs.Lists.{has}
use Rattle.record_rows.specs.Readings.{HoldsSupervoxel, ParentImage}
use Rattle.touched_paths.specs.Climbing.{Covers}
use Rattle.touched_paths.proofs.climbing.spots_of.Given as goal

abbrev pub invariant-loop-place : goal.invariant-loop-place
invariant-loop-place g l = record {
  same : l.w ≡ l.fn.w;
  stand :
      (d : Dataset) (b : Base) (log : List Entry) → ParentImage d b log (g.W.Words.words l.fn.w) → ((u : ℕ) → IsTrue (has l.ids u) → IsTrue (has b.supervoxels u))
      → Covers (take l.place l.ids) (λ p u. HoldsSupervoxel d b log p u) l.list.items;
}
