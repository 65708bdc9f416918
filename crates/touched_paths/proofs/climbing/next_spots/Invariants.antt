use Rattle.std.proofs.Common.{◌≡◌, ℕ, List, take, IsTrue}
use Rattle.op_model.specs.declared.base.Dataset.{Dataset}
use Rattle.op_model.specs.declared.base.Base.{Base}
use Rattle.op_model.specs.declared.entry.Entry.{Entry}
use Rattle.graph_model.specs.Lists.{has}
use Rattle.op_model.specs.Chunks.{layers}
use Rattle.touched_paths.specs.Climbing.{Covers, IsClimbed}
use Rattle.touched_paths.proofs.Climbs.{Above}
use Rattle.touched_paths.proofs.climbing.next_spots.Given as goal

abbrev pub invariant-loop-place : goal.invariant-loop-place
invariant-loop-place g l = record {
  same : l.w ≡ l.fn.w;
  stand :
      (d : Dataset) (b : Base) (log : List Entry) (layer : ℕ) (us : List ℕ) → IsTrue (has (layers d) layer) → IsClimbed d b log (g.W.Words.words l.fn.w) l.fn.prefix layer us l.spots
      → Covers (take l.place l.spots) (Above d b log layer us) l.list.items;
}
