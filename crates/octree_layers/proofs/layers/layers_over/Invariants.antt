use Rattle.std.proofs.Common.{◌≡◌, ℕ, ◌+◌, ◌≤◌, ◌<◌, None, length}
use Rattle.op_model.specs.Ingest.{ingested, spent_in}
use Rattle.octree_layers.specs.Numbers.{LabelsFitIn}
use Rattle.octree_layers.specs.Layers.{AreLayers}
use Rattle.octree_layers.proofs.layers.layers_over.Given as goal

abbrev pub invariant-loop-layer : goal.invariant-loop-layer
invariant-loop-layer l = record {
  layers : (now : ℕ) → AreLayers l.dataset l.base (ingested l.dataset l.base now) 2 l.layers.items;
  count : length l.layers.items + 2 ≡ l.layer;
  room : (now at : ℕ) → 2 ≤ at → at < l.layer → spent_in l.dataset l.base (ingested l.dataset l.base now) at ≡ None;
  fit : (now at : ℕ) → 2 ≤ at → at < l.layer → LabelsFitIn l.dataset l.base (ingested l.dataset l.base now) at;
}
