use Rattle.std.proofs.Common.{◌≡◌, ℕ, take, map, length}
use Rattle.op_model.specs.Chunks.{layers_from}
use Rattle.op_model.specs.Labels.{node}
use Rattle.op_model.specs.Ingest.{ingested}
use Rattle.plain_hierarchy.proofs.nodes.path.Given as goal

abbrev pub invariant-loop-place : goal.invariant-loop-place
invariant-loop-place l = record {
  shown : (at : ℕ) → take l.place l.nodes ≡ map (λ layer. node l.dataset l.base (ingested l.dataset l.base at) layer l.sv) (layers_from 2 l.place);
  long : length l.nodes ≡ 17;
}
