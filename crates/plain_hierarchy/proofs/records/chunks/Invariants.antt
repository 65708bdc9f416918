use Rattle.std.proofs.Common.{◌≡◌, map}
use Rattle.std.specs.List.{flat_map}
use Rattle.op_model.specs.Chunks.{chunk, layers_from}
use Rattle.plain_hierarchy.proofs.records.chunks.Given as goal

abbrev pub invariant-loop-place : goal.invariant-loop-place
invariant-loop-place l = l.list.items ≡ flat_map (λ layer. map (chunk l.dataset layer) l.base.supervoxels) (layers_from 2 l.place)
