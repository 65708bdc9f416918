use Rattle.std.proofs.Common.{◌≡◌, take}
use Rattle.hierarchy_build.specs.Chunked.{all_chunks}
use Rattle.hierarchy_build.proofs.chunking.base_chunks.Given as goal

abbrev pub invariant-loop-layer : goal.invariant-loop-layer
invariant-loop-layer l = l.list.items ≡ all_chunks (take l.layer-index l.layers)
