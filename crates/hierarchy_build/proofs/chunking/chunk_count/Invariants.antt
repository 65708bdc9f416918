use Rattle.std.proofs.Common.{◌≡◌, ◌+◌, length, drop}
use Rattle.hierarchy_build.specs.Chunked.{all_chunks}
use Rattle.hierarchy_build.proofs.chunking.chunk_count.Given as goal

abbrev pub invariant-loop-layer : goal.invariant-loop-layer
invariant-loop-layer l = l.count + length (all_chunks (drop l.layer-index l.layers)) ≡ length (all_chunks l.layers)
