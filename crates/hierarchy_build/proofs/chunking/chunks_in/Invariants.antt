use Rattle.std.proofs.Common.{◌≡◌, ◌+◌, ◌≤◌, length, drop}
use Rattle.hierarchy_build.specs.Chunked.{chunks_behind}
use Rattle.hierarchy_build.proofs.chunking.chunks_in.Given as goal

abbrev pub invariant-loop-node : goal.invariant-loop-node
invariant-loop-node l = (l.count + length (chunks_behind l.last (drop l.node-index l.made)) ≡ length (chunks_behind 0 l.made)) × (l.count ≤ l.node-index)
