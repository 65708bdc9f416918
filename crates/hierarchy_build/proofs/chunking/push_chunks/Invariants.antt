use Rattle.std.proofs.Common.{◌≡◌, ◌++◌, drop}
use Rattle.hierarchy_build.specs.Chunked.{chunks_behind}
use Rattle.hierarchy_build.proofs.chunking.push_chunks.Given as goal

abbrev pub invariant-loop-node : goal.invariant-loop-node
invariant-loop-node l = l.list.items ++ chunks_behind l.last (drop l.node-index l.made) ≡ l.fn.list.items ++ chunks_behind 0 l.made
