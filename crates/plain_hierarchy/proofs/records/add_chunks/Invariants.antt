use Rattle.std.proofs.Common.{◌≡◌, ◌++◌, take, map}
use Rattle.op_model.specs.Chunks.{chunk}
use Rattle.plain_hierarchy.proofs.records.add_chunks.Given as goal

abbrev pub invariant-loop-sv : goal.invariant-loop-sv
invariant-loop-sv l = l.list.items ≡ l.fn.list.items ++ map (chunk l.dataset l.layer) (take l.sv-index l.base.supervoxels)
