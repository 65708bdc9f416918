use Rattle.std.proofs.Common.{◌≡◌, take, ◌==◌}
use Rattle.std.specs.List.{filter}
use Rattle.op_model.specs.Chunks.{chunk}
use Rattle.plain_hierarchy.proofs.chunks.members.Given as goal

abbrev pub invariant-loop-sv : goal.invariant-loop-sv
invariant-loop-sv l = l.list.items ≡ filter (λ v. chunk l.dataset l.layer v == l.place) (take l.sv-index l.base.supervoxels)
