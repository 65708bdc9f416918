use Rattle.std.proofs.Common.{◌≡◌, take}
use Rattle.op_model.specs.Operations.{ends}
use Rattle.touched_paths.proofs.climbing.end_ids.Given as goal

abbrev pub invariant-loop-change : goal.invariant-loop-change
invariant-loop-change l = l.list.items ≡ ends (take l.change-index l.changed)
