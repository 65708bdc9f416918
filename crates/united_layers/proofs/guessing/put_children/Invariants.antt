use Rattle.std.proofs.Common.{◌≡◌}
use Rattle.united_layers.proofs.guessing.put_children.Given as goal

abbrev pub invariant-loop-k : goal.invariant-loop-k
invariant-loop-k g l = l.w ≡ l.fn.w
