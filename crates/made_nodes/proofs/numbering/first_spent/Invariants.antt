use Rattle.std.proofs.Common.{◌≡◌, drop}
use Rattle.made_nodes.specs.Numbers.{first_spent}
use Rattle.made_nodes.proofs.numbering.first_spent.Given as goal

abbrev pub invariant-loop-node : goal.invariant-loop-node
invariant-loop-node l = first_spent l.limit (drop l.node-index l.nodes) ≡ first_spent l.limit l.nodes
