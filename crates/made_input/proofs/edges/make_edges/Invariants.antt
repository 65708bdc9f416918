use Rattle.std.proofs.Common.{◌≡◌}
use Rattle.made_input.specs.Edges.{edges_below}
use Rattle.made_input.proofs.edges.make_edges.Given as goal

abbrev pub invariant-loop-k : goal.invariant-loop-k
invariant-loop-k l = edges_below l.wish l.k ≡ (l.list.items, l.state)
