use Rattle.std.proofs.Common.{◌≡◌, ℕ, ◌≤◌, map, length}
use Rattle.flow_net.specs.Net.{wire_of}
use Rattle.min_cut.specs.Tree.{Pushed}
use Rattle.min_cut.specs.Steps.{Climbs}
use Rattle.min_cut.proofs.blocking.send.Given as goal

abbrev pub invariant-loop-left : goal.invariant-loop-left
invariant-loop-left l = record {
  walk : (level : ℕ → ℕ) × Climbs (map wire_of l.links) l.initial.amounts level l.steps l.fn.found.source l.left l.at
      × Pushed (map wire_of l.links) level l.initial.amounts l.amounts l.width l.sent l.at l.fn.found.sink;
  len : length l.amounts ≡ length l.links;
  short : l.left ≤ l.fn.found.depth;
  low : l.left ≤ length l.steps;
}

abbrev pub decreases-loop-left : goal.decreases-loop-left
decreases-loop-left l = l.left
