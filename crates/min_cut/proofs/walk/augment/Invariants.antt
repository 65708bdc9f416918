use Rattle.std.proofs.Common.{◌≡◌, map, length}
use Rattle.flow_net.specs.Net.{wire_of}
use Rattle.min_cut.specs.Tree.{Pushed, HasWidth, level_of}
use Rattle.min_cut.proofs.walk.augment.Given as goal

abbrev pub invariant-loop-k : goal.invariant-loop-k
invariant-loop-k l = record {
  seen : HasWidth l.visits l.width l.at;
  pushed : Pushed (map wire_of l.links) (level_of l.visits) l.initial.amounts l.amounts l.width l.sent l.at l.sink;
  len : length l.amounts ≡ length l.links;
}

abbrev pub decreases-loop-k : goal.decreases-loop-k
decreases-loop-k l = level_of l.visits l.at
