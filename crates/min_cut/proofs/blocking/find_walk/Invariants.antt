use Rattle.std.proofs.Common.{◌≡◌, ◌+◌, ◌*◌, ◌-◌, ◌<◌, map, length, count_by}
use Rattle.flow_net.specs.Net.{wire_of}
use Rattle.min_cut.specs.Tree.{level_of}
use Rattle.min_cut.specs.Steps.{Climbs, AllAlive}
use Rattle.min_cut.proofs.blocking.find_walk.Given as goal

abbrev pub invariant-loop-at : goal.invariant-loop-at
invariant-loop-at l = record {
  climbs : Climbs (map wire_of l.links) l.amounts (level_of l.visits) l.steps l.source l.depth l.at;
  living : AllAlive l.alive l.steps l.depth l.at;
  below : l.at < length l.visits;
  alive : length l.alive ≡ length l.visits;
  cursors : length l.cursors ≡ length l.visits;
  steps : length l.steps ≡ length l.visits;
  low : l.depth < length l.visits;
}

abbrev pub decreases-loop-at : goal.decreases-loop-at
decreases-loop-at l = count_by (λ s. s) l.alive * (length l.visits + 1) + (length l.visits - l.depth)
