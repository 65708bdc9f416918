use Rattle.std.proofs.Common.{◌≡◌, ◌≤◌, ◌-◌, map, length}
use Rattle.flow_net.specs.Net.{wire_of}
use Rattle.graph_model.specs.Cuts.{weight, is_affinity}
use Rattle.min_cut.specs.Queue.{marked}
use Rattle.min_cut.specs.Flowing.{Flowing}
use Rattle.min_cut.proofs.blocking.block_from.Given as goal

abbrev pub invariant-loop-found : goal.invariant-loop-found
invariant-loop-found l = record {
  flowing : Flowing (length l.visits) (map wire_of l.links) l.sources (marked l.is_sink) l.amounts l.sent;
  more : l.before ≤ l.sent;
  amounts : length l.amounts ≡ length l.links;
  alive : length l.alive ≡ length l.visits;
  cursors : length l.cursors ≡ length l.visits;
  steps : length l.steps ≡ length l.visits;
}

abbrev pub decreases-loop-found : goal.decreases-loop-found
decreases-loop-found l = weight (map wire_of l.links) (is_affinity (map wire_of l.links)) - l.sent
