use Rattle.std.proofs.Common.{◌≡◌, ◌-◌, ◌+◌, ◌*◌, cond, false, map, length, is_some}
use Rattle.flow_net.specs.Net.{wire_of}
use Rattle.graph_model.specs.Cuts.{weight, is_affinity}
use Rattle.graph_model.specs.Residual.{IsLast}
use Rattle.min_cut.specs.Tree.{visit_at}
use Rattle.min_cut.specs.Queue.{marked}
use Rattle.min_cut.specs.Flowing.{Flowing}
use Rattle.min_cut.proofs.phases.run_phases.Given as goal

abbrev pub invariant-loop-going : goal.invariant-loop-going
invariant-loop-going l = record {
  len : length l.visits ≡ length l.initial.visits;
  amounts : length l.amounts ≡ length l.links;
  room : length l.queue ≡ length l.initial.visits;
  alive : length l.alive ≡ length l.initial.visits;
  cursors : length l.cursors ≡ length l.initial.visits;
  steps : length l.steps ≡ length l.initial.visits;
  flowing : Flowing (length l.initial.visits) (map wire_of l.links) l.sources (marked l.is_sink) l.amounts l.sent;
  last : l.going ≡ false → IsLast (map wire_of l.links) l.sources l.sinks l.amounts (λ v. is_some (visit_at l.visits v));
}

abbrev pub decreases-loop-going : goal.decreases-loop-going
decreases-loop-going l = (weight (map wire_of l.links) (is_affinity (map wire_of l.links)) - l.sent) * 2 + cond l.going 1 0
