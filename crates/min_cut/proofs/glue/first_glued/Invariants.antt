use Rattle.std.proofs.Common.{◌≡◌, ℕ, ◌<◌, false, length, get_or, map, is_some}
use Rattle.flow_net.specs.Net.{wire_of}
use Rattle.graph_model.specs.Cuts.{first_sink, is_affinity}
use Rattle.min_cut.proofs.glue.first_glued.Given as goal

abbrev pub invariant-loop-s : goal.invariant-loop-s
invariant-loop-s l = record {
  len : length l.visits ≡ length l.initial.visits;
  room : length l.queue ≡ length l.visits;
  none : (k : ℕ) → k < l.s-index → is_some (first_sink (map wire_of l.links) (is_affinity (map wire_of l.links)) l.sinks (get_or l.sources k 0)) ≡ false;
}
