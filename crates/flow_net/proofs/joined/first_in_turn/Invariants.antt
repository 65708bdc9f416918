use Rattle.std.proofs.Common.{◌≡◌, ℕ, ◌<◌, false, length, get_or, map, is_some}
use Rattle.flow_net.specs.Net.{wire_of}
use Rattle.graph_model.specs.Lists.{has}
use Rattle.graph_model.specs.Cuts.{first_sink}
use Rattle.flow_net.proofs.joined.first_in_turn.Given as goal

abbrev pub invariant-loop-s : goal.invariant-loop-s
invariant-loop-s l = record {
  len : length l.seen ≡ length l.initial.seen;
  none : (k : ℕ) → k < l.s-index → is_some (first_sink (map wire_of l.links) (has l.cut) l.sinks (get_or l.sources k 0)) ≡ false;
}
