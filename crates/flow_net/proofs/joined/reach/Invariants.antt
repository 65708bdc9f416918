use Rattle.std.proofs.Common.{◌≡◌, ℕ, ◌+◌, ◌-◌, ◌*◌, true, false, cond, length, get_or, map, count_by}
use Rattle.flow_net.specs.Net.{wire_of}
use Rattle.graph_model.specs.Lists.{has}
use Rattle.flow_net.specs.Marks.{MarksOnly, IsSwept, labels_a_source}
use Rattle.flow_net.proofs.joined.reach.Given as goal

abbrev pub invariant-loop-changed : goal.invariant-loop-changed
invariant-loop-changed l = record {
  len : length l.seen ≡ length l.initial.seen;
  own : (s : ℕ) → has l.sources s ≡ true → get_or l.seen s false ≡ true;
  sound : MarksOnly (map wire_of l.links) (has l.cut) (labels_a_source (map wire_of l.links) (has l.cut) l.sources) l.seen;
  swept : l.changed ≡ false → IsSwept (map wire_of l.links) (has l.cut) l.seen;
}

abbrev pub decreases-loop-changed : goal.decreases-loop-changed
decreases-loop-changed l = (length l.initial.seen - count_by (λ s. s) l.seen) * 2 + cond l.changed 1 0
