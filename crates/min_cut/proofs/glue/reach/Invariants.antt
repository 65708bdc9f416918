use Rattle.std.proofs.Common.{◌≡◌, ℕ, ◌≤◌, ◌-◌, true, map, length, is_some}
use Rattle.flow_net.specs.Net.{wire_of}
use Rattle.graph_model.specs.Lists.{has}
use Rattle.graph_model.specs.Cuts.{label, is_affinity}
use Rattle.min_cut.specs.Tree.{visit_at}
use Rattle.min_cut.specs.Queue.{IsQueue}
use Rattle.min_cut.specs.Gluing.{OnlyLabel}
use Rattle.min_cut.proofs.Reaching.{Spread}
use Rattle.min_cut.proofs.glue.reach.Given as goal

abbrev pub invariant-loop-head : goal.invariant-loop-head
invariant-loop-head l = record {
  len : length l.visits ≡ length l.initial.visits;
  room : length l.queue ≡ length l.visits;
  holds : IsQueue l.visits l.queue l.tail;
  order : l.head ≤ l.tail;
  each : (v : ℕ) → has l.sources v ≡ true → is_some (visit_at l.visits v) ≡ true;
  sound : (r : ℕ) → ((s : ℕ) → has l.sources s ≡ true → label (map wire_of l.links) (is_affinity (map wire_of l.links)) (length l.links) s ≡ r) → OnlyLabel (map wire_of l.links) r l.visits;
  spread : Spread (map wire_of l.links) l.visits l.queue l.head;
}

abbrev pub decreases-loop-head : goal.decreases-loop-head
decreases-loop-head l = length l.initial.visits - l.head
