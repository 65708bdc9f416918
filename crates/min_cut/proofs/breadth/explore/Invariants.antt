use Rattle.std.proofs.Common.{◌≡◌, ℕ, ◌<◌, ◌≤◌, ◌-◌, false, map, length, get_or}
use Rattle.flow_net.specs.Net.{wire_of}
use Rattle.min_cut.specs.Tree.{IsTree}
use Rattle.min_cut.specs.Queue.{IsQueue, marked}
use Rattle.min_cut.proofs.Queued.{Done}
use Rattle.min_cut.proofs.breadth.explore.Given as goal

abbrev pub invariant-loop-head : goal.invariant-loop-head
invariant-loop-head l = record {
  len : length l.visits ≡ length l.initial.visits;
  room : length l.queue ≡ length l.visits;
  tree : IsTree (map wire_of l.links) l.sources l.amounts l.visits;
  holds : IsQueue l.visits l.queue l.tail;
  order : l.head ≤ l.tail;
  past : (l.head ≤ l.plain) × (l.plain ≤ l.tail);
  none : (i : ℕ) → i < l.plain → marked l.is_sink (get_or l.queue i 0) ≡ false;
  done : Done (map wire_of l.links) l.amounts l.is_sink l.visits l.queue l.head;
}

abbrev pub decreases-loop-head : goal.decreases-loop-head
decreases-loop-head l = length l.initial.visits - l.head
