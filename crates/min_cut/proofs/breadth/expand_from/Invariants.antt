use Rattle.std.proofs.Common.{◌≡◌, ℕ, ◌<◌, ◌≤◌, true, map, length, get_or, is_some}
use Rattle.flow_net.specs.Net.{wire_of}
use Rattle.min_cut.specs.Tree.{ArcOver, visit_at}
use Rattle.min_cut.specs.Queue.{Queues}
use Rattle.min_cut.proofs.breadth.expand_from.Given as goal

abbrev pub invariant-loop-i : goal.invariant-loop-i
invariant-loop-i l = record {
  len : length l.visits ≡ length l.initial.visits;
  room : length l.queue ≡ length l.initial.visits;
  queues : Queues (map wire_of l.links) l.amounts l.initial.visits l.visits l.initial.queue l.queue l.before l.tail l.level;
  closed : (j w : ℕ) → get_or l.starts l.from 0 ≤ j → j < l.i → ArcOver (map wire_of l.links) l.amounts (get_or l.arcs j 0) l.from w → is_some (visit_at l.visits w) ≡ true;
}
