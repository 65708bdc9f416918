use Rattle.std.proofs.Common.{◌≡◌, ℕ, ◌<◌, length, None}
use Rattle.min_cut.specs.Tree.{visit_at}
use Rattle.min_cut.specs.Queue.{IsQueue}
use Rattle.min_cut.proofs.Levels.{StartedBelow}
use Rattle.min_cut.proofs.breadth.begin.Given as goal

abbrev pub invariant-loop-visit : goal.invariant-loop-visit
invariant-loop-visit l = (v : ℕ) → v < l.visit-index → visit_at l.visits v ≡ None

abbrev pub invariant-loop-s : goal.invariant-loop-s
invariant-loop-s l = record {
  len : length l.visits ≡ length l.initial.visits;
  room : length l.queue ≡ length l.visits;
  begun : StartedBelow l.sources l.visits l.s-index;
  holds : IsQueue l.visits l.queue l.tail;
}
