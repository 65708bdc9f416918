use Rattle.std.proofs.Common.{sym, ◌∙◌, zero-le}
use Rattle.min_cut.proofs.Queued.{queue_room, queue_push, unvisited}
use Rattle.min_cut.proofs.breadth.begin_at.Goals as goal

pub bounds-queue-tail : goal.bounds-queue-tail
bounds-queue-tail c = queue_room c.args.visits.now c.args.queue.now c.args.tail c.args.s c.requires.queue c.requires.at (unvisited _ (sym c.is_some.ensures ∙ c.if-is_some.false)) c.requires.room

pub returns-clause-queue : goal.returns-clause-queue
returns-clause-queue c = queue_push c.args.visits.now c.args.queue.now c.args.tail c.args.s (record { level = 0; link = 0; width = 8589934592 }) c.requires.queue c.requires.at
    (unvisited _ (sym c.is_some.ensures ∙ c.if-is_some.false)) c.requires.room zero-le
