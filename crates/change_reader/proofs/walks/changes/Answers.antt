use Rattle.op_model.specs.Transcript.{log_at}
use Rattle.change_reader.proofs.WalkSteps.{walk_answers}
use Rattle.change_reader.proofs.EntryPlaces.{prefix_legal}
use Rattle.change_reader.proofs.walks.changes.Goals as goal

pub returns-clause-is : goal.returns-clause-is
returns-clause-is g c d b log i m =
    walk_answers d b i.dataset i.base (log_at d b log c.args.prefix) c.args.root (prefix_legal d b log c.args.prefix i.legal m.low m.high) _ _ c.reverse.ensures.items (c.in_ok-list.ensures.is d b log i m)
