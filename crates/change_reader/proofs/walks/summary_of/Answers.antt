use Rattle.log_rows.proofs.EntryParts.{number_found}
use Rattle.change_reader.proofs.WalkSteps.{summary_by}
use Rattle.change_reader.proofs.walks.summary_of.Goals as goal

pub returns-clause-is : goal.returns-clause-is
returns-clause-is g c d b log e i h = summary_by c.args.n c.head-told.result e (number_found log c.args.n e h) (c.head-told.ensures.is d b log e i h)
