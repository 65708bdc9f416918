use Rattle.chain_ends.proofs.EndFacts.{changes_last, changes_none}
use Rattle.chain_ends.proofs.ends.changes_end.Goals as goal

pub returns-in_default-clause-end : goal.returns-in_default-clause-end
returns-in_default-clause-end g c = λ d b log made e i h. changes_none d b log i.legal c.args.edge made e (c.last_change.ensures.is d b log made e i h) c.in_default.not-Some h

pub returns-clause-end : goal.returns-clause-end
returns-clause-end g c = λ d b log made e i h. changes_last d b log e.pair c.in-Some.change (c.last_change.ensures.is d b log made e i h) c.in-Some.is
