use Rattle.chain_ends.proofs.EndFacts.{versions_last, versions_none}
use Rattle.chain_ends.proofs.ends.versions_end.Goals as goal

pub returns-in_default-clause-end : goal.returns-in_default-clause-end
returns-in_default-clause-end g c = λ d b log id i h. versions_none d b log i.dataset i.base i.legal id c.args.spot (c.last_version.ensures.is d b log id i h) c.in_default.not-Some h

pub returns-clause-end : goal.returns-clause-end
returns-clause-end g c = λ d b log id i h. versions_last d b log id c.in-Some.link (c.last_version.ensures.is d b log id i h) c.in-Some.is
