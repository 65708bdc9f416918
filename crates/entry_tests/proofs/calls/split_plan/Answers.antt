use Rattle.entry_tests.proofs.ServerFacts.{split_planned, server_image}
use Rattle.entry_tests.proofs.calls.split_plan.Goals as goal

pub plan-requires-clause-image : goal.plan-requires-clause-image
plan-requires-clause-image c = server_image _ _ _ c.requires.server

pub returns-clause-planned : goal.returns-clause-planned
returns-clause-planned c = split_planned _ _ _ _ _ c.requires.server c.plan.ensures.is
