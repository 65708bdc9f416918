use Rattle.entry_tests.proofs.ServerFacts.{merge_planned, server_parents}
use Rattle.entry_tests.proofs.calls.merge_plan.Goals as goal

pub plan-requires-clause-image : goal.plan-requires-clause-image
plan-requires-clause-image c = server_parents _ _ _ c.requires.server

pub returns-clause-planned : goal.returns-clause-planned
returns-clause-planned c = merge_planned _ _ _ _ _ c.requires.server c.plan.ensures.is
