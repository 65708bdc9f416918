use Rattle.bench_servers.proofs.ServerFacts.{merge_planned, server_parents}
use Rattle.bench_servers.proofs.edits.plan_of.Goals as goal

pub plan-requires-clause-image : goal.plan-requires-clause-image
plan-requires-clause-image c = server_parents _ _ _ c.requires.server

pub returns-in-Merge-clause-planned : goal.returns-in-Merge-clause-planned
returns-in-Merge-clause-planned c = merge_planned _ _ _ _ _ c.requires.server c.plan.ensures.is
