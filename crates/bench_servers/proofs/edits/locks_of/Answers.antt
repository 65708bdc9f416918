use Rattle.bench_servers.proofs.ServerFacts.{server_parents}
use Rattle.bench_servers.proofs.edits.locks_of.Goals as goal

pub locks-requires-clause-image : goal.locks-requires-clause-image
locks-requires-clause-image c = server_parents _ _ _ c.requires.server

pub locks-requires-in-Split-clause-image : goal.locks-requires-in-Split-clause-image
locks-requires-in-Split-clause-image c = server_parents _ _ _ c.requires.server
