use Rattle.entry_tests.proofs.ServerFacts.{built_server}
use Rattle.entry_tests.proofs.calls.built.Goals as goal

pub returns : goal.returns
returns c = record { server = built_server _ _ _ _ c.build.ensures.image c.build.ensures.room }
