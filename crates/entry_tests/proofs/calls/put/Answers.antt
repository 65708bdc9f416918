use Rattle.entry_tests.proofs.ServerFacts.{put_or_kept}
use Rattle.entry_tests.proofs.calls.put.Goals as goal

pub returns : goal.returns
returns c = record { server = put_or_kept _ _ _ _ _ _ c.requires.server c.requires.planned c.commit.ensures.image c.commit.ensures.kept c.commit.ensures.room }

pub commit-requires-clause-plan : goal.commit-requires-clause-plan
commit-requires-clause-plan c = let p = c.requires.planned in (p.b, p.log, p.image, p.legal)

pub commit-requires-clause-room : goal.commit-requires-clause-room
commit-requires-clause-room c = c.requires.server.room
