use Rattle.core_tests.proofs.playing.finish.Goals as goal

pub finish-requires-clause-sound : goal.finish-requires-clause-sound
finish-requires-clause-sound c = c.requires.runs.sound
