use Rattle.core_tests.proofs.playing.one_step.Goals as goal

pub step-requires-clause-sound : goal.step-requires-clause-sound
step-requires-clause-sound c = c.requires.runs.sound
