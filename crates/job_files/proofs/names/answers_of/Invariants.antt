use Rattle.std.proofs.Common.{◌≡◌, map, take}
use Rattle.pcg_words.specs.Job.{answer_file}
use Rattle.job_files.proofs.names.answers_of.Given as goal

abbrev pub invariant-loop-stem : goal.invariant-loop-stem
invariant-loop-stem l = l.names.items ≡ map answer_file (take l.stem-index l.stems)
