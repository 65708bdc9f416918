use Rattle.std.proofs.Common.{◌≡◌, map}
use Rattle.memory_devices.specs.Kept.{unopened_file}
use Rattle.memory_devices.proofs.kept.keep_all.Given as goal

abbrev pub invariant-loop-file : goal.invariant-loop-file
invariant-loop-file l = l.kept.items ≡ map unopened_file l.yielded
