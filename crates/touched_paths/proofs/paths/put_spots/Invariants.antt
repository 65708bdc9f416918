use Rattle.std.proofs.Common.{◌≡◌, ◌++◌, take}
use Rattle.touched_paths.proofs.paths.put_spots.Given as goal

abbrev pub invariant-loop-place : goal.invariant-loop-place
invariant-loop-place l = l.list.items ≡ l.fn.list.items ++ take l.place l.more
