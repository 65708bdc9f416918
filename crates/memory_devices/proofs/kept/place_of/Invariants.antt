use Rattle.std.proofs.Common.{◌≡◌, ◌+◌, ℕ, drop}
use Rattle.memory_devices.specs.Kept.{entry_of, FirstAt}
use Rattle.memory_devices.proofs.kept.place_of.Given as goal

abbrev pub invariant-loop-i : goal.invariant-loop-i
invariant-loop-i l = (entry_of l.name l.kept ≡ entry_of l.name (drop l.i l.kept)) × ((j : ℕ) → FirstAt l.name (drop l.i l.kept) j → FirstAt l.name l.kept (l.i + j))
