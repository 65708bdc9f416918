use Rattle.std.proofs.Common.{◌≡◌, ◌+◌, ◌≤◌, take, length}
use Rattle.shared_rows.proofs.pass.Rows.copy_image.Given as goal

abbrev pub invariant-loop-k : goal.invariant-loop-k
invariant-loop-k l = (l.pass ≡ l.initial.pass) × (l.into.words ≡ take l.k l.initial.pass.view.image) × (l.k + l.into.spare ≡ l.initial.into.spare) × (l.k ≤ length l.initial.pass.view.image)
