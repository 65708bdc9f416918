use Rattle.std.proofs.Common.{◌≡◌, ◌<◌, ℕ, true}
use Rattle.graph_model.specs.Lists.{has}
use Rattle.root_masks.specs.Masks.{has_bit}
use Rattle.edit_desk.proofs.pinning.all_held.Given as goal

abbrev pub invariant-loop-number : goal.invariant-loop-number
invariant-loop-number l = (k : ℕ) → k < l.number → has_bit l.needed k ≡ true → has l.pass.view.held k ≡ true
