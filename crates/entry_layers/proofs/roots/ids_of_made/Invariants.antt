use Rattle.std.proofs.Common.{◌≡◌, ◌-◌, drop, length, map}
use Rattle.op_model.specs.Operations.{ascending}
use Rattle.entry_layers.proofs.roots.ids_of_made.Given as goal

abbrev pub invariant-loop-done : goal.invariant-loop-done
invariant-loop-done l = l.list.items ≡ ascending (map (λ m. m.id) (drop (length l.nodes - l.done) l.nodes))
