use Rattle.std.proofs.Common.{◌++◌, map, ap}
use Rattle.op_model.specs.Operations.{opposite}
use Rattle.undo_redo.proofs.Walking.{opposite_more, opposite_end}
use Rattle.undo_redo.proofs.planning.opposites.Goals as goal

pub loop-done-init : goal.loop-done-init
loop-done-init c = ap (λ xs. xs ++ map opposite c.args.changes.now) c.new-list.ensures.items

pub loop-done-preserved : goal.loop-done-preserved
loop-done-preserved c =
    opposite_more c.args.changes.now c.loop-done.list.items _ c.loop-done.done c.index-changes-done.result c.opposite_of.result c.loop-done-test.true c.index-changes-done.is c.opposite_of.ensures c.in-Ok.ensures.items c.loop-done.invariant

pub returns : goal.returns
returns c = opposite_end c.args.changes.now c.loop-done.list.items c.loop-done.done c.loop-done-test.false c.loop-done.invariant
