use Rattle.std.proofs.Common.{◌≡◌, ◌∙◌, ap, subst, map, List}
use Rattle.std.specs.Prelude.{IfOk}
use Rattle.op_model.specs.declared.entry.Changed.{Changed}
use Rattle.op_model.specs.Operations.{opposite}
use Rattle.log_rows.proofs.WalkBack.{entry_there}
use Rattle.undo_redo.proofs.Turning.{turned_off, turned_on}
use Rattle.undo_redo.proofs.planning.changes_of.Goals as goal

pub returns-then-not-back-clause-is : goal.returns-then-not-back-clause-is
returns-then-not-back-clause-is g c = λ d b log i low.
    let e = entry_there d b log c.args.n i.legal low in
    turned_off log c.args.n c.args.back e.0 c.in_ok-changes.changes c.if-not-back.true e.1 (c.in_ok-changes.ensures.is d b log e.0 i e.1)

pub returns-clause-is : goal.returns-clause-is
returns-clause-is g c = λ d b log i low.
    let e = entry_there d b log c.args.n i.legal low in
    subst (λ (xs : List Changed). IfOk c.opposites.result (λ cs. cs ≡ xs))
    (ap (map opposite) (c.as_slice.ensures.value ∙ c.changes.view_is) ∙ turned_on log c.args.n c.args.back e.0 c.in_ok-changes.changes c.if-not-back.false e.1 (c.in_ok-changes.ensures.is d b log e.0 i e.1))
    c.opposites.ensures
