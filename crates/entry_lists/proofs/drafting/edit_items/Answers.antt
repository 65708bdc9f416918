use Rattle.entry_lists.proofs.ItemFacts.{redo_are, undo_are}
use Rattle.entry_lists.proofs.drafting.edit_items.Goals as goal

pub returns-in-Undo : goal.returns-in-Undo
returns-in-Undo c = λ n. undo_are n _ _ c.args.edit.now c.in-Undo.is c.new.ensures.items

pub returns-in-Redo : goal.returns-in-Redo
returns-in-Redo c = λ n. redo_are n _ _ c.args.edit.now c.in-Redo.is c.new-in-Redo.ensures.items
