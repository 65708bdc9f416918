use Rattle.std.proofs.Common.{◌∙◌, sym}
use Rattle.hierarchy_edit.proofs.EntryFacts.{first_tells, none_unite}
use Rattle.hierarchy_edit.proofs.standing.is_uniting.Goals as goal

pub returns-then-is_empty : goal.returns-then-is_empty
returns-then-is_empty c = none_unite c.args.changed.now (sym c.is_empty.ensures ∙ c.if-is_empty.true)

pub returns : goal.returns
returns c = first_tells c.args.changed.now c.index-changed-0.result (sym c.is_empty.ensures ∙ c.if-is_empty.false)
