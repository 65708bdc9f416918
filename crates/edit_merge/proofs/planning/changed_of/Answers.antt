use Rattle.std.proofs.Common.{◌∙◌, sym}
use Rattle.edit_merge.proofs.Merging.{merge_plan}
use Rattle.root_masks.proofs.Asked.{unplanned}
use Rattle.op_model.specs.declared.request.Edit.TheVariants.{Merge}
use Rattle.edit_merge.proofs.planning.changed_of.Goals as goal

pub returns-in-Some-clause-is : goal.returns-in-Some-clause-is
returns-in-Some-clause-is g c d b log i = unplanned d b log (Merge c.args.pairs.now) c.in-Some.refusal (sym (c.refusal_of.ensures.is d b log i) ∙ c.in-Some.is)

pub returns-in-Ok-clause-is : goal.returns-in-Ok-clause-is
returns-in-Ok-clause-is g c d b log i =
    merge_plan d b log c.args.pairs.now _ (sym c.in_default.is ∙ c.refusal_of.ensures.is d b log i) c.in-Ok.ensures
