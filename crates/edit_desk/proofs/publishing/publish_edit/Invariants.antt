use Rattle.op_model.specs.Operations.{next_entry}
use Rattle.edit_desk.proofs.publishing.publish_edit.Given as goal

abbrev pub ghost-publish_by : goal.ghost-publish_by
ghost-publish_by g a = let v = a.pass.now.view in next_entry v.dataset v.base v.log v.number a._line a._at a._edit.now
