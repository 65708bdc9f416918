use Rattle.std.proofs.Common.{◌∙◌, ap}
use Rattle.op_model.specs.Operations.{put_id}
use Rattle.change_reader.proofs.makers.one.Goals as goal

pub returns : goal.returns
unfolding put_id
returns c = c.in_ok-put_number.ensures ∙ ap (put_id c.args.made) c.new-list.ensures.items
