use Rattle.std.proofs.Common.{◌∙◌, ◌&&◌, ◌==◌, ap₂}
use Rattle.std.specs.Prelude.{nat_lt}
use Rattle.op_model.specs.Refusals.{is_root_id}
use Rattle.parent_rows.proofs.ChainWalks.{image_kept}
use Rattle.timestamp_reader.proofs.answers.is_root_id.Goals as goal

pub returns-clause-is : goal.returns-clause-is
unfolding is_root_id
returns-clause-is g c d b log i =
    c.is_root.ensures
    ∙ ap₂ (λ p t. p.layer == t && p.x == 0 && p.y == 0 && p.z == 0 && nat_lt 0 p.segment) (c.parts_of.ensures.is d b log (image_kept g.W.Words.words d b log c.top_of-top.ensures.same i)) (c.top_of-top.ensures.is d b log i)
