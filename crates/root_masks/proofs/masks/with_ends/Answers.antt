use Rattle.std.proofs.Common.{◌∙◌, ◌||◌, eqb, ap}
use Rattle.std.proofs.Math.Bool.{or_assoc}
use Rattle.parent_rows.proofs.ChainWalks.{image_kept}
use Rattle.op_model.specs.Labels.{root}
use Rattle.root_masks.specs.Masks.{has_bit}
use Rattle.op_model.specs.Locks.{lock_of}
use Rattle.root_masks.proofs.masks.with_ends.Goals as goal

pub with_root-one-requires : goal.with_root-one-requires
with_root-one-requires g c = let r = c.requires.known in record { known = (r.0, r.1, r.2, r.3, r.4.0) }

pub with_root-requires : goal.with_root-requires
with_root-requires g c = let r = c.requires.known in record { known = (r.0, r.1, r.2, image_kept g.W.Words.words r.0 r.1 r.2 c.with_root-one.ensures.same r.3, r.4.1) }

pub returns-clause-is : goal.returns-clause-is
returns-clause-is g c d b log image first second l =
    c.with_root.ensures.is d b log (image_kept g.W.Words.words d b log c.with_root-one.ensures.same image) second l
    ∙ (ap (λ t. t || eqb (lock_of d.layout (root d b log c.args.second)) l) (c.with_root-one.ensures.is d b log image first l) ∙ or_assoc (has_bit c.args.mask l) (eqb (lock_of d.layout (root d b log c.args.first)) l) (eqb (lock_of d.layout (root d b log c.args.second)) l))
