use Rattle.std.proofs.Common.{◌∙◌, ◌||◌, eqb, ap}
use Rattle.parent_rows.proofs.ChainWalks.{image_kept}
use Rattle.root_masks.specs.Masks.{has_bit}
use Rattle.op_model.specs.Locks.{lock_of}
use Rattle.root_masks.proofs.masks.with_root.Goals as goal

pub root_now-root-requires : goal.root_now-root-requires
root_now-root-requires g c = record { known = c.requires.known }

pub lock_number-number-requires : goal.lock_number-number-requires
lock_number-number-requires g c = let r = c.requires.known in record { image = (r.0, r.1, r.2, image_kept g.W.Words.words r.0 r.1 r.2 c.root_now-root.ensures.same r.3) }

pub returns-clause-is : goal.returns-clause-is
returns-clause-is g c d b log image known l =
    c.with_lock.ensures l
    ∙ ap (λ n. has_bit c.args.mask l || eqb n l)
    (c.lock_number-number.ensures.is d b log (image_kept g.W.Words.words d b log c.root_now-root.ensures.same image) ∙ ap (lock_of d.layout) (c.root_now-root.ensures.is d b log image known))
