use Rattle.std.proofs.Common.{◌∙◌}
use Rattle.record_rows.proofs.ImageFacts.{parent_image}
use Rattle.edge_rows.proofs.ChainFacts.{image_kept}
use Rattle.hierarchy_edit.proofs.standing.log_state.Goals as goal

pub unknown_count-unknown-requires : goal.unknown_count-unknown-requires
unknown_count-unknown-requires g c = let r = c.requires.image in record { image = (c.args.dataset.now, r.0, r.1, r.2) }

pub length-number-requires : goal.length-number-requires
length-number-requires g c =
    let r = c.requires.image in
    let d = c.args.dataset.now in
    record { image = (d, r.0, r.1, parent_image d r.0 r.1 _ (image_kept g.W.Words.words d r.0 r.1 c.unknown_count-unknown.ensures.same r.2)) }

pub last_time-last-requires : goal.last_time-last-requires
last_time-last-requires g c =
    let r = c.requires.image in
    let d = c.args.dataset.now in
    record { image = (d, r.0, r.1, image_kept g.W.Words.words d r.0 r.1 (c.length-number.ensures.same ∙ c.unknown_count-unknown.ensures.same) r.2) }

pub returns-clause-is : goal.returns-clause-is
returns-clause-is g c = λ b log i.
    let d = c.args.dataset.now in
    record {
      number = c.length-number.ensures.is d b log (parent_image d b log _ (image_kept g.W.Words.words d b log c.unknown_count-unknown.ensures.same i));
      last = c.last_time-last.ensures.is d b log (image_kept g.W.Words.words d b log (c.length-number.ensures.same ∙ c.unknown_count-unknown.ensures.same) i);
      left = c.spare_of-spare.ensures b log i;
      unknown = c.unknown_count-unknown.ensures.is d b log i;
    }
