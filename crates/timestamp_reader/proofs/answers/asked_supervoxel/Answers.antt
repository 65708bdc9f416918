use Rattle.std.proofs.Common.{◌≡◌, ◌∙◌, false, sym, subst}
use Rattle.std.specs.Prelude.{MatchOption}
use Rattle.graph_model.specs.Lists.{has}
use Rattle.record_rows.specs.Readings.{HoldsSupervoxel}
use Rattle.parent_rows.proofs.ChainWalks.{image_kept}
use Rattle.timestamp_reader.proofs.ReadPrefixes.{is_prefix, time_refused}
use Rattle.timestamp_reader.proofs.Refused.{supervoxel_asked, supervoxel_early, supervoxel_missing}
use Rattle.timestamp_reader.proofs.answers.asked_supervoxel.Goals as goal

pub returns-in-Err-clause-is : goal.returns-in-Err-clause-is
returns-in-Err-clause-is g c d b log i =
    supervoxel_early d b log c.args.sv c.args.at c.in-Err.refusal (time_refused log c.args.at c.in-Err.refusal (sym (c.prefix_of.ensures.is d b log i) ∙ c.in-Err.is))

pub returns-in-Some-clause-is : goal.returns-in-Some-clause-is
returns-in-Some-clause-is g c d b log i =
    let p = is_prefix d b log c.args.at c.in-Ok.prefix i.legal (sym (c.prefix_of.ensures.is d b log i) ∙ c.in-Ok.is) in
    supervoxel_asked d b log _ i c.args.sv c.args.at c.in-Some.spot c.in-Ok.prefix p
    (subst (λ o. MatchOption o (has b.supervoxels c.args.sv ≡ false) (λ p. HoldsSupervoxel d b log p c.args.sv)) c.in-Some.is (c.known.ensures.is d b log (image_kept g.W.Words.words d b log c.prefix_of.ensures.same i)))

pub returns-in-None-clause-is : goal.returns-in-None-clause-is
returns-in-None-clause-is g c d b log i =
    let p = is_prefix d b log c.args.at c.in-Ok.prefix i.legal (sym (c.prefix_of.ensures.is d b log i) ∙ c.in-Ok.is) in
    supervoxel_missing d b log c.args.sv c.args.at p.timely
    (subst (λ o. MatchOption o (has b.supervoxels c.args.sv ≡ false) (λ p. HoldsSupervoxel d b log p c.args.sv)) c.in-None.is (c.known.ensures.is d b log (image_kept g.W.Words.words d b log c.prefix_of.ensures.same i)))
