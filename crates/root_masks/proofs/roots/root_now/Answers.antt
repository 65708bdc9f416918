use Rattle.std.proofs.Common.{◌∙◌, sym, subst, refl, ap, arith}
use Rattle.std.specs.Option.{IsSome}
use Rattle.std.proofs.lemmas.Option.{same_Some}
use Rattle.op_model.specs.Labels.{root}
use Rattle.record_rows.specs.Sorted.{FoundAmong, supervoxel_count}
use Rattle.record_rows.specs.Readings.{HoldsSupervoxel}
use Rattle.record_rows.proofs.BaseRows.{supervoxels_sorted, supervoxel_spot}
use Rattle.parent_rows.proofs.ChainWalks.{image_kept}
use Rattle.parent_rows.proofs.Sought.{header_within}
use Rattle.root_masks.proofs.Asked.{whole_log, some_entries}
use Rattle.root_masks.proofs.roots.root_now.Goals as goal

pub supervoxel-requires-clause-header : goal.supervoxel-requires-clause-header
supervoxel-requires-clause-header g c = let r = c.requires.known in header_within r.0 r.1 r.2 _ (image_kept g.W.Words.words r.0 r.1 r.2 c.length-count.ensures.same r.3)

pub supervoxel-requires-clause-sorted : goal.supervoxel-requires-clause-sorted
supervoxel-requires-clause-sorted g c = let r = c.requires.known in supervoxels_sorted r.0 r.1 r.2 _ (image_kept g.W.Words.words r.0 r.1 r.2 c.length-count.ensures.same r.3)

pub unwrap-spot-requires : goal.unwrap-spot-requires
unwrap-spot-requires g c =
    let r = c.requires.known in
    let i = image_kept g.W.Words.words r.0 r.1 r.2 c.length-count.ensures.same r.3 in
    subst IsSome (sym (supervoxel_spot r.0 r.1 r.2 _ i c.args.sv r.4 _ (subst (λ v. FoundAmong (g.W.Words.words c.length-count.new.w) 1 (supervoxel_count (g.W.Words.words c.length-count.new.w)) v c.supervoxel.result) c.sv.view_is c.supervoxel.ensures.found)).1) refl

pub root_at-requires : goal.root_at-requires
root_at-requires g c =
    let r = c.requires.known in
    let i = image_kept g.W.Words.words r.0 r.1 r.2 c.length-count.ensures.same r.3 in
    let s = supervoxel_spot r.0 r.1 r.2 _ i c.args.sv r.4 _ (subst (λ v. FoundAmong (g.W.Words.words c.length-count.new.w) 1 (supervoxel_count (g.W.Words.words c.length-count.new.w)) v c.supervoxel.result) c.sv.view_is c.supervoxel.ensures.found) in
    let n = c.length-count.ensures.is r.0 r.1 r.2 r.3 in
    let m = some_entries r.0 r.1 r.2 r.3.legal in
    record {
      supervoxel = (
        r.0,
        r.1,
        r.2,
        c.args.sv,
        image_kept g.W.Words.words r.0 r.1 r.2 c.supervoxel.ensures.same i,
        subst (λ p. HoldsSupervoxel r.0 r.1 r.2 p c.args.sv) (same_Some _ _ (sym s.1 ∙ c.unwrap-spot.ensures)) s.2,
        omega (arith, n, m),
        omega (arith, n),
      );
    }

pub returns-clause-is : goal.returns-clause-is
returns-clause-is g c d b log image known =
    let i = image_kept g.W.Words.words d b log c.length-count.ensures.same image in
    let s = supervoxel_spot d b log _ i c.args.sv known _ (subst (λ v. FoundAmong (g.W.Words.words c.length-count.new.w) 1 (supervoxel_count (g.W.Words.words c.length-count.new.w)) v c.supervoxel.result) c.sv.view_is c.supervoxel.ensures.found) in
    let n = c.length-count.ensures.is d b log image in
    c.root_at.ensures.is d b log c.args.sv
    (image_kept g.W.Words.words d b log c.supervoxel.ensures.same i)
    (subst (λ p. HoldsSupervoxel d b log p c.args.sv) (same_Some _ _ (sym s.1 ∙ c.unwrap-spot.ensures)) s.2)
    (omega (arith, n))
    ∙ ap (λ l. root d b l c.args.sv) (whole_log d b log c.length-count.result n)
