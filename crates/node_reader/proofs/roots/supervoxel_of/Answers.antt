use Rattle.std.proofs.Common.{◌∙◌, sym, subst, refl, arith}
use Rattle.std.specs.Option.{IsSome}
use Rattle.std.proofs.lemmas.Option.{same_Some}
use Rattle.record_rows.specs.Sorted.{FoundAmong, supervoxel_count}
use Rattle.record_rows.specs.Readings.{HoldsSupervoxel}
use Rattle.record_rows.proofs.BaseRows.{supervoxels_sorted, supervoxel_spot}
use Rattle.record_rows.proofs.ImageFacts.{header, within}
use Rattle.node_reader.proofs.roots.supervoxel_of.Goals as goal

pub supervoxel-requires-clause-header : goal.supervoxel-requires-clause-header
supervoxel-requires-clause-header g c =
    let r = c.requires.known in
    let w = within r.0 r.1 r.2 _ r.3 0 _ (header r.0 r.1 r.2 _ r.3) in
    omega (arith, w)

pub supervoxel-requires-clause-sorted : goal.supervoxel-requires-clause-sorted
supervoxel-requires-clause-sorted g c = let r = c.requires.known in supervoxels_sorted r.0 r.1 r.2 _ r.3

pub unwrap-requires : goal.unwrap-requires
unwrap-requires g c =
    let r = c.requires.known in
    subst IsSome (sym (supervoxel_spot r.0 r.1 r.2 _ r.3 c.args.sv r.4 _ (subst (λ v. FoundAmong (g.W.Words.words c.args.w.now) 1 (supervoxel_count (g.W.Words.words c.args.w.now)) v c.supervoxel.result) c.sv.view_is c.supervoxel.ensures.found)).1) refl

pub returns-clause-is : goal.returns-clause-is
returns-clause-is g c d b log image known =
    let s = supervoxel_spot d b log _ image c.args.sv known _ (subst (λ v. FoundAmong (g.W.Words.words c.args.w.now) 1 (supervoxel_count (g.W.Words.words c.args.w.now)) v c.supervoxel.result) c.sv.view_is c.supervoxel.ensures.found) in
    subst (λ p. HoldsSupervoxel d b log p c.args.sv) (same_Some _ _ (sym s.1 ∙ c.unwrap.ensures)) s.2
