use Rattle.std.proofs.Common.{subst}
use Rattle.record_rows.specs.Sorted.{FoundAmong, supervoxel_count}
use Rattle.record_rows.proofs.BaseRows.{supervoxels_sorted}
use Rattle.parent_rows.proofs.Sought.{header_within}
use Rattle.timestamp_reader.proofs.Refused.{supervoxel_sought}
use Rattle.timestamp_reader.proofs.answers.known.Goals as goal

pub supervoxel-requires-clause-header : goal.supervoxel-requires-clause-header
supervoxel-requires-clause-header g c = let r = c.requires.image in header_within r.0 r.1 r.2 _ r.3

pub supervoxel-requires-clause-sorted : goal.supervoxel-requires-clause-sorted
supervoxel-requires-clause-sorted g c = let r = c.requires.image in supervoxels_sorted r.0 r.1 r.2 _ r.3

pub returns-clause-is : goal.returns-clause-is
returns-clause-is g c d b log i =
    supervoxel_sought d b log _ i c.args.sv c.supervoxel.result
    (subst (λ v. FoundAmong (g.W.Words.words c.args.w.now) 1 (supervoxel_count (g.W.Words.words c.args.w.now)) v c.supervoxel.result) c.sv.view_is c.supervoxel.ensures.found)
