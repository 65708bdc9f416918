use Rattle.record_rows.specs.Rows.{HeaderRow}
use Rattle.record_rows.proofs.ImageFacts.{parent_image, header}
use Rattle.record_rows.proofs.BaseRows.{supervoxels_sorted}
use Rattle.edge_rows.proofs.ChainFacts.{reach}
use Rattle.edge_rows.proofs.finding.supervoxel_of.Goals as goal

pub supervoxel-requires-clause-header : goal.supervoxel-requires-clause-header
supervoxel-requires-clause-header g c = let (d, b, log, i) = c.requires.image in reach d b log _ i 0 (HeaderRow d _ _) (header d b log _ (parent_image d b log _ i))

pub supervoxel-requires-clause-sorted : goal.supervoxel-requires-clause-sorted
supervoxel-requires-clause-sorted g c = let (d, b, log, i) = c.requires.image in supervoxels_sorted d b log _ (parent_image d b log _ i)
