use Rattle.std.proofs.Common.{◌∙◌, sym, subst}
use Rattle.op_model.specs.Samples.{base, data_a}
use Rattle.record_rows.specs.Readings.{Image, ParentImage}
use Rattle.record_rows.proofs.ImageFacts.{parent_image}
use Rattle.record_rows.proofs.BaseRows.{supervoxels_sorted}
use Rattle.row_tests.proofs.KindFacts.{header_within}
use Rattle.row_tests.proofs.calls.places_of.Goals as goal

pub find-any-requires : goal.find-any-requires
find-any-requires c = let s = c.requires.sample in record { image = (data_a, base, s.log, parent_image data_a base s.log _ s.image) }

pub chunk-of_chunk-requires : goal.chunk-of_chunk-requires
chunk-of_chunk-requires c =
    let s = c.requires.sample in
    record { image = (data_a, base, s.log, subst (λ w. ParentImage data_a base s.log w.words) (sym c.find-any.ensures.same) (parent_image data_a base s.log _ s.image)) }

pub supervoxel-of_supervoxel-requires-clause-header : goal.supervoxel-of_supervoxel-requires-clause-header
supervoxel-of_supervoxel-requires-clause-header c =
    let s = c.requires.sample in
    header_within _ (record { log = s.log; image = subst (λ w. Image data_a base s.log w.words) (sym (c.chunk-of_chunk.ensures.same ∙ c.find-any.ensures.same)) s.image })

pub supervoxel-of_supervoxel-requires-clause-sorted : goal.supervoxel-of_supervoxel-requires-clause-sorted
supervoxel-of_supervoxel-requires-clause-sorted c =
    let s = c.requires.sample in
    supervoxels_sorted data_a base s.log _ (subst (λ w. ParentImage data_a base s.log w.words) (sym (c.chunk-of_chunk.ensures.same ∙ c.find-any.ensures.same)) (parent_image data_a base s.log _ s.image))
