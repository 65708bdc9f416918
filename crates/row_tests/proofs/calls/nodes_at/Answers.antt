use Rattle.std.proofs.Common.{◌≡◌, ◌∙◌, length, sym, subst, arith}
use Rattle.op_model.specs.Samples.{base, data_a}
use Rattle.record_rows.specs.Readings.{Image, ParentImage}
use Rattle.record_rows.proofs.ImageFacts.{parent_image}
use Rattle.row_tests.specs.Kinds.{IsSample}
use Rattle.row_tests.proofs.KindFacts.{supervoxel_kind}
use Rattle.row_tests.proofs.calls.nodes_at.Goals as goal

pub length-count-requires : goal.length-count-requires
length-count-requires c = let s = c.requires.sample in record { image = (data_a, base, s.log, parent_image data_a base s.log _ s.image) }

pub path_at-path-requires : goal.path_at-path-requires
path_at-path-requires c =
    let s = c.requires.sample in
    let i = parent_image data_a base s.log _ s.image in
    let count : c.length-count.result ≡ length s.log = c.length-count.ensures.is data_a base s.log i in
    let then : IsSample c.length-count.new.w.words = record { log = s.log; image = subst (λ w. Image data_a base s.log w.words) (sym c.length-count.ensures.same) s.image } in
    let h = supervoxel_kind _ then c.args.place (c.is_kind.ensures.is c.if-is_kind.true) in
    let low = c.if-prefix-lt1.false in
    let high = c.if-count-prefix.false in
    record { supervoxel = (data_a, base, s.log, h.0, subst (λ w. ParentImage data_a base s.log w.words) (sym (c.is_kind.ensures.same ∙ c.length-count.ensures.same)) i, h.1, omega arith, omega arith) }

pub root_at-root-requires : goal.root_at-root-requires
root_at-root-requires c =
    let s = c.requires.sample in
    let i = parent_image data_a base s.log _ s.image in
    let count : c.length-count.result ≡ length s.log = c.length-count.ensures.is data_a base s.log i in
    let then : IsSample c.length-count.new.w.words = record { log = s.log; image = subst (λ w. Image data_a base s.log w.words) (sym c.length-count.ensures.same) s.image } in
    let h = supervoxel_kind _ then c.args.place (c.is_kind.ensures.is c.if-is_kind.true) in
    let low = c.if-prefix-lt1.false in
    let high = c.if-count-prefix.false in
    record { supervoxel = (data_a, base, s.log, h.0, subst (λ w. ParentImage data_a base s.log w.words) (sym (c.path_at-path.ensures.same ∙ (c.is_kind.ensures.same ∙ c.length-count.ensures.same))) i, h.1, omega arith, omega arith) }
