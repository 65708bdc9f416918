use Rattle.std.proofs.Common.{◌≡◌, ◌∙◌, get_or, sym, subst}
use Rattle.graph_model.proofs.ListLemmas.{any_default}
use Rattle.record_rows.specs.Readings.{Image}
use Rattle.record_rows.proofs.ImageFacts.{parent_image}
use Rattle.edit_split.specs.Components.{AreRootLeaves}
use Rattle.edit_split.proofs.Refused.{known_at, passes}
use Rattle.edit_split.proofs.cutting.cut_of.Goals as goal

pub bounds-sources-0 : goal.bounds-sources-0
bounds-sources-0 g c =
    let (d, b, log, i, h) = c.requires.early in
    (passes d b log c.args.sources.now c.args.sinks.now h).some_sources

pub leaves_with-requires : goal.leaves_with-requires
leaves_with-requires g c =
    let (d, b, log, i, h) = c.requires.early in
    let p = passes d b log c.args.sources.now c.args.sinks.now h in
    record { known = (d, b, log, parent_image d b log _ i, known_at b c.args.sources.now 0 c.index-sources-0.result p.known_sources p.some_sources c.index-sources-0.is) }

pub cut_among-requires : goal.cut_among-requires
cut_among-requires g c =
    let (d, b, log, i, h) = c.requires.early in
    let p = passes d b log c.args.sources.now c.args.sinks.now h in
    let k = known_at b c.args.sources.now 0 c.index-sources-0.result p.known_sources p.some_sources c.index-sources-0.is in
    let first : c.index-sources-0.result ≡ get_or c.args.sources.now 0 0 = c.index-sources-0.is ∙ any_default c.args.sources.now 0 c.index-sources-0.result 0 p.some_sources in
    let roots = subst (λ v. AreRootLeaves d b log v c.in-Ok.all) first (c.in-Ok.ensures.is d b log (parent_image d b log _ i) k) in
    record {
      early = (
        d,
        b,
        log,
        subst (λ w. Image d b log (g.W.Words.words w)) (sym c.in-Ok.ensures.same) i,
        (h, subst (AreRootLeaves d b log (get_or c.args.sources.now 0 0)) (sym (c.as_slice.ensures.value ∙ c.all.view_is)) roots),
      );
    }

pub returns-clause-is : goal.returns-clause-is
returns-clause-is g c d b log i h =
    let p = passes d b log c.args.sources.now c.args.sinks.now h in
    let k = known_at b c.args.sources.now 0 c.index-sources-0.result p.known_sources p.some_sources c.index-sources-0.is in
    let first : c.index-sources-0.result ≡ get_or c.args.sources.now 0 0 = c.index-sources-0.is ∙ any_default c.args.sources.now 0 c.index-sources-0.result 0 p.some_sources in
    let roots = subst (λ v. AreRootLeaves d b log v c.in-Ok.all) first (c.in-Ok.ensures.is d b log (parent_image d b log _ i) k) in
    c.cut_among.ensures.is d b log (subst (λ w. Image d b log (g.W.Words.words w)) (sym c.in-Ok.ensures.same) i) h
    (subst (AreRootLeaves d b log (get_or c.args.sources.now 0 0)) (sym (c.as_slice.ensures.value ∙ c.all.view_is)) roots)
