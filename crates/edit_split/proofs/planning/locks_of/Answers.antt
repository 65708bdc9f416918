use Rattle.std.proofs.Common.{◌≡◌, ◌∙◌, ◌||◌, eqb, get_or, sym, ap}
use Rattle.graph_model.proofs.ListLemmas.{any_default}
use Rattle.op_model.specs.Labels.{root}
use Rattle.op_model.specs.Locks.{lock_of}
use Rattle.parent_rows.proofs.ChainWalks.{image_kept}
use Rattle.root_masks.specs.Masks.{has_bit}
use Rattle.edit_split.proofs.Locked.{split_locks}
use Rattle.edit_split.proofs.Refused.{known_at, passes}
use Rattle.edit_split.proofs.planning.locks_of.Goals as goal

pub bounds-sources-0 : goal.bounds-sources-0
bounds-sources-0 g c =
    let (d, b, log, i) = c.requires.image in
    (passes d b log c.args.sources.now c.args.sinks.now (sym (c.refusal_of.ensures.is d b log i) ∙ c.in_default.is)).some_sources

pub with_root-requires : goal.with_root-requires
with_root-requires g c =
    let (d, b, log, i) = c.requires.image in
    let p = passes d b log c.args.sources.now c.args.sinks.now (sym (c.refusal_of.ensures.is d b log i) ∙ c.in_default.is) in
    record { known = (d, b, log, image_kept g.W.Words.words d b log c.refusal_of.ensures.same i, known_at b c.args.sources.now 0 c.index-sources-0.result p.known_sources p.some_sources c.index-sources-0.is) }

pub returns-clause-is : goal.returns-clause-is
returns-clause-is g c d b log i =
    let h = sym (c.refusal_of.ensures.is d b log i) ∙ c.in_default.is in
    let p = passes d b log c.args.sources.now c.args.sinks.now h in
    let k = known_at b c.args.sources.now 0 c.index-sources-0.result p.known_sources p.some_sources c.index-sources-0.is in
    let is = c.with_root.ensures.is d b log (image_kept g.W.Words.words d b log c.refusal_of.ensures.same i) k in
    let first : c.index-sources-0.result ≡ get_or c.args.sources.now 0 0 = c.index-sources-0.is ∙ any_default c.args.sources.now 0 c.index-sources-0.result 0 p.some_sources in
    split_locks d b log c.args.sources.now c.args.sinks.now c.with_root.result h
    (λ l. is l ∙ ap (λ v. has_bit 0 l || eqb (lock_of d.layout (root d b log v)) l) first)
