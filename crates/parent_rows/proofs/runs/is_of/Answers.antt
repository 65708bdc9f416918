use Rattle.std.proofs.Common.{◌∙◌, ◌+◌, ◌*◌, sym, ap, eqb-true, get_or}
use Rattle.record_rows.proofs.ImageFacts.{within}
use Rattle.parent_rows.proofs.ChainWalks.{image_kept}
use Rattle.parent_rows.proofs.Leaps.{node_of_chunk}
use Rattle.parent_rows.proofs.runs.is_of.Goals as goal

pub kind_of-requires : goal.kind_of-requires
kind_of-requires g c = let r = c.requires.«record» in record { within = within r.0 r.1 r.2 _ r.4 c.args.spot r.3 r.5 }

pub fixed-here-requires-clause-within : goal.fixed-here-requires-clause-within
fixed-here-requires-clause-within g c = let r = c.requires.«record» in within r.0 r.1 r.2 _ (image_kept g.W.Words.words r.0 r.1 r.2 c.kind_of.ensures.same r.4) c.args.spot r.3 r.5

pub returns-then-here-id-clause-is : goal.returns-then-here-id-clause-is
returns-then-here-id-clause-is g c = λ d b log row i h f e.
    node_of_chunk d b log _ i c.args.spot row c.fixed-here.result c.args.chunk c.args.id h
    (sym c.kind_of.ensures.is ∙ c.if-kind_of-ne4.false)
    (c.fixed-here.ensures.is ∙ ap (λ x. get_or (g.W.Words.words x) (8 * c.args.spot + 1) 0) c.kind_of.ensures.same)
    f c.if-here-id.true
    (sym c.chunk_by.ensures ∙ eqb-true c.chunk_by.result c.args.chunk e)
