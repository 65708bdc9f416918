use Rattle.std.proofs.Common.{◌∙◌, arith}
use Rattle.parent_rows.proofs.Told.{node_id, node_least, node_made}
use Rattle.parent_rows.proofs.ChainWalks.{image_kept}
use Rattle.parent_rows.proofs.nodes.node.Goals as goal

pub fixed-requires-clause-within : goal.fixed-requires-clause-within
fixed-requires-clause-within g c = let r = c.requires.node in (node_id r.0 r.1 r.2 _ r.4 c.args.spot r.3 r.5).0

pub fixed-requires-2-clause-within : goal.fixed-requires-2-clause-within
fixed-requires-2-clause-within g c = let r = c.requires.node in (node_least r.0 r.1 r.2 _ (image_kept g.W.Words.words r.0 r.1 r.2 c.fixed.ensures.same r.4) c.args.spot r.3 r.5).0

pub fixed-made-requires-clause-within : goal.fixed-made-requires-clause-within
fixed-made-requires-clause-within g c =
    let r = c.requires.node in (node_made r.0 r.1 r.2 _ (image_kept g.W.Words.words r.0 r.1 r.2 (c.fixed-2.ensures.same ∙ c.fixed.ensures.same) r.4) c.args.spot r.3 r.5).0.0

pub overflow_cast-made : goal.overflow_cast-made
overflow_cast-made g c =
    let r = c.requires.node in
    let t = node_made r.0 r.1 r.2 _ (image_kept g.W.Words.words r.0 r.1 r.2 (c.fixed-2.ensures.same ∙ c.fixed.ensures.same) r.4) c.args.spot r.3 r.5 in
    let is = c.fixed-made.ensures.is ∙ t.0.1 in
    let small = t.1 in
    omega arith

pub returns-clause-is : goal.returns-clause-is
returns-clause-is g c = λ d b log n i h. (
  c.fixed.ensures.is ∙ (node_id d b log _ i c.args.spot n h).1,
  c.fixed-2.ensures.is ∙ (node_least d b log _ (image_kept g.W.Words.words d b log c.fixed.ensures.same i) c.args.spot n h).1,
  c.fixed-made.ensures.is ∙ (node_made d b log _ (image_kept g.W.Words.words d b log (c.fixed-2.ensures.same ∙ c.fixed.ensures.same) i) c.args.spot n h).0.1,
)
