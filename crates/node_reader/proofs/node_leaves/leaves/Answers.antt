use Rattle.std.proofs.Common.{◌∙◌, ◌<◌, ◌++◌, ◌∷◌, [], ap, sym, subst, refl}
use Rattle.record_rows.specs.LogRows.{rows_of}
use Rattle.parent_rows.proofs.ChainWalks.{image_kept}
use Rattle.node_reader.specs.Spreads.{weights}
use Rattle.node_reader.proofs.LeafMeaning.{opened}
use Rattle.node_reader.proofs.LeafParts.{sorted_again}
use Rattle.node_reader.proofs.LeafWalks.{nodes_put, nodes_taken, node_opened, spread_starts, spread_ends}
use Rattle.node_reader.proofs.node_leaves.leaves.Goals as goal

pub loop-spot-init : goal.loop-spot-init
loop-spot-init g c = record {
  same = refl;
  nodes = λ d b log n i h. nodes_put d b log [] c.args.node n h tt (c.in_ok-put_spot.ensures ∙ ap (λ xs. xs ++ c.args.node ∷ []) c.new-waiting.ensures.items);
  leaves = λ d b log n i h. spread_starts (rows_of d b log) c.args.node n h c.new-list.ensures.items c.new-waiting.ensures.items c.in_ok-put_spot.ensures;
}

pub open-requires : goal.open-requires
open-requires g c =
    let r = c.requires.node in
    let inv = c.loop-spot.invariant in
    let t = nodes_taken r.0 r.1 r.2 c.pop.new.self.items c.in-Some.spot c.in-Some.ensures.items (inv.nodes r.0 r.1 r.2 r.3 r.4 r.5) in
    record { node = (r.0, r.1, r.2, t.1.0, image_kept g.W.Words.words r.0 r.1 r.2 inv.same r.4, t.1.1) }

pub loop-spot-smaller : goal.loop-spot-smaller
loop-spot-smaller g c =
    let inv = c.loop-spot.invariant in
    subst (λ ps. weights (g.W.Words.words c.args.w.now) c.open.new.waiting.items < weights (g.W.Words.words c.args.w.now) ps) (sym c.in-Some.ensures.items)
    (subst (λ w. weights (g.W.Words.words w) c.open.new.waiting.items < weights (g.W.Words.words w) (c.pop.new.self.items ++ c.in-Some.spot ∷ [])) inv.same c.in_ok-open.ensures.fewer)

pub loop-spot-preserved : goal.loop-spot-preserved
loop-spot-preserved g c = record {
  same = c.in_ok-open.ensures.same ∙ c.loop-spot.invariant.same;
  nodes = λ d b log n i h.
      let inv = c.loop-spot.invariant in
      let t = nodes_taken d b log c.pop.new.self.items c.in-Some.spot c.in-Some.ensures.items (inv.nodes d b log n i h) in
      c.in_ok-open.ensures.nodes d b log t.1.0 (image_kept g.W.Words.words d b log inv.same i) t.1.1 t.0;
  leaves = λ d b log n i h.
      let inv = c.loop-spot.invariant in
      let t = nodes_taken d b log c.pop.new.self.items c.in-Some.spot c.in-Some.ensures.items (inv.nodes d b log n i h) in
      node_opened (rows_of d b log) n.leaves c.loop-spot.list.items c.pop.new.self.items c.in-Some.spot t.1.0 t.1.1 c.in-Some.ensures.items (inv.leaves d b log n i h)
      (c.in_ok-open.ensures.leaves d b log t.1.0 (image_kept g.W.Words.words d b log inv.same i) t.1.1);
}

pub returns-in_err-open-clause-same : goal.returns-in_err-open-clause-same
returns-in_err-open-clause-same g c = c.in_err-open.ensures.same ∙ c.loop-spot.invariant.same

pub returns-clause-same : goal.returns-clause-same
returns-clause-same g c = c.loop-spot.invariant.same

pub returns-clause-is : goal.returns-clause-is
returns-clause-is g c = λ d b log n i h.
    sorted_again n.leaves c.loop-spot.list.items c.sort_unstable.new.self.items (opened d b i.dataset i.base log i.legal c.args.node n h).ascending_leaves
    (spread_ends (rows_of d b log) n.leaves c.loop-spot.list.items c.loop-spot.waiting.items (sym c.loop-spot.waiting.ok.0 ∙ c.in_default.ensures.cases.0) (c.loop-spot.invariant.leaves d b log n i h)) c.sort_unstable.ensures.permutation c.sort_unstable.ensures.sorted
