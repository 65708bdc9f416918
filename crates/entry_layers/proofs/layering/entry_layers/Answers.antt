use Rattle.std.proofs.Common.{◌≡◌, ◌∙◌, ◌+◌, ◌-◌, ◌≤◌, List, map, ap, refl, subst, sym, arith}
use Rattle.op_model.specs.Chunks.{top}
use Rattle.op_model.specs.Operations.{ascending}
use Rattle.entry_parts.specs.declared.made.MadeNode.{MadeNode}
use Rattle.entry_layers.specs.Layering.{AreFirstsBelow, AreLayersTo, IsEntryPart}
use Rattle.chunk_geometry.proofs.LayerLemmas.{top_low}
use Rattle.entry_layers.proofs.AllLayers.{all_layers}
use Rattle.entry_layers.proofs.Rounds.{part_list}
use Rattle.entry_layers.proofs.layering.entry_layers.Goals as goal

pub loop-layer-init : goal.loop-layer-init
loop-layer-init g c = record {
  same = c.length-prefix.ensures.same;
  low = omega arith;
  own = c.in_ok-below.ensures.own;
  made = λ b log e is. c.in_ok-below.ensures.are b log e (g.W.Words.words c.args.w.now) c.args.ends.now c.begin-all.result is (c.begin-all.ensures c.args.dataset.now b log e);
}

pub next_layer-requires-clause-layer : goal.next_layer-requires-clause-layer
unfolding top
next_layer-requires-clause-layer g c =
    let t = c.loop-layer-test.true in
    let e = c.top_layer-layer-end.ensures.is in
    (c.loop-layer.invariant.low, omega (arith, t, e))

pub next_layer-requires-clause-below : goal.next_layer-requires-clause-below
next_layer-requires-clause-below g c = c.loop-layer.invariant.own

pub next_layer-requires-clause-made : goal.next_layer-requires-clause-made
next_layer-requires-clause-made g c =
    let r = c.requires.part in
    let i = c.loop-layer.invariant in (
      r.0,
      r.1,
      r.2,
      subst (λ w. IsEntryPart c.args.dataset.now r.0 r.1 r.2 (g.W.Words.words w) c.args.part.now c.args.ends.now) (sym i.same) r.3,
      i.made r.0 r.1 r.2 r.3,
      c.length-prefix.ensures.is c.args.dataset.now r.0 r.1 r.3.image,
    )

pub loop-layer-preserved : goal.loop-layer-preserved
loop-layer-preserved g c =
    let i = c.loop-layer.invariant in
    let low : 2 ≤ c.loop-layer.layer = i.low in
    let same_layer : c.loop-layer.layer ≡ c.loop-layer.layer + 1 - 1 = omega (arith, low) in
    let under : c.loop-layer.layer - 1 ≡ c.loop-layer.layer + 1 - 2 = omega (arith, low) in
    record {
      same = c.next_layer.ensures.same ∙ i.same;
      low = omega (arith, low);
      own = subst (λ k. AreFirstsBelow c.args.dataset.now c.args.part.now k c.in_ok-below-2.below) same_layer c.in_ok-below-2.ensures.own;
      made = λ b log e is.
          subst (λ k. AreLayersTo c.args.dataset.now b log e c.args.part.now.supervoxels k c.next_layer.new.all c.in_ok-below-2.below) under
          (c.in_ok-below-2.ensures.made b log e (subst (λ w. IsEntryPart c.args.dataset.now b log e (g.W.Words.words w) c.args.part.now c.args.ends.now) (sym i.same) is)
          (i.made b log e is) (c.length-prefix.ensures.is c.args.dataset.now b log is.image));
    }

pub returns-clause-layers : goal.returns-clause-layers
unfolding top
returns-clause-layers g c b log e is =
    let i = c.loop-layer.invariant in
    let low = i.low in
    let t = c.loop-layer-test.false in
    let m = c.top_layer-layer-end.ensures.is in
    let l = c.loop-layer.auto.layer-end in
    all_layers c.args.dataset.now b e (g.W.Words.words c.args.w.now) c.args.part.now.supervoxels c.args.ends.now (top_low c.args.dataset.now.grid) log (c.loop-layer.layer - 2) c.loop-layer.all _ c.loop-layer.below
    (part_list c.args.dataset.now b log e (g.W.Words.words c.args.w.now) c.args.part.now c.args.ends.now is) (omega (arith, low, t, m, l)) (i.made b log e is)
    refl refl refl (c.in_ok-all.ensures ∙ ap (λ (ns : List MadeNode). ascending (map (λ (m : MadeNode). m.id) ns)) c.deref-2.ensures.value)
