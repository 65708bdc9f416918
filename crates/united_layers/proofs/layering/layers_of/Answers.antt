use Rattle.std.proofs.Common.{◌≡◌, ◌∙◌, ◌+◌, ◌-◌, ◌≤◌, List, map, ap, refl, subst, sym, arith}
use Rattle.chunk_geometry.proofs.LayerLemmas.{top_low}
use Rattle.op_model.specs.Chunks.{top}
use Rattle.op_model.specs.Operations.{ascending}
use Rattle.entry_parts.specs.declared.made.MadeNode.{MadeNode}
use Rattle.entry_layers.specs.Layering.{AreLayersTo}
use Rattle.entry_layers.proofs.AllLayers.{all_layers}
use Rattle.united_layers.specs.Layering.{IsUnitedList}
use Rattle.united_layers.proofs.Layered.{entry_list}
use Rattle.united_layers.proofs.layering.layers_of.Goals as goal

pub loop-layer-init : goal.loop-layer-init
loop-layer-init g c = record {
  same = c.child_guesses.ensures.same ∙ c.length-prefix.ensures.same;
  low = omega arith;
  made = λ b log e is. c.in_ok-below.ensures c.args.dataset.now b log e (g.W.Words.words c.args.w.now) c.args.ends.now c.args.joints.now c.begin-all.result is (c.begin-all.ensures c.args.dataset.now b log e);
}

pub next_layer-requires-clause-layer : goal.next_layer-requires-clause-layer
unfolding top
next_layer-requires-clause-layer g c =
    let t = c.loop-layer-test.true in
    let e = c.top_layer-layer-end.ensures.is in
    (c.loop-layer.invariant.low, omega (arith, t, e))

pub next_layer-requires-clause-made : goal.next_layer-requires-clause-made
next_layer-requires-clause-made g c =
    let r = c.requires.list in
    let i = c.loop-layer.invariant in (
      r.0,
      r.1,
      r.2,
      subst (λ w. IsUnitedList c.args.dataset.now r.0 r.1 r.2 (g.W.Words.words w) c.args.ids.now c.args.ends.now c.args.joints.now) (sym i.same) r.3,
      i.made r.0 r.1 r.2 r.3,
      c.length-prefix.ensures.is c.args.dataset.now r.0 r.1 r.3.image,
    )

pub loop-layer-preserved : goal.loop-layer-preserved
loop-layer-preserved g c =
    let i = c.loop-layer.invariant in
    let low : 2 ≤ c.loop-layer.layer = i.low in
    let under : c.loop-layer.layer - 1 ≡ c.loop-layer.layer + 1 - 2 = omega (arith, low) in
    record {
      same = c.next_layer.ensures.same ∙ i.same;
      low = omega (arith, low);
      made = λ b log e is.
          subst (λ k. AreLayersTo c.args.dataset.now b log e c.args.ids.now k c.next_layer.new.all c.in_ok-below-2.below) under
          (c.in_ok-below-2.ensures.made b log e (subst (λ w. IsUnitedList c.args.dataset.now b log e (g.W.Words.words w) c.args.ids.now c.args.ends.now c.args.joints.now) (sym i.same) is)
          (i.made b log e is) (c.length-prefix.ensures.is c.args.dataset.now b log is.image));
    }

pub returns-clause-layers : goal.returns-clause-layers
unfolding top
returns-clause-layers g c b log e is =
    let i = c.loop-layer.invariant in
    let low = i.low in
    let t = c.loop-layer-test.false in
    let m = c.top_layer-layer-end.ensures.is in
    let l = c.loop-layer.auto.layer-end in
    all_layers c.args.dataset.now b e (g.W.Words.words c.args.w.now) c.args.ids.now c.args.ends.now (top_low c.args.dataset.now.grid) log (c.loop-layer.layer - 2) c.loop-layer.all _ c.loop-layer.below
    (entry_list c.args.dataset.now b log e (g.W.Words.words c.args.w.now) c.args.ids.now c.args.ends.now c.args.joints.now is) (omega (arith, low, t, m, l)) (i.made b log e is)
    refl refl refl (c.in_ok-all.ensures ∙ ap (λ (ns : List MadeNode). ascending (map (λ (m : MadeNode). m.id) ns)) c.deref.ensures.value)
