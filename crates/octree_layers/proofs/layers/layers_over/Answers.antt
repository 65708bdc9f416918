use Rattle.std.proofs.Common.{◌≡◌, ◌≤◌, ◌-◌, ℕ, Some, None, [], ◌∷◌, length, length-append, sym, ◌∙◌, ap, subst, inl, inr, arith}
use Rattle.std.proofs.lemmas.Bool.{cases_lt}
use Rattle.op_model.specs.Chunks.{top}
use Rattle.op_model.specs.Ingest.{ingested, IsFirstSpent, spent_in}
use Rattle.layer_laws.specs.Building.{AreLeastLeaves}
use Rattle.octree_layers.specs.Numbers.{OfSpent, LabelsFitIn}
use Rattle.octree_layers.specs.Layers.{last_firsts}
use Rattle.octree_layers.proofs.AllLayers.{of_spent, layer_added, last_below, nodes_all, all_fit}
use Rattle.octree_layers.proofs.layers.layers_over.Goals as goal

pub next_layer-requires-clause-layer : goal.next_layer-requires-clause-layer
unfolding top
next_layer-requires-clause-layer c =
    let n = c.loop-layer.invariant.count in
    let t = c.loop-layer-test.true in
    let e = c.top_layer-layer-end.ensures.is in
    (omega (arith, n), omega (arith, t, e))

pub next_layer-requires-clause-below : goal.next_layer-requires-clause-below
next_layer-requires-clause-below c now =
    let d = c.args.dataset.now in
    let b = c.args.base.now in
    subst (λ ns. AreLeastLeaves d b (ingested d b now) (c.loop-layer.layer - 1) ns) (sym (c.last_firsts-below.ensures ∙ ap (last_firsts c.args.start.now) c.deref.ensures.value))
    (last_below d b (ingested d b now) c.requires.dataset c.requires.base c.loop-layer.layers.items c.loop-layer.layer c.args.start.now c.loop-layer.invariant.count (c.loop-layer.invariant.layers now) c.requires.start)

pub returns-in-Err-clause-spent : goal.returns-in-Err-clause-spent
unfolding top
returns-in-Err-clause-spent c =
    let d = c.args.dataset.now in
    let b = c.args.base.now in
    let i = c.loop-layer.invariant in
    let t = c.loop-layer-test.true in
    let n = i.count in
    let m = c.top_layer-layer-end.ensures.is in
    of_spent (λ at p. (at ≡ c.loop-layer.layer) × ((now : ℕ) → spent_in d b (ingested d b now) c.loop-layer.layer ≡ Some p)) (λ at p. (now : ℕ) → IsFirstSpent d b (ingested d b now) at p) c.in-Err.error
    (λ at p f now. record {
      within = subst (λ l. (2 ≤ l) × (l ≤ top d)) (sym f.0) (omega (arith, n), omega (arith, t, m));
      spent = subst (λ l. spent_in d b (ingested d b now) l ≡ Some p) (sym f.0) (f.1 now);
      before = λ l two less. i.room now l two (let e = f.0 in omega (arith, e, less));
    })
    c.in-Err.ensures.spent

pub returns-in_default-clause-spent : goal.returns-in_default-clause-spent
unfolding OfSpent
returns-in_default-clause-spent c = tt

pub loop-layer-preserved : goal.loop-layer-preserved
loop-layer-preserved c =
    let d = c.args.dataset.now in
    let b = c.args.base.now in
    let i = c.loop-layer.invariant in
    record {
      layers = λ now. layer_added d b (ingested d b now) c.loop-layer.layers.items c.push.new.self.items c.loop-layer.layer c.in-Ok.next i.count (i.layers now) (c.in-Ok.ensures.is now) c.in-Ok-push.ensures.items;
      count = let e = ap length c.in-Ok-push.ensures.items in let l = length-append c.loop-layer.layers.items (c.in-Ok.next ∷ []) in let n = i.count in omega (arith, e, l, n);
      room = λ now at two less. elim (cases_lt at c.loop-layer.layer) [ inl l ↦ i.room now at two l | inr m ↦ subst (λ l. spent_in d b (ingested d b now) l ≡ None) (let e : c.loop-layer.layer ≡ at = omega arith in e) (c.in-Ok.ensures.room now) ];
      fit = λ now at two less. elim (cases_lt at c.loop-layer.layer) [ inl l ↦ i.fit now at two l | inr m ↦ subst (λ l. LabelsFitIn d b (ingested d b now) l) (let e : c.loop-layer.layer ≡ at = omega arith in e) (c.in-Ok.ensures.fit now) ];
    }

pub returns-clause-count : goal.returns-clause-count
unfolding top
returns-clause-count c =
    let n = c.loop-layer.invariant.count in
    let t = c.loop-layer-test.false in
    let e = c.top_layer-layer-end.ensures.is in
    let l = c.loop-layer.auto.layer-end in
    omega (arith, n, t, e, l)

pub returns-clause-nodes : goal.returns-clause-nodes
returns-clause-nodes c now =
    nodes_all c.args.dataset.now c.args.base.now (ingested c.args.dataset.now c.args.base.now now) c.loop-layer.layers.items (returns-clause-count c) (c.loop-layer.invariant.layers now)

pub returns-clause-fit : goal.returns-clause-fit
unfolding top
returns-clause-fit c now =
    let t = c.loop-layer-test.false in
    let e = c.top_layer-layer-end.ensures.is in
    let l = c.loop-layer.auto.layer-end in
    all_fit c.args.dataset.now c.args.base.now (ingested c.args.dataset.now c.args.base.now now) c.loop-layer.layer (omega (arith, t, e, l)) (c.loop-layer.invariant.fit now)

pub returns-clause-room : goal.returns-clause-room
unfolding top
returns-clause-room c now at low high =
    let t = c.loop-layer-test.false in
    let e = c.top_layer-layer-end.ensures.is in
    let l = c.loop-layer.auto.layer-end in
    c.loop-layer.invariant.room now at low (omega (arith, t, e, l, high))
