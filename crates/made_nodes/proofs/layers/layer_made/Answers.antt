use Rattle.std.proofs.Common.{◌<◌, ◌≤◌, length, map, sym, ◌∙◌, ap, subst}
use Rattle.std.specs.List.{All}
use Rattle.std.proofs.lemmas.List.Elements.{All-from_recursion, recursion_from_All}
use Rattle.op_model.specs.Labels.{used}
use Rattle.record_rows.proofs.DifferLemmas.{all_map}
use Rattle.layer_laws.specs.Building.{at}
use Rattle.entry_parts.specs.declared.made.MadeNode.{MadeNode}
use Rattle.entry_parts.specs.Made.{AreMadeIn}
use Rattle.made_nodes.specs.declared.owning.Owner.{Owner}
use Rattle.made_nodes.specs.Numbers.{AreByChunk, IsHeld, first_spent, numbered, owner}
use Rattle.made_nodes.proofs.Steps.{ids_above, leasts_are}
use Rattle.made_nodes.proofs.NewNodes.{ids_are, keys_held, keys_low, leasts_low, nodes_are, spent_is}
use Rattle.made_nodes.proofs.layers.layer_made.Goals as goal

pub owners-requires-clause-ids : goal.owners-requires-clause-ids
owners-requires-clause-ids g c =
    let t = c.requires.touched in
    ids_are c.args.dataset.now t.0 t.1 t.2 _ c.args.ids.now c.args.ends.now c.args.layer c.args.firsts.now t.3 c.requires.layer.0 c.requires.layer.1

pub owners-requires-clause-leasts : goal.owners-requires-clause-leasts
owners-requires-clause-leasts g c =
    let t = c.requires.touched in
    subst (All (λ p. p < length c.args.ids.now)) (sym c.deref.ensures.value)
    (leasts_low c.args.dataset.now t.0 t.1 t.2 _ c.args.ids.now c.args.ends.now c.args.layer c.args.firsts.now t.3 c.requires.layer.0 c.requires.layer.1
    c.in_ok-list.list.items c.in_ok-list.ensures.ascending c.in_ok-list.ensures.same)

pub numbered-requires-clause-chunks : goal.numbered-requires-clause-chunks
numbered-requires-clause-chunks g c =
    let t = c.requires.touched in
    let by = subst (λ ns. AreByChunk ns c.in_ok-list-3.list.items) (c.in_ok-list-2.ensures ∙ ap (map (owner c.args.dataset.now c.args.ids.now c.args.layer)) c.deref.ensures.value) c.in_ok-list-3.ensures in
    let held = keys_held c.args.dataset.now t.0 t.1 t.2 _ c.args.ids.now c.args.ends.now c.args.layer c.args.firsts.now t.3 c.requires.layer.0 c.requires.layer.1
    c.in_ok-list.list.items c.in_ok-list.ensures.ascending c.in_ok-list.ensures.same c.in_ok-list-3.list.items by in (
      c.args.dataset.now,
      t.0,
      t.1,
      c.args.layer,
      t.3.image,
      subst (λ os. All (λ (o : Owner). IsHeld c.args.dataset.now t.0 c.args.layer o.chunk) os) (sym c.deref-2.ensures.value) held,
    )

pub numbered-requires-clause-leasts : goal.numbered-requires-clause-leasts
numbered-requires-clause-leasts g c =
    let t = c.requires.touched in
    let by = subst (λ ns. AreByChunk ns c.in_ok-list-3.list.items) (c.in_ok-list-2.ensures ∙ ap (map (owner c.args.dataset.now c.args.ids.now c.args.layer)) c.deref.ensures.value) c.in_ok-list-3.ensures in
    subst (λ os. All (λ (o : Owner). o.least < length c.args.ids.now) os) (sym c.deref-2.ensures.value)
    (keys_low c.args.dataset.now t.0 t.1 t.2 _ c.args.ids.now c.args.ends.now c.args.layer c.args.firsts.now t.3 c.requires.layer.0 c.requires.layer.1
    c.in_ok-list.list.items c.in_ok-list.ensures.ascending c.in_ok-list.ensures.same c.in_ok-list-3.list.items by)

pub first_spent-spent-requires : goal.first_spent-spent-requires
first_spent-spent-requires g c =
    let t = c.requires.touched in
    let by = subst (λ ns. AreByChunk ns c.in_ok-list-3.list.items) (c.in_ok-list-2.ensures ∙ ap (map (owner c.args.dataset.now c.args.ids.now c.args.layer)) c.deref.ensures.value) c.in_ok-list-3.ensures in
    let held = keys_held c.args.dataset.now t.0 t.1 t.2 _ c.args.ids.now c.args.ends.now c.args.layer c.args.firsts.now t.3 c.requires.layer.0 c.requires.layer.1
    c.in_ok-list.list.items c.in_ok-list.ensures.ascending c.in_ok-list.ensures.same c.in_ok-list-3.list.items by in
    let e = c.in_ok-nodes.ensures.is c.args.dataset.now t.0 t.1 c.args.layer t.3.image (subst (λ os. All (λ (o : Owner). IsHeld c.args.dataset.now t.0 c.args.layer o.chunk) os) (sym c.deref-2.ensures.value) held) in
    record {
      ids =
          subst (λ ms. All (λ (m : MadeNode). m.chunk ≤ m.id) ms) (sym (c.deref-4.ensures.value ∙ e))
          (All-from_recursion (λ (m : MadeNode). m.chunk ≤ m.id) (numbered (used c.args.dataset.now t.0 t.1 c.args.layer) c.args.ids.now 0 0 c.deref-2.result.now)
          (ids_above (used c.args.dataset.now t.0 t.1 c.args.layer) c.args.ids.now 0 0 c.deref-2.result.now));
    }

pub returns-clause-nodes : goal.returns-clause-nodes
returns-clause-nodes g c b log e is =
    let by = subst (λ ns. AreByChunk ns c.in_ok-list-3.list.items) (c.in_ok-list-2.ensures ∙ ap (map (owner c.args.dataset.now c.args.ids.now c.args.layer)) c.deref.ensures.value) c.in_ok-list-3.ensures in
    let held = keys_held c.args.dataset.now b log e _ c.args.ids.now c.args.ends.now c.args.layer c.args.firsts.now is c.requires.layer.0 c.requires.layer.1
    c.in_ok-list.list.items c.in_ok-list.ensures.ascending c.in_ok-list.ensures.same c.in_ok-list-3.list.items by in
    let q = c.in_ok-nodes.ensures.is c.args.dataset.now b log c.args.layer is.image (subst (λ os. All (λ (o : Owner). IsHeld c.args.dataset.now b c.args.layer o.chunk) os) (sym c.deref-2.ensures.value) held) in
    subst (AreMadeIn c.args.dataset.now b log e c.args.layer) (sym (q ∙ ap (numbered (used c.args.dataset.now b log c.args.layer) c.args.ids.now 0 0) c.deref-2.ensures.value))
    (nodes_are c.args.dataset.now b log e _ c.args.ids.now c.args.ends.now c.args.layer c.args.firsts.now is c.requires.layer.0 c.requires.layer.1
    c.in_ok-list.list.items c.in_ok-list.ensures.ascending c.in_ok-list.ensures.same c.in_ok-list-3.list.items by)

pub returns-clause-leasts : goal.returns-clause-leasts
returns-clause-leasts g c =
    let t = c.requires.touched in
    let by = subst (λ ns. AreByChunk ns c.in_ok-list-3.list.items) (c.in_ok-list-2.ensures ∙ ap (map (owner c.args.dataset.now c.args.ids.now c.args.layer)) c.deref.ensures.value) c.in_ok-list-3.ensures in
    let held = keys_held c.args.dataset.now t.0 t.1 t.2 _ c.args.ids.now c.args.ends.now c.args.layer c.args.firsts.now t.3 c.requires.layer.0 c.requires.layer.1
    c.in_ok-list.list.items c.in_ok-list.ensures.ascending c.in_ok-list.ensures.same c.in_ok-list-3.list.items by in
    let q = c.in_ok-nodes.ensures.is c.args.dataset.now t.0 t.1 c.args.layer t.3.image (subst (λ os. All (λ (o : Owner). IsHeld c.args.dataset.now t.0 c.args.layer o.chunk) os) (sym c.deref-2.ensures.value) held) in
    ap (map (at c.args.ids.now)) (c.in_ok-leasts.ensures ∙ ap (map (λ (o : Owner). o.least)) c.deref-3.ensures.value)
    ∙ (leasts_are (used c.args.dataset.now t.0 t.1 c.args.layer) c.args.ids.now 0 0 c.in_ok-list-3.list.items
    ∙ sym (ap (map (λ (m : MadeNode). m.least)) (q ∙ ap (numbered (used c.args.dataset.now t.0 t.1 c.args.layer) c.args.ids.now 0 0) c.deref-2.ensures.value)))

pub returns-clause-places : goal.returns-clause-places
returns-clause-places g c =
    let t = c.requires.touched in
    let by = subst (λ ns. AreByChunk ns c.in_ok-list-3.list.items) (c.in_ok-list-2.ensures ∙ ap (map (owner c.args.dataset.now c.args.ids.now c.args.layer)) c.deref.ensures.value) c.in_ok-list-3.ensures in
    let low = keys_low c.args.dataset.now t.0 t.1 t.2 _ c.args.ids.now c.args.ends.now c.args.layer c.args.firsts.now t.3 c.requires.layer.0 c.requires.layer.1
    c.in_ok-list.list.items c.in_ok-list.ensures.ascending c.in_ok-list.ensures.same c.in_ok-list-3.list.items by in
    subst (All (λ p. p < length c.args.ids.now)) (sym (c.in_ok-leasts.ensures ∙ ap (map (λ (o : Owner). o.least)) c.deref-3.ensures.value))
    (All-from_recursion (λ p. p < length c.args.ids.now) (map (λ (o : Owner). o.least) c.in_ok-list-3.list.items)
    (all_map (λ (o : Owner). o.least) (λ p. p < length c.args.ids.now) c.in_ok-list-3.list.items
    (recursion_from_All (λ (o : Owner). o.least < length c.args.ids.now) c.in_ok-list-3.list.items low)))

pub returns-clause-spent : goal.returns-clause-spent
returns-clause-spent g c b log e is =
    let by = subst (λ ns. AreByChunk ns c.in_ok-list-3.list.items) (c.in_ok-list-2.ensures ∙ ap (map (owner c.args.dataset.now c.args.ids.now c.args.layer)) c.deref.ensures.value) c.in_ok-list-3.ensures in
    let held = keys_held c.args.dataset.now b log e _ c.args.ids.now c.args.ends.now c.args.layer c.args.firsts.now is c.requires.layer.0 c.requires.layer.1
    c.in_ok-list.list.items c.in_ok-list.ensures.ascending c.in_ok-list.ensures.same c.in_ok-list-3.list.items by in
    let q = c.in_ok-nodes.ensures.is c.args.dataset.now b log c.args.layer is.image (subst (λ os. All (λ (o : Owner). IsHeld c.args.dataset.now b c.args.layer o.chunk) os) (sym c.deref-2.ensures.value) held) in
    c.first_spent-spent.ensures
    ∙ (ap (first_spent c.segments.result) (c.deref-4.ensures.value ∙ (q ∙ ap (numbered (used c.args.dataset.now b log c.args.layer) c.args.ids.now 0 0) c.deref-2.ensures.value))
    ∙ spent_is c.args.dataset.now b log e _ c.args.ids.now c.args.ends.now c.args.layer c.args.firsts.now is c.requires.layer.0 c.requires.layer.1
    c.in_ok-list.list.items c.in_ok-list.ensures.ascending c.in_ok-list.ensures.same c.in_ok-list-3.list.items by c.segments.result c.segments.ensures.is)
