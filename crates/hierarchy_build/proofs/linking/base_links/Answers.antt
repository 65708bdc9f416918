use Rattle.std.proofs.Common.{rules, ◌≡◌, ◌<◌, ℕ, ◌+◌, List, ◌++◌, length, map, sym, ◌∙◌, ap, subst, arith}
use Rattle.std.specs.List.{All, range_with_len}
use Rattle.std.proofs.lemmas.List.{length-map}
use Rattle.std.proofs.lemmas.List.FromFn.{length-range_with_len}
use Rattle.base_rows.specs.declared.lists.BaseLink.{BaseLink}
use Rattle.octree_layers.specs.declared.numbering.Made.{Made}
use Rattle.hierarchy_build.specs.Links.{AreLayerLinks}
use Rattle.hierarchy_build.proofs.AllLinks.{AreLinks, base_linked, leasts_low, links_end, links_step, nodes_left, range_low, sound_layer}
use Rattle.hierarchy_build.proofs.linking.base_links.Goals as goal

pub loop-layer-init : goal.loop-layer-init
loop-layer-init c =
    let n : ℕ = length c.args.base.now.supervoxels in
    let e : c.in_ok-leads.leads.items ≡ range_with_len 0 n = c.in_ok-leads.ensures ∙ ap (λ (xs : List ℕ). range_with_len 0 (length xs)) c.ids_of.ensures in
    let m = length-range_with_len 0 n in
    let k = ap length e in
    record {
      leads = range_low n c.in_ok-leads.leads.items e;
      children = omega (arith, m, k);
      parents = omega arith;
      links = λ rest r. subst (λ (xs : List BaseLink). AreLinks n (range_with_len 0 n) 0 0 c.args.layers.now (xs ++ rest)) (sym c.new-links.ensures.items) (subst (λ xs. AreLinks n xs 0 0 c.args.layers.now rest) e r);
    }

pub layer_links-requires-clause-leads : goal.layer_links-requires-clause-leads
layer_links-requires-clause-leads c =
    let s = sound_layer c.requires.built.0 c.args.base.now c.args.layers.now c.loop-layer.layer-index c.layer-item.result c.requires.built.1 c.loop-layer-test.true c.layer-item.is in
    subst (λ n. All (λ p. p < n) c.deref.result.now) (sym s.count) (subst (All (λ p. p < length c.args.base.now.supervoxels)) (sym c.deref.ensures.value) c.loop-layer.invariant.leads)

pub layer_links-requires-clause-firsts : goal.layer_links-requires-clause-firsts
layer_links-requires-clause-firsts c =
    let s = sound_layer c.requires.built.0 c.args.base.now c.args.layers.now c.loop-layer.layer-index c.layer-item.result c.requires.built.1 c.loop-layer-test.true c.layer-item.is in
    subst (λ n. All (λ p. p < n) c.layer-item.result.firsts.items) (sym s.count) s.firsts

pub layer_links-requires-clause-made : goal.layer_links-requires-clause-made
layer_links-requires-clause-made c =
    let s = sound_layer c.requires.built.0 c.args.base.now c.args.layers.now c.loop-layer.layer-index c.layer-item.result c.requires.built.1 c.loop-layer-test.true c.layer-item.is in
    subst (λ n. All (λ m. m.least < n) c.layer-item.result.made.items) (sym s.count) s.made

pub layer_links-requires-clause-places : goal.layer_links-requires-clause-places
layer_links-requires-clause-places c =
    let s = sound_layer c.requires.built.0 c.args.base.now c.args.layers.now c.loop-layer.layer-index c.layer-item.result c.requires.built.1 c.loop-layer-test.true c.layer-item.is in
    let k = s.count in
    let few = c.requires.few in
    omega (arith, k, few)

pub layer_links-requires-clause-children : goal.layer_links-requires-clause-children
layer_links-requires-clause-children c =
    let i = c.loop-layer.invariant.children in
    let p = c.loop-layer.invariant.parents in
    let e = ap length c.deref.ensures.value in
    let few = c.requires.few in
    omega (arith, i, p, e, few)

pub layer_links-requires-clause-parents : goal.layer_links-requires-clause-parents
layer_links-requires-clause-parents c =
    let left = nodes_left c.args.base.now c.args.layers.now c.loop-layer.layer-index c.layer-item.result c.loop-layer-test.true c.layer-item.is in
    let p = c.loop-layer.invariant.parents in
    let few = c.requires.few in
    omega (arith, left, p, few)

pub overflow_add-first_child : goal.overflow_add-first_child
overflow_add-first_child c =
    let p = c.loop-layer.invariant.parents in
    let count = ap length c.ids_of.ensures in
    let few = c.requires.few in
    omega (arith, p, count, few)

pub loop-layer-preserved : goal.loop-layer-preserved
loop-layer-preserved c =
    let n : ℕ = length c.args.base.now.supervoxels in
    let i = c.loop-layer.invariant in
    let l = c.layer-item.result in
    let s = sound_layer c.requires.built.0 c.args.base.now c.args.layers.now c.loop-layer.layer-index l c.requires.built.1 c.loop-layer-test.true c.layer-item.is in
    let count : length c.ids_of.result.now ≡ n = ap length c.ids_of.ensures in
    let leads : c.in_ok-leads-2.leads.items ≡ map (λ (m : Made). m.least) l.made.items = c.in_ok-leads-2.ensures ∙ ap (map (λ (m : Made). m.least)) c.deref-in-loop-layer-2.ensures.value in
    let many : length c.in_ok-leads-2.leads.items ≡ length l.made.items = ap length leads ∙ length-map l.made.items (λ (m : Made). m.least) in
    let left = nodes_left c.args.base.now c.args.layers.now c.loop-layer.layer-index l c.loop-layer-test.true c.layer-item.is in
    let made : c.len.result ≡ length l.made.items = search rules in
    let parents = i.parents in
    record {
      leads = leasts_low n l c.in_ok-leads-2.leads.items s leads;
      children = omega (arith, count, many, made);
      parents = omega (arith, parents, left, made);
      links = links_step n c.loop-layer.leads.items c.in_ok-leads-2.leads.items c.loop-layer.first_child _ c.loop-layer.first_parent _ c.args.layers.now c.loop-layer.layer-index l (range_with_len 0 n)
          c.loop-layer.links.items c.in_ok-more.more.items c.append.new.list.items c.loop-layer-test.true c.layer-item.is
          (subst (λ (xs : List ℕ). AreLayerLinks c.loop-layer.first_child c.loop-layer.first_parent xs l c.in_ok-more.more.items) c.deref.ensures.value c.in_ok-more.ensures)
          leads (ap (λ k. k + c.loop-layer.first_parent) count) (ap (λ k. c.loop-layer.first_parent + k) made)
          (c.in_ok-append.ensures ∙ ap (λ (xs : List BaseLink). c.loop-layer.links.items ++ xs) c.deref-in-loop-layer.ensures.value) i.links;
    }

pub returns-clause-links : goal.returns-clause-links
returns-clause-links c d now built =
    (base_linked d c.args.base.now now c.args.layers.now c.loop-layer.links.items built
    (links_end (length c.args.base.now.supervoxels) c.loop-layer.leads.items c.loop-layer.first_child c.loop-layer.first_parent c.args.layers.now c.loop-layer.layer-index
    (range_with_len 0 (length c.args.base.now.supervoxels)) c.loop-layer.links.items c.loop-layer-test.false c.loop-layer.invariant.links)).0

pub returns-clause-within : goal.returns-clause-within
returns-clause-within c =
    (base_linked c.requires.built.0 c.args.base.now 0 c.args.layers.now c.loop-layer.links.items c.requires.built.1
    (links_end (length c.args.base.now.supervoxels) c.loop-layer.leads.items c.loop-layer.first_child c.loop-layer.first_parent c.args.layers.now c.loop-layer.layer-index
    (range_with_len 0 (length c.args.base.now.supervoxels)) c.loop-layer.links.items c.loop-layer-test.false c.loop-layer.invariant.links)).1
