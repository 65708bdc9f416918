use Rattle.std.proofs.Common.{◌≡◌, ◌-◌, true, length, map, get_or, sym, subst, arith}
use Rattle.op_model.specs.Ingest.{ingested}
use Rattle.layer_laws.specs.Building.{AreLeastLeaves}
use Rattle.std.specs.List.{All}
use Rattle.graph_model.specs.Lists.{has}
use Rattle.record_rows.specs.LogRows.{layer_nodes}
use Rattle.octree_layers.specs.declared.numbering.Made.{Made}
use Rattle.octree_layers.specs.Numbers.{IsOwn, OfSpent, node_of}
use Rattle.octree_layers.proofs.AllLayers.{edges_within, firsts_within}
use Rattle.octree_layers.proofs.layers.next_layer.Goals as goal

pub rise-requires-clause-within : goal.rise-requires-clause-within
rise-requires-clause-within c = edges_within c.args.dataset.now c.args.base.now c.requires.base c.args.edges.now (length c.args.below.now) c.requires.edges (c.requires.below 0).count

pub rise-requires-clause-firsts : goal.rise-requires-clause-firsts
rise-requires-clause-firsts c =
    firsts_within c.args.dataset.now c.args.base.now (ingested c.args.dataset.now c.args.base.now 0) (c.args.layer - 1) c.args.below.now (c.requires.below 0)

pub rise-requires-clause-size : goal.rise-requires-clause-size
rise-requires-clause-size c = let e = (c.requires.below 0).count in let s = c.requires.size in omega (arith, e, s)

pub returns-in_default-clause-spent : goal.returns-in_default-clause-spent
unfolding OfSpent
returns-in_default-clause-spent c = tt

pub made_nodes-requires-clause-firsts : goal.made_nodes-requires-clause-firsts
made_nodes-requires-clause-firsts c now =
    subst (λ ns. AreLeastLeaves c.args.dataset.now c.args.base.now (ingested c.args.dataset.now c.args.base.now now) c.args.layer ns) (sym c.deref.ensures.value)
    (c.in-Ok.ensures c.args.dataset.now c.args.base.now now c.requires.dataset c.requires.base c.requires.edges (c.requires.below now))

pub returns-in-Ok-made_nodes-clause-is : goal.returns-in-Ok-made_nodes-clause-is
returns-in-Ok-made_nodes-clause-is c now = record {
  firsts = c.in-Ok.ensures c.args.dataset.now c.args.base.now now c.requires.dataset c.requires.base c.requires.edges (c.requires.below now);
  made = c.in-Ok-made_nodes.ensures.made now;
  nodes = subst (λ ns. map (node_of c.args.base.now ns) c.in-Ok-made_nodes.made.items ≡ layer_nodes c.args.dataset.now c.args.base.now (ingested c.args.dataset.now c.args.base.now now) 0 c.args.layer) c.deref.ensures.value (c.in-Ok-made_nodes.ensures.nodes now);
  ids = c.in-Ok-made_nodes.ensures.ids now;
  ascending = c.in-Ok-made_nodes.ensures.ascending;
  least = subst (λ ns. All (λ (m : Made). IsOwn c.args.base.now ns m.least) c.in-Ok-made_nodes.made.items) c.deref.ensures.value c.in-Ok-made_nodes.ensures.least;
  each = λ i l. subst (λ ns. has (map (λ (m : Made). m.least) c.in-Ok-made_nodes.made.items) (get_or ns i 0) ≡ true) c.deref.ensures.value (c.in-Ok-made_nodes.ensures.each i l);
}
