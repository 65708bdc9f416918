use Rattle.std.proofs.Common.{◌≡◌, ◌<◌, ◌^◌, true, List, length, map, get_or, sym, ◌∙◌, ap, subst, refl, arith}
use Rattle.std.specs.List.{All}
use Rattle.graph_model.specs.Lists.{has}
use Rattle.octree_layers.specs.declared.numbering.Owner.{Owner}
use Rattle.op_model.specs.Labels.{node}
use Rattle.op_model.specs.Valid.{IsAscending}
use Rattle.op_model.specs.Ingest.{ingested}
use Rattle.octree_layers.specs.declared.numbering.Made.{Made}
use Rattle.octree_layers.specs.Numbers.{AreByChunk, IsOwn, OfSpent, node_of, numbered, overflow, told}
use Rattle.octree_layers.proofs.LayerNodes.{small_keys, few_keys, nodes_told, nodes_are, nodes_ids, ids_ascend, ids_rise, nodes_own, nodes_each, spent_is, labels_fit}
use Rattle.octree_layers.proofs.numbering.made_nodes.Goals as goal

pub owners-requires-clause-count : goal.owners-requires-clause-count
owners-requires-clause-count c = (c.requires.firsts 0).count

pub returns-in_default-clause-spent : goal.returns-in_default-clause-spent
unfolding OfSpent
returns-in_default-clause-spent c = tt

pub returns-in_default-by_chunk-clause-spent : goal.returns-in_default-by_chunk-clause-spent
unfolding OfSpent
returns-in_default-by_chunk-clause-spent c = tt

pub returns-in-Some-clause-spent : goal.returns-in-Some-clause-spent
unfolding OfSpent
returns-in-Some-clause-spent c = (
  refl,
  λ now.
      let by = subst (λ ns. AreByChunk ns c.in-Ok-by_chunk.list.items) c.in-Ok.ensures c.in-Ok-by_chunk.ensures in
      sym (spent_is c.args.dataset.now c.args.base.now c.requires.dataset c.requires.base now c.args.layer c.requires.layer.0 c.requires.layer.1 c.args.firsts.now (c.requires.firsts now) c.in-Ok-by_chunk.list.items by
      c.segments.result c.segments.ensures.range.0 c.segments.ensures.is)
      ∙ (ap (overflow c.segments.result 0 0) (sym c.deref.ensures.value) ∙ (sym c.overflow.ensures ∙ c.in-Some.is)),
)

pub numbered-requires-clause-small : goal.numbered-requires-clause-small
numbered-requires-clause-small c =
    let by = subst (λ ns. AreByChunk ns c.in-Ok-by_chunk.list.items) c.in-Ok.ensures c.in-Ok-by_chunk.ensures in
    subst (λ ks. All (λ (o : Owner). o.chunk < 2 ^ 62) ks) (sym c.deref-2.ensures.value)
    (small_keys c.args.dataset.now c.args.base.now c.requires.dataset c.requires.base 0 c.args.layer c.requires.layer.0 c.requires.layer.1 c.args.firsts.now (c.requires.firsts 0) c.in-Ok-by_chunk.list.items by)

pub numbered-requires-clause-size : goal.numbered-requires-clause-size
numbered-requires-clause-size c =
    let by = subst (λ ns. AreByChunk ns c.in-Ok-by_chunk.list.items) c.in-Ok.ensures c.in-Ok-by_chunk.ensures in
    let few = few_keys c.args.dataset.now c.args.base.now c.requires.dataset c.requires.base 0 c.args.layer c.requires.layer.0 c.requires.layer.1 c.args.firsts.now (c.requires.firsts 0) c.in-Ok-by_chunk.list.items by in
    let e : length c.deref-2.result.now ≡ length c.in-Ok-by_chunk.list.items = ap length c.deref-2.ensures.value in
    let size = c.requires.size in
    omega (arith, few, e, size)

pub returns-in-Ok-numbered-clause-made : goal.returns-in-Ok-numbered-clause-made
returns-in-Ok-numbered-clause-made c now =
    let by = subst (λ ns. AreByChunk ns c.in-Ok-by_chunk.list.items) c.in-Ok.ensures c.in-Ok-by_chunk.ensures in
    ap (map (told c.args.base.now)) (c.in-Ok-numbered.ensures ∙ ap (numbered 0 0) c.deref-2.ensures.value)
    ∙ nodes_told c.args.dataset.now c.args.base.now c.requires.dataset c.requires.base now c.args.layer c.requires.layer.0 c.requires.layer.1 c.args.firsts.now (c.requires.firsts now) c.in-Ok-by_chunk.list.items by

pub returns-in-Ok-numbered-clause-nodes : goal.returns-in-Ok-numbered-clause-nodes
returns-in-Ok-numbered-clause-nodes c now =
    let by = subst (λ ns. AreByChunk ns c.in-Ok-by_chunk.list.items) c.in-Ok.ensures c.in-Ok-by_chunk.ensures in
    ap (map (node_of c.args.base.now c.args.firsts.now)) (c.in-Ok-numbered.ensures ∙ ap (numbered 0 0) c.deref-2.ensures.value)
    ∙ nodes_are c.args.dataset.now c.args.base.now c.requires.dataset c.requires.base now c.args.layer c.requires.layer.0 c.requires.layer.1 c.args.firsts.now (c.requires.firsts now) c.in-Ok-by_chunk.list.items by

pub returns-in-Ok-numbered-clause-least : goal.returns-in-Ok-numbered-clause-least
returns-in-Ok-numbered-clause-least c =
    let by = subst (λ ns. AreByChunk ns c.in-Ok-by_chunk.list.items) c.in-Ok.ensures c.in-Ok-by_chunk.ensures in
    subst (λ (ms : List Made). All (λ m. IsOwn c.args.base.now c.args.firsts.now m.least) ms) (sym (c.in-Ok-numbered.ensures ∙ ap (numbered 0 0) c.deref-2.ensures.value))
    (nodes_own c.args.dataset.now c.args.base.now c.requires.dataset c.requires.base 0 c.args.layer c.requires.layer.0 c.requires.layer.1 c.args.firsts.now (c.requires.firsts 0) c.in-Ok-by_chunk.list.items by)

pub returns-in-Ok-numbered-clause-each : goal.returns-in-Ok-numbered-clause-each
returns-in-Ok-numbered-clause-each c i l =
    let by = subst (λ ns. AreByChunk ns c.in-Ok-by_chunk.list.items) c.in-Ok.ensures c.in-Ok-by_chunk.ensures in
    subst (λ (ms : List Made). has (map (λ m. m.least) ms) (get_or c.args.firsts.now i 0) ≡ true) (sym (c.in-Ok-numbered.ensures ∙ ap (numbered 0 0) c.deref-2.ensures.value))
    (nodes_each c.args.dataset.now c.args.base.now c.requires.dataset c.requires.base 0 c.args.layer c.requires.layer.0 c.requires.layer.1 c.args.firsts.now (c.requires.firsts 0) c.in-Ok-by_chunk.list.items by i l)

pub returns-in-Ok-numbered-clause-room : goal.returns-in-Ok-numbered-clause-room
returns-in-Ok-numbered-clause-room c now =
    let by = subst (λ ns. AreByChunk ns c.in-Ok-by_chunk.list.items) c.in-Ok.ensures c.in-Ok-by_chunk.ensures in
    sym (spent_is c.args.dataset.now c.args.base.now c.requires.dataset c.requires.base now c.args.layer c.requires.layer.0 c.requires.layer.1 c.args.firsts.now (c.requires.firsts now) c.in-Ok-by_chunk.list.items by
    c.segments.result c.segments.ensures.range.0 c.segments.ensures.is)
    ∙ (ap (overflow c.segments.result 0 0) (sym c.deref.ensures.value) ∙ (sym c.overflow.ensures ∙ c.in_default-overflow.is))

pub returns-in-Ok-numbered-clause-ids : goal.returns-in-Ok-numbered-clause-ids
returns-in-Ok-numbered-clause-ids c now =
    let by = subst (λ ns. AreByChunk ns c.in-Ok-by_chunk.list.items) c.in-Ok.ensures c.in-Ok-by_chunk.ensures in
    subst (λ (ms : List Made). All (λ m. m.id ≡ node c.args.dataset.now c.args.base.now (ingested c.args.dataset.now c.args.base.now now) c.args.layer (get_or c.args.base.now.supervoxels m.least 0)) ms)
    (sym (c.in-Ok-numbered.ensures ∙ ap (numbered 0 0) c.deref-2.ensures.value))
    (nodes_ids c.args.dataset.now c.args.base.now c.requires.dataset c.requires.base now c.args.layer c.requires.layer.0 c.requires.layer.1 c.args.firsts.now (c.requires.firsts now) c.in-Ok-by_chunk.list.items by)

pub returns-in-Ok-numbered-clause-ascending : goal.returns-in-Ok-numbered-clause-ascending
returns-in-Ok-numbered-clause-ascending c =
    let by = subst (λ ns. AreByChunk ns c.in-Ok-by_chunk.list.items) c.in-Ok.ensures c.in-Ok-by_chunk.ensures in
    subst (λ (ms : List Made). IsAscending (map (λ m. m.id) ms)) (sym (c.in-Ok-numbered.ensures ∙ ap (numbered 0 0) c.deref-2.ensures.value))
    (ids_rise (numbered 0 0 c.in-Ok-by_chunk.list.items) (ids_ascend c.args.dataset.now c.args.base.now c.requires.dataset c.requires.base 0 c.args.layer c.requires.layer.0 c.requires.layer.1 c.args.firsts.now (c.requires.firsts 0) c.in-Ok-by_chunk.list.items by (returns-in-Ok-numbered-clause-room c 0)))

pub returns-in-Ok-numbered-clause-fit : goal.returns-in-Ok-numbered-clause-fit
returns-in-Ok-numbered-clause-fit c now =
    labels_fit c.args.dataset.now c.args.base.now c.requires.dataset c.requires.base now c.args.layer c.requires.layer.0 c.requires.layer.1 c.args.firsts.now (c.requires.firsts now)
    (returns-in-Ok-numbered-clause-room c now)

pub returns-clause-spent : goal.returns-clause-spent
unfolding OfSpent
returns-clause-spent c = tt
