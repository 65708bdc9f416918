use Rattle.std.proofs.Common.{◌≡◌, ◌<◌, ◌^◌, ◌∙◌, true, length, map, sym, ap, subst, arith}
use Rattle.std.specs.List.{All}
use Rattle.graph_model.specs.Lists.{has}
use Rattle.op_model.specs.Operations.{ascending}
use Rattle.op_model.specs.Valid.{IsAscending}
use Rattle.record_rows.specs.LogRows.{chunks, rows_of}
use Rattle.record_rows.proofs.ImageFacts.{parent_image}
use Rattle.record_rows.proofs.ImageLemmas.{length-map}
use Rattle.row_append.specs.Ends.{NodesIn}
use Rattle.base_rows.specs.States.{AreTails}
use Rattle.entry_parts.specs.declared.made.MadeNode.{MadeNode}
use Rattle.entry_lists.specs.Parts.{base_node}
use Rattle.entry_lists.proofs.Ascents.{ascending_length, ascends}
use Rattle.entry_lists.proofs.NodeFacts.{chunks_known, chunks_stand, nodes_placed}
use Rattle.entry_lists.proofs.nodes.list_nodes.Goals as goal

pub chunk_ends-requires : goal.chunk_ends-requires
chunk_ends-requires g c =
    let r = c.requires.entry in
    let e = c.deref.ensures.value ∙ (c.ascending_ids-ids.ensures ∙ ap ascending c.in_ok-all.ensures) in
    record { chunks = (r.0, r.1, r.2, parent_image r.0 r.1 r.2 _ r.4.image, subst (λ xs. All (λ x. has (chunks r.0 r.1) x ≡ true) xs) (sym e) (chunks_stand r.0 r.1 r.4.image.dataset r.4.image.base r.2 r.3 c.args.nodes.now r.5)) }

pub nodes_at-requires-clause-ascending : goal.nodes_at-requires-clause-ascending
nodes_at-requires-clause-ascending g c = subst IsAscending (sym (c.deref-2.ensures.value ∙ (c.ascending_ids-ids.ensures ∙ ap ascending c.in_ok-all.ensures))) (ascends (map (λ (m : MadeNode). m.chunk) c.args.nodes.now))

pub nodes_at-requires-clause-size : goal.nodes_at-requires-clause-size
nodes_at-requires-clause-size g c =
    let few = c.requires.few in
    let a = ascending_length (map (λ (m : MadeNode). m.chunk) c.args.nodes.now) in
    let l = length-map (λ (m : MadeNode). m.chunk) c.args.nodes.now in
    subst (λ xs. length xs < 2 ^ 32) (sym (c.deref-2.ensures.value ∙ (c.ascending_ids-ids.ensures ∙ ap ascending c.in_ok-all.ensures))) (omega (arith, few, a, l))

pub nodes_at-requires-clause-known : goal.nodes_at-requires-clause-known
nodes_at-requires-clause-known g c =
    subst (λ xs. All (λ (m : MadeNode). has xs m.chunk ≡ true) c.args.nodes.now) (sym (c.deref-2.ensures.value ∙ (c.ascending_ids-ids.ensures ∙ ap ascending c.in_ok-all.ensures))) (chunks_known c.args.nodes.now)

pub returns-clause-listed : goal.returns-clause-listed
returns-clause-listed g c = λ d b log e i are.
    let q = c.deref.ensures.value ∙ (c.ascending_ids-ids.ensures ∙ ap ascending c.in_ok-all.ensures) in
    let r = c.deref-2.ensures.value ∙ (c.ascending_ids-ids.ensures ∙ ap ascending c.in_ok-all.ensures) in
    nodes_placed d b log e _ c.args.nodes.now _ _ i are
    (c.in_ok-placed.ensures ∙ ap (λ xs. map (base_node xs) c.args.nodes.now) r)
    (subst (λ xs. AreTails NodesIn xs (rows_of d b log) c.in_ok-ends.ends.items) q
    (c.in_ok-ends.ensures.ends d b log (parent_image d b log _ i.image) (subst (λ xs. All (λ x. has (chunks d b) x ≡ true) xs) (sym q) (chunks_stand d b i.image.dataset i.image.base log e c.args.nodes.now are))))
    c.in_ok-ends.ensures.pointers
