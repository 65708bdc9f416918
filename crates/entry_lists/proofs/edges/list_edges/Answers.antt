use Rattle.std.proofs.Common.{◌≡◌, ◌<◌, ◌^◌, ◌∙◌, true, length, map, sym, ap, subst, arith}
use Rattle.std.specs.List.{All, flat_map}
use Rattle.graph_model.specs.Lists.{has}
use Rattle.op_model.specs.declared.entry.Changed.{Changed}
use Rattle.op_model.specs.Operations.{ascending}
use Rattle.op_model.specs.Valid.{IsAscending}
use Rattle.record_rows.specs.LogRows.{rows_of, unknown}
use Rattle.row_append.specs.Ends.{EdgesOf}
use Rattle.base_rows.specs.States.{AreTails}
use Rattle.edge_rows.proofs.ChainFacts.{image_kept}
use Rattle.entry_lists.specs.Parts.{HoldsEnds, base_edge, ends_of}
use Rattle.entry_lists.proofs.Ascents.{ascending_length, ascends}
use Rattle.entry_lists.proofs.EdgeFacts.{edges_placed, ends_known, ends_stand, ids, ids_few}
use Rattle.entry_lists.proofs.edges.list_edges.Goals as goal

pub edge_ends-requires : goal.edge_ends-requires
edge_ends-requires g c =
    let r = c.requires.entry in
    let qs = c.in_ok-pairs.ensures.are r.0 r.1 r.2 r.4.image ∙ ap (λ cs. map (λ (x : Changed). x.pair) (unknown r.0 r.1 r.2 cs)) (sym r.5) in
    let e = c.deref-2.ensures.value ∙ (c.ascending_ids-ids.ensures ∙ ap ascending (c.in_ok-all.ensures ∙ ap (flat_map ends_of) c.deref.ensures.value)) in
    record {
      supervoxels = (
        r.0,
        r.1,
        r.2,
        image_kept g.W.Words.words r.0 r.1 r.2 c.in_ok-pairs.ensures.same r.4.image,
        subst (λ xs. All (λ v. has r.1.supervoxels v ≡ true) xs) (sym (e ∙ ap ids qs)) (ends_stand r.0 r.1 r.4.image.base r.2 r.3 r.4.legal),
      );
    }

pub edges_at-requires-clause-ascending : goal.edges_at-requires-clause-ascending
edges_at-requires-clause-ascending g c =
    subst IsAscending (sym (c.deref-3.ensures.value ∙ c.ascending_ids-ids.ensures)) (ascends _)

pub edges_at-requires-clause-size : goal.edges_at-requires-clause-size
edges_at-requires-clause-size g c =
    let few = c.requires.few in
    let e = c.in_ok-all.ensures ∙ ap (flat_map ends_of) c.deref.ensures.value in
    let n = ids_few c.in_ok-pairs.pairs.items (length c.args.changed.now) c.in_ok-pairs.ensures.few in
    let a = ascending_length (flat_map ends_of c.in_ok-pairs.pairs.items) in
    subst (λ xs. length xs < 2 ^ 32) (sym (c.deref-3.ensures.value ∙ (c.ascending_ids-ids.ensures ∙ ap ascending e))) (omega (arith, few, n, a))

pub edges_at-requires-clause-known : goal.edges_at-requires-clause-known
edges_at-requires-clause-known g c =
    let e = c.deref-3.ensures.value ∙ (c.ascending_ids-ids.ensures ∙ ap ascending (c.in_ok-all.ensures ∙ ap (flat_map ends_of) c.deref.ensures.value)) in
    subst (λ ps. All (HoldsEnds c.deref-3.result.now) ps) (sym c.deref-4.ensures.value) (subst (λ xs. All (HoldsEnds xs) c.in_ok-pairs.pairs.items) (sym e) (ends_known c.in_ok-pairs.pairs.items))

pub returns-clause-listed : goal.returns-clause-listed
returns-clause-listed g c = λ d b log e i q a.
    let qs = c.in_ok-pairs.ensures.are d b log i.image ∙ ap (λ cs. map (λ (x : Changed). x.pair) (unknown d b log cs)) (sym q) in
    let u = c.deref-2.ensures.value ∙ (c.ascending_ids-ids.ensures ∙ ap ascending (c.in_ok-all.ensures ∙ ap (flat_map ends_of) c.deref.ensures.value)) in
    let v = c.deref-3.ensures.value ∙ (c.ascending_ids-ids.ensures ∙ ap ascending (c.in_ok-all.ensures ∙ ap (flat_map ends_of) c.deref.ensures.value)) in
    edges_placed d b log e _ i c.in_ok-pairs.pairs.items _ _ qs c.args.affinity a
    (c.in_ok-edges.ensures ∙ (ap (λ ps. map (base_edge c.args.affinity c.deref-3.result.now) ps) c.deref-4.ensures.value ∙ ap (λ xs. map (base_edge c.args.affinity xs) c.in_ok-pairs.pairs.items) v))
    (subst (λ xs. AreTails EdgesOf xs (rows_of d b log) c.in_ok-ends.ends.items) u
    (c.in_ok-ends.ensures.ends d b log (image_kept g.W.Words.words d b log c.in_ok-pairs.ensures.same i.image)
    (subst (λ xs. All (λ w. has b.supervoxels w ≡ true) xs) (sym (u ∙ ap ids qs)) (ends_stand d b i.image.base log e i.legal))))
    c.in_ok-ends.ensures.pointers
