use Rattle.std.proofs.Common.{◌∙◌, ◌++◌, append-nil, sym, ap, refl}
use Rattle.std.specs.List.{flat_map}
use Rattle.std.proofs.lemmas.List.{take_all}
use Rattle.record_rows.specs.LogRows.{rows_of}
use Rattle.parent_rows.proofs.ChainWalks.{image_kept}
use Rattle.united_layers.specs.Jointed.{place_joints}
use Rattle.united_layers.proofs.Gathering.{flat_more, node_at, place_is}
use Rattle.united_layers.proofs.reading.put_nodes.Goals as goal

pub loop-place-init : goal.loop-place-init
loop-place-init g c = record { same = refl; put = λ b log i are. sym (append-nil c.args.list.now.items) }

pub put_node-requires : goal.put_node-requires
put_node-requires g c =
    let r = c.requires.nodes in
    let d = c.args.dataset.now in
    let n = node_at d r.0 r.1 c.args.places.now c.loop-place.place c.index-places-place.result r.3 c.loop-place-test.true c.index-places-place.is in
    record { node = (r.0, r.1, n.0, image_kept g.W.Words.words d r.0 r.1 c.loop-place.invariant.same r.2, n.1) }

pub returns-in_err-put_node-clause-same : goal.returns-in_err-put_node-clause-same
returns-in_err-put_node-clause-same g c = c.in_err-put_node.ensures.same ∙ c.loop-place.invariant.same

pub loop-place-preserved : goal.loop-place-preserved
loop-place-preserved g c =
    let inv = c.loop-place.invariant in
    record {
      same = c.in_ok-put_node.ensures.same ∙ inv.same;
      put = λ b log i are.
          let d = c.args.dataset.now in
          let n = node_at d b log c.args.places.now c.loop-place.place c.index-places-place.result are c.loop-place-test.true c.index-places-place.is in
          flat_more (place_joints d (rows_of d b log)) c.args.places.now c.args.list.now.items c.loop-place.list.items _ c.loop-place.place c.index-places-place.result c.loop-place-test.true c.index-places-place.is (inv.put b log i are)
          (c.in_ok-put_node.ensures.put b log n.0 (image_kept g.W.Words.words d b log inv.same i) n.1
          ∙ ap (λ xs. c.loop-place.list.items ++ xs) (sym (place_is d (rows_of d b log) c.index-places-place.result n.0 n.1)));
    }

pub returns-clause-same : goal.returns-clause-same
returns-clause-same g c = c.loop-place.invariant.same

pub returns-clause-put : goal.returns-clause-put
returns-clause-put g c b log i are =
    c.loop-place.invariant.put b log i are
    ∙ ap (λ ps. c.args.list.now.items ++ flat_map (place_joints c.args.dataset.now (rows_of c.args.dataset.now b log)) ps) (take_all c.loop-place.place c.args.places.now c.loop-place-test.false)
