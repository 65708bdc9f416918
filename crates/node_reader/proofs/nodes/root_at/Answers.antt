use Rattle.std.proofs.Common.{◌≤◌, ◌∙◌, ◌≡◌, sym, subst, arith}
use Rattle.op_model.specs.Chunks.{top}
use Rattle.op_model.specs.Transcript.{log_at}
use Rattle.record_rows.specs.Readings.{ParentImage}
use Rattle.node_reader.specs.Readable.{IsBelow}
use Rattle.node_reader.proofs.Climbs.{start_at, next_at, end_at, below_layer, id_at_told}
use Rattle.record_rows.proofs.ImageFacts.{within}
use Rattle.node_reader.proofs.nodes.root_at.Goals as goal

pub loop-layer-init : goal.loop-layer-init
loop-layer-init g c = record {
  same = c.top_of-top.ensures.same;
  low = omega arith;
  high = (let r = c.top_of-top.ensures.range.0 in omega arith);
  at = λ d b log v i h m. start_at d b log (log_at d b log c.args.prefix) c.args.sv v h;
}

pub node_above-spot-requires : goal.node_above-spot-requires
node_above-spot-requires g c =
    let r = c.requires.supervoxel in
    let i = c.loop-layer.invariant in
    let t : c.top_of-top.result ≡ top r.0 = c.top_of-top.ensures.is r.0 r.1 r.2 r.4 in
    let l : c.loop-layer.layer ≤ c.top_of-top.result = c.loop-layer-test.true in
    record {
      below = (
        r.0,
        r.1,
        r.2,
        c.loop-layer.layer,
        r.3,
        subst (λ w. IsBelow r.0 r.1 r.2 (g.W.Words.words w) c.args.prefix c.loop-layer.layer r.3 c.loop-layer.spot) (sym i.same)
            (below_layer r.0 r.1 r.2 _ c.args.prefix c.loop-layer.layer r.3 c.args.sv c.loop-layer.spot r.4 r.5 r.6 r.7 i.low (omega arith) (i.at r.0 r.1 r.2 r.3 r.4 r.5 r.7)),
      );
    }

pub loop-layer-preserved : goal.loop-layer-preserved
loop-layer-preserved g c =
    let i = c.loop-layer.invariant in
    let l : c.loop-layer.layer ≤ c.top_of-top.result = c.loop-layer-test.true in
    record {
      same = c.node_above-spot.ensures.same ∙ i.same;
      low = (let q = i.low in omega arith);
      high = omega arith;
      at = λ d b log v image h m.
          let t : c.top_of-top.result ≡ top d = c.top_of-top.ensures.is d b log image in
          next_at d b log (log_at d b log c.args.prefix) c.node_above-spot.result c.loop-layer.layer v i.low
          (c.node_above-spot.ensures.is d b log c.loop-layer.layer v
          (subst (λ w. IsBelow d b log (g.W.Words.words w) c.args.prefix c.loop-layer.layer v c.loop-layer.spot) (sym i.same)
          (below_layer d b log _ c.args.prefix c.loop-layer.layer v c.args.sv c.loop-layer.spot image h c.requires.supervoxel.6 m i.low (omega arith) (i.at d b log v image h m))));
    }

pub id_of-requires : goal.id_of-requires
id_of-requires g c =
    let r = c.requires.supervoxel in
    let i = c.loop-layer.invariant in
    let at = i.at r.0 r.1 r.2 r.3 r.4 r.5 r.7 in
    record { within = within r.0 r.1 r.2 _ (subst (λ w. ParentImage r.0 r.1 r.2 (g.W.Words.words w)) (sym i.same) r.4) c.loop-layer.spot at.0 at.1 }

pub returns-clause-is : goal.returns-clause-is
returns-clause-is g c d b log v image h m =
    let i = c.loop-layer.invariant in
    let t : c.top_of-top.result ≡ top d = c.top_of-top.ensures.is d b log image in
    let f = c.loop-layer-test.false in
    let q = i.high in
    c.id_of.ensures.is
    ∙ id_at_told d b log _ (subst (λ w. ParentImage d b log (g.W.Words.words w)) (sym i.same) image) c.loop-layer.spot _ (i.at d b log v image h m)
    ∙ end_at d b (log_at d b log c.args.prefix) c.loop-layer.layer v (omega arith)
