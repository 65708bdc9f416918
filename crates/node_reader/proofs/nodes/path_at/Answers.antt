use Rattle.std.proofs.Common.{◌+◌, ◌-◌, ◌∙◌, ◌≡◌, ℕ, length, map, take, refl, sym, ap, subst, arith}
use Rattle.std.proofs.Math.ListN.{length-set}
use Rattle.op_model.specs.Chunks.{top, layers, layers_from}
use Rattle.op_model.specs.Labels.{node, path}
use Rattle.op_model.specs.Transcript.{log_at}
use Rattle.record_rows.specs.Readings.{HoldsId, ParentImage}
use Rattle.record_rows.specs.Versions.{child_at}
use Rattle.node_reader.specs.Readable.{IsBelow}
use Rattle.node_reader.proofs.Climbs.{start_at, next_at, one_more, below_layer, id_at_told}
use Rattle.record_rows.proofs.ImageFacts.{within}
use Rattle.node_reader.proofs.nodes.path_at.Goals as goal

pub loop-place-init : goal.loop-place-init
unfolding layers_from
loop-place-init g c = record {
  same = c.top_of-count.ensures.same;
  long = refl;
  at = λ d b log v i h m. start_at d b log (log_at d b log c.args.prefix) c.args.sv v h;
  shown = λ d b log v i h m. refl;
}

pub node_above-spot-requires : goal.node_above-spot-requires
node_above-spot-requires g c =
    let r = c.requires.supervoxel in
    let i = c.loop-place.invariant in
    let t : c.top_of-count.result ≡ top r.0 = c.top_of-count.ensures.is r.0 r.1 r.2 r.4 in
    let l = c.loop-place-test.true in
    record {
      below = (
        r.0,
        r.1,
        r.2,
        c.loop-place.place + 2,
        r.3,
        subst (λ w. IsBelow r.0 r.1 r.2 (g.W.Words.words w) c.args.prefix (c.loop-place.place + 2) r.3 c.loop-place.spot) (sym i.same)
            (below_layer r.0 r.1 r.2 _ c.args.prefix (c.loop-place.place + 2) r.3 c.args.sv c.loop-place.spot r.4 r.5 r.6 r.7 (omega arith) (omega arith) (i.at r.0 r.1 r.2 r.3 r.4 r.5 r.7)),
      );
    }

pub id_of-requires : goal.id_of-requires
id_of-requires g c =
    let r = c.requires.supervoxel in
    let i = c.loop-place.invariant in
    let t : c.top_of-count.result ≡ top r.0 = c.top_of-count.ensures.is r.0 r.1 r.2 r.4 in
    let l = c.loop-place-test.true in
    let at = c.node_above-spot.ensures.is r.0 r.1 r.2 (c.loop-place.place + 2) r.3
    (subst (λ w. IsBelow r.0 r.1 r.2 (g.W.Words.words w) c.args.prefix (c.loop-place.place + 2) r.3 c.loop-place.spot) (sym i.same)
    (below_layer r.0 r.1 r.2 _ c.args.prefix (c.loop-place.place + 2) r.3 c.args.sv c.loop-place.spot r.4 r.5 r.6 r.7 (omega arith) (omega arith) (i.at r.0 r.1 r.2 r.3 r.4 r.5 r.7))) in
    record { within = within r.0 r.1 r.2 _ (subst (λ w. ParentImage r.0 r.1 r.2 (g.W.Words.words w)) (sym (c.node_above-spot.ensures.same ∙ i.same)) r.4) c.node_above-spot.result at.0 at.1 }

pub loop-place-preserved : goal.loop-place-preserved
loop-place-preserved g c =
    let i = c.loop-place.invariant in
    let l = c.loop-place-test.true in
    record {
      same = c.id_of.ensures.same ∙ (c.node_above-spot.ensures.same ∙ i.same);
      long = length-set c.loop-place.nodes c.loop-place.place c.id_of.result ∙ i.long;
      at = λ d b log v image h m.
          let t : c.top_of-count.result ≡ top d = c.top_of-count.ensures.is d b log image in
          let e : c.loop-place.place + 2 + 1 ≡ c.loop-place.place + 1 + 2 = omega arith in
          subst (λ k. HoldsId d b log c.node_above-spot.result (child_at d b (log_at d b log c.args.prefix) k v)) e
          (next_at d b log (log_at d b log c.args.prefix) c.node_above-spot.result (c.loop-place.place + 2) v (omega arith)
          (c.node_above-spot.ensures.is d b log (c.loop-place.place + 2) v
          (subst (λ w. IsBelow d b log (g.W.Words.words w) c.args.prefix (c.loop-place.place + 2) v c.loop-place.spot) (sym i.same)
          (below_layer d b log _ c.args.prefix (c.loop-place.place + 2) v c.args.sv c.loop-place.spot image h c.requires.supervoxel.6 m (omega arith) (omega arith) (i.at d b log v image h m)))));
      shown = λ d b log v image h m.
          let t : c.top_of-count.result ≡ top d = c.top_of-count.ensures.is d b log image in
          let range = c.top_of-count.ensures.range.1 in
          let long : length c.loop-place.nodes ≡ 17 = i.long in
          one_more (λ layer. node d b (log_at d b log c.args.prefix) layer v) c.loop-place.nodes c.loop-place.place c.id_of.result (omega arith) (i.shown d b log v image h m)
          (c.id_of.ensures.is ∙ id_at_told d b log _ (subst (λ w. ParentImage d b log (g.W.Words.words w)) (sym (c.node_above-spot.ensures.same ∙ i.same)) image) c.node_above-spot.result _
          (c.node_above-spot.ensures.is d b log (c.loop-place.place + 2) v
          (subst (λ w. IsBelow d b log (g.W.Words.words w) c.args.prefix (c.loop-place.place + 2) v c.loop-place.spot) (sym i.same)
          (below_layer d b log _ c.args.prefix (c.loop-place.place + 2) v c.args.sv c.loop-place.spot image h c.requires.supervoxel.6 m (omega arith) (omega arith) (i.at d b log v image h m)))));
    }

pub returns-clause-is : goal.returns-clause-is
unfolding path layers
returns-clause-is g c d b log v image h m =
    let f : ℕ → ℕ = λ layer. node d b (log_at d b log c.args.prefix) layer v in
    let i = c.loop-place.invariant in
    let t : c.top_of-count.result ≡ top d = c.top_of-count.ensures.is d b log image in
    let end : c.top_of-count.result - 1 ≡ c.loop-place.place = omega (arith, c.loop-place-test.false, c.loop-place.auto.place-end) in
    let whole : c.loop-place.place ≡ top d - 1 = sym end ∙ ap (λ n. n - 1) t in
    ap (λ n. take n c.loop-place.nodes) end ∙ (i.shown d b log v image h m ∙ ap (λ n. map f (layers_from 2 n)) whole)
