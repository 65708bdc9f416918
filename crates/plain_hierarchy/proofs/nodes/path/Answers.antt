use Rattle.std.proofs.Common.{◌≡◌, ◌-◌, ◌≤◌, ℕ, take, map, length, refl, sym, ◌∙◌, ap, arith}
use Rattle.std.proofs.Math.ListN.{length-set}
use Rattle.op_model.specs.Chunks.{layers, layers_from, top}
use Rattle.op_model.specs.Labels.{node, path}
use Rattle.op_model.specs.Ingest.{ingested}
use Rattle.plain_hierarchy.proofs.Counts.{path_more}
use Rattle.plain_hierarchy.proofs.nodes.path.Goals as goal

pub loop-place-init : goal.loop-place-init
unfolding layers_from
loop-place-init c = record { shown = λ at. refl; long = refl }

pub loop-place-preserved : goal.loop-place-preserved
loop-place-preserved c = record {
  shown = λ at.
      let f : ℕ → ℕ = λ layer. node c.args.dataset.now c.args.base.now (ingested c.args.dataset.now c.args.base.now at) layer c.args.sv in
      let long : length c.loop-place.nodes ≡ 17 = c.loop-place.invariant.long in
      let most : c.top-count.result ≤ 18 = c.top-count.ensures.range.1 in
      path_more f c.loop-place.nodes c.loop-place.place c.in_ok-nodes.field-0 (omega (arith, c.loop-place-test.true, most, long)) (c.loop-place.invariant.shown at) (c.in_ok-nodes.ensures at);
  long = length-set c.loop-place.nodes c.loop-place.place c.in_ok-nodes.field-0 ∙ c.loop-place.invariant.long;
}

pub returns : goal.returns
unfolding path layers
returns c at =
    let f : ℕ → ℕ = λ layer. node c.args.dataset.now c.args.base.now (ingested c.args.dataset.now c.args.base.now at) layer c.args.sv in
    let end : c.top-count.result - 1 ≡ c.loop-place.place = omega (arith, c.loop-place-test.false, c.loop-place.auto.place-end) in
    let whole : c.loop-place.place ≡ top c.args.dataset.now - 1 = sym end ∙ ap (λ n. n - 1) c.top-count.ensures.is in
    ap (λ n. take n c.loop-place.nodes) end ∙ (c.loop-place.invariant.shown at ∙ ap (λ n. map f (layers_from 2 n)) whole)
