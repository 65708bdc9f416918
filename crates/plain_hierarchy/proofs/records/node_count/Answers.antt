use Rattle.std.proofs.Common.{◌≡◌, ◌+◌, ◌-◌, ℕ, map, refl, ◌∙◌, ap, arith}
use mathlib.Core.Path.{ap₂}
use Rattle.op_model.specs.Chunks.{layers, layers_from}
use Rattle.op_model.specs.Records.{node_count, nodes_in, total}
use Rattle.op_model.specs.Ingest.{ingested}
use Rattle.plain_hierarchy.proofs.Counts.{totals_more}
use Rattle.plain_hierarchy.proofs.records.node_count.Goals as goal

pub loop-place-init : goal.loop-place-init
unfolding layers_from total
loop-place-init c = record { is = refl; few = omega arith }

pub loop-place-preserved : goal.loop-place-preserved
loop-place-preserved c = record {
  is =
      let f : ℕ → ℕ = nodes_in c.args.dataset.now c.args.base.now (ingested c.args.dataset.now c.args.base.now 0) in
      ap₂ (λ m n. m + n) c.loop-place.invariant.is c.in_ok-count.ensures.is ∙ totals_more f c.loop-place.place;
  few = omega (arith, c.loop-place.invariant.few, c.in_ok-count.ensures.few, c.requires.size);
}

pub returns-clause-is : goal.returns-clause-is
unfolding node_count layers
returns-clause-is c =
    let f : ℕ → ℕ = nodes_in c.args.dataset.now c.args.base.now (ingested c.args.dataset.now c.args.base.now 0) in
    let end : c.loop-place.place ≡ c.top-place-end.result - 1 = omega (arith, c.loop-place-test.false, c.loop-place.auto.place-end) in
    c.loop-place.invariant.is ∙ ap (λ n. total (map f (layers_from 2 n))) (end ∙ ap (λ n. n - 1) c.top-place-end.ensures.is)
