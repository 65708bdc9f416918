use Rattle.std.proofs.Common.{◌≡◌, ℕ, ◌+◌, ◌*◌, ◌-◌, ◌/◌, ◌∙◌, ap, ap₂, map, length, take, take-add, drop, arith}
use Rattle.std.specs.List.{sum_by}
use Rattle.std.proofs.lemmas.List.{length-map, take_rest}
use Rattle.std.proofs.lemmas.List.Sums.{sum_by-append, sum_by-take-drop}
use Rattle.graph_model.specs.Wires.{wire, weight_of}
use Rattle.flow_net.specs.Net.{wire_of}
use Rattle.flow_net.proofs.Weights.{weight_listed, ascending_few}
use Rattle.flow_net.proofs.cuts.weight_of_cut.Goals as goal

pub overflow_add-sum : goal.overflow_add-sum
overflow_add-sum c =
    let few = ascending_few _ c.args.cut.now c.requires.ascending c.requires.below in
    omega (arith, few, c.requires.few, c.loop-block.invariant.bound, c.weight_of_block-sum.ensures.bound, c.loop-block-test.true)

pub loop-block-preserved : goal.loop-block-preserved
loop-block-preserved c =
    let n = c.loop-block.block in
    let f : ℕ → ℕ = λ k. weight_of (wire (map wire_of c.args.links.now) k).room in
    let cut = c.args.cut.now in
    let next : 64 * (n + 1) ≡ 64 * n + 64 = omega arith in
    let first : sum_by f (take (64 * n + 64) cut) ≡ sum_by f (take (64 * n) cut) + sum_by f (take 64 (drop (64 * n) cut)) =
    ap (sum_by f) (take-add (64 * n) 64 cut) ∙ sum_by-append f (take (64 * n) cut) (take 64 (drop (64 * n) cut)) in
    let same : 64 * n + 64 - 64 * n ≡ 64 = omega arith in
    let second : c.weight_of_block-sum.result ≡ sum_by f (take 64 (drop (64 * n) cut)) =
    c.weight_of_block-sum.ensures.value ∙ ap (λ k. sum_by f (take k (drop (64 * n) cut))) same in
    record {
      so_far = rw (next, first) (ap₂ (λ x y. x + y) c.loop-block.invariant.so_far second);
      bound = omega (arith, c.loop-block.invariant.bound, c.weight_of_block-sum.ensures.bound);
    }

pub overflow_add-result : goal.overflow_add-result
overflow_add-result c =
    let few = ascending_few _ c.args.cut.now c.requires.ascending c.requires.below in
    omega (arith, few, c.requires.few, c.loop-block.invariant.bound, c.weight_of_block.ensures.bound, c.loop-block.auto.block-end)

pub returns-clause-value : goal.returns-clause-value
returns-clause-value c =
    let f : ℕ → ℕ = λ k. weight_of (wire (map wire_of c.args.links.now) k).room in
    let cut = c.args.cut.now in
    let whole = length cut / 64 in
    let n : c.loop-block.block ≡ whole = omega arith in
    let first : c.loop-block.sum ≡ sum_by f (take (64 * whole) cut) = c.loop-block.invariant.so_far ∙ ap (λ k. sum_by f (take (64 * k) cut)) n in
    let second : c.weight_of_block.result ≡ sum_by f (drop (64 * whole) cut) = c.weight_of_block.ensures.value ∙ ap (sum_by f) (take_rest cut (64 * whole)) in
    ap₂ (λ x y. x + y) first second ∙ (sum_by-take-drop f cut (64 * whole)
    ∙ weight_listed (map wire_of c.args.links.now) cut c.requires.ascending (λ k d l. rw length-map (c.requires.below k d l)))

pub returns-clause-bound : goal.returns-clause-bound
returns-clause-bound c =
    let few = ascending_few _ c.args.cut.now c.requires.ascending c.requires.below in
    omega (arith, few, c.requires.few, c.loop-block.invariant.bound, c.weight_of_block.ensures.bound, c.loop-block.auto.block-end)
