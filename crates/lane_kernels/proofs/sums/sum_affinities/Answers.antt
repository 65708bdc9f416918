use Rattle.std.proofs.Common.{◌≡◌, ◌+◌, ◌*◌, ◌-◌, ◌∙◌, ap, ap₂, sum, take, take-add, drop, arith}
use Rattle.std.proofs.lemmas.List.Sums.{sum_by-append}
use Rattle.lane_kernels.proofs.sums.sum_affinities.Goals as goal

pub loop-block-preserved : goal.loop-block-preserved
loop-block-preserved c =
    let n = c.loop-block.block in
    let next : 8 * (n + 1) ≡ 8 * n + 8 = omega arith in
    let first : sum (take (8 * n + 8) c.args.list.now) ≡ sum (take (8 * n) c.args.list.now) + sum (take 8 (drop (8 * n) c.args.list.now)) =
    ap sum (take-add (8 * n) 8 c.args.list.now) ∙ sum_by-append (λ x. x) (take (8 * n) c.args.list.now) (take 8 (drop (8 * n) c.args.list.now)) in
    let same : 8 * n + 8 - 8 * n ≡ 8 = omega arith in
    let second : c.sum_in-total.result ≡ sum (take 8 (drop (8 * n) c.args.list.now)) = c.sum_in-total.ensures.value ∙ ap (λ k. sum (take k (drop (8 * n) c.args.list.now))) same in
    (rw (next, first) (ap₂ (λ x y. x + y) c.loop-block.invariant.0 second), omega (arith, c.loop-block.invariant.1, c.sum_in-total.ensures.small))
