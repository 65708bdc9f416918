use Rattle.std.proofs.Common.{◌≡◌, ◌+◌, ◌*◌, ◌∙◌, sym, ap, map, min, arith}
use Rattle.flow_net.specs.Net.{wire_of, first_below}
use Rattle.flow_net.specs.Verdict.{unbalanced}
use Rattle.flow_net.proofs.Searches.{first_below_some, first_below_on, first_below_past}
use Rattle.flow_net.proofs.balance.first_unbalanced.Goals as goal

pub overflow_add-result : goal.overflow_add-result
overflow_add-result c =
    let p = unbalanced (map wire_of c.args.links.now) c.args.sources.now c.args.sinks.now c.args.amounts.now in
    let h = first_below_some (λ i. p (2048 * c.loop-block.block + i)) c.min-count.result c.in-Some.i (sym c.first_in_block-found.ensures ∙ c.in-Some.is) in
    omega (arith, h.0, c.min-count.ensures, c.loop-block-test.true, c.ranges.n.fits)

pub returns-in-Some : goal.returns-in-Some
returns-in-Some c =
    let p = unbalanced (map wire_of c.args.links.now) c.args.sources.now c.args.sinks.now c.args.amounts.now in
    let a = 2048 * c.loop-block.block in
    let low : min c.args.n a ≡ a = omega (arith, c.loop-block-test.true) in
    sym (first_below_past p a c.min-count.result c.args.n c.in-Some.i (ap (first_below p) (sym low) ∙ c.loop-block.invariant.none)
    (sym c.first_in_block-found.ensures ∙ c.in-Some.is) (omega (arith, c.min-count.ensures, c.loop-block-test.true)))

pub loop-block-preserved : goal.loop-block-preserved
loop-block-preserved c =
    let p = unbalanced (map wire_of c.args.links.now) c.args.sources.now c.args.sinks.now c.args.amounts.now in
    let a = 2048 * c.loop-block.block in
    let low : min c.args.n a ≡ a = omega (arith, c.loop-block-test.true) in
    let next : min c.args.n (2048 * (c.loop-block.block + 1)) ≡ a + c.min-count.result = omega (arith, c.min-count.ensures, c.loop-block-test.true) in
    record {
      none = ap (first_below p) next ∙ first_below_on p a c.min-count.result (ap (first_below p) (sym low) ∙ c.loop-block.invariant.none)
          (sym c.first_in_block-found.ensures ∙ c.in_default.is);
      into = c.first_in_block-found.auto.into ∙ c.loop-block.invariant.into;
      out = c.first_in_block-found.auto.out ∙ c.loop-block.invariant.out;
    }
