use Rattle.std.proofs.Common.{◌+◌, ◌∙◌, sym, subst, refl}
use Rattle.components.specs.Chains.{pair, AreLasts, AreNexts}
use Rattle.components.proofs.Chained.{lasts_more, nexts_more}
use Rattle.components.proofs.chains.link_all.Goals as goal

pub loop-k-preserved : goal.loop-k-preserved
loop-k-preserved c =
    let n = c.args.n in
    let pairs = c.args.pairs.now in
    let k = c.loop-k.k in
    let i = c.loop-k.invariant in
    let b = c.requires.below k (0, 0) c.loop-k-test.true in
    record {
      lasts = subst (λ ls. AreLasts n pairs (k + 1) ls) (sym c.link-before.ensures.lasts)
          (lasts_more n pairs k c.loop-k.lasts (pair pairs k).0 (pair pairs k).1 i.lasts refl refl b.0 b.1);
      nexts = subst (λ xs. AreNexts pairs (k + 1) xs) (sym c.in-Ok-push.ensures.items)
          (nexts_more pairs k c.loop-k.nexts.items c.link-before.result i.nexts
          (c.link-before.ensures.one ∙ i.lasts.last (pair pairs k).0 b.0) (c.link-before.ensures.other ∙ i.lasts.last (pair pairs k).1 b.1));
    }
