use Rattle.std.proofs.Common.{◌≡◌, [], subst, arith}
use Rattle.components.specs.Spreading.{IsSpread}
use Rattle.components.proofs.Least.{spread_is_least}
use Rattle.components.proofs.labels.label.Goals as goal

pub returns : goal.returns
returns c =
    let e : c.loop-v.v ≡ c.args.n = omega arith in
    spread_is_least c.args.n c.args.pairs.now c.loop-v.labels
    (subst (λ v. IsSpread c.args.n c.args.pairs.now v c.args.n c.loop-v.labels []) e c.loop-v.invariant.spread)
