use Rattle.components.specs.Chains.{AreLasts, AreNexts}
use Rattle.components.proofs.chains.link_all.Given as goal

abbrev pub invariant-loop-k : goal.invariant-loop-k
invariant-loop-k l = record {
  lasts : AreLasts l.n l.pairs l.k l.lasts;
  nexts : AreNexts l.pairs l.k l.nexts.items;
}
