use Rattle.std.proofs.Common.{◌≡◌, ◌≤◌, List, map}
use Rattle.std.specs.List.{All, filter, range_with_len}
use Rattle.op_model.specs.declared.base.Dataset.{Dataset}
use Rattle.op_model.specs.declared.base.Base.{Base}
use Rattle.op_model.specs.declared.entry.Entry.{Entry}
use Rattle.op_model.specs.Chunks.{top}
use Rattle.layer_laws.specs.Building.{at}
use Rattle.made_links.specs.Children.{AreBelow, IsChild, has_parent}
use Rattle.made_links.proofs.finding.children.Given as goal

abbrev pub invariant-loop-place : goal.invariant-loop-place
invariant-loop-place g l = record {
  same : l.w ≡ l.fn.w;
  leasts : map (λ c. c.least) l.list.items ≡ filter (has_parent l.below_firsts l.firsts l.ranks) (range_with_len 0 l.place);
  parents : All (λ c. c.parent ≡ at l.ranks (at l.firsts c.least)) l.list.items;
  are : (d : Dataset) (b : Base) (log : List Entry) (e : Entry) → AreBelow d b log e (g.W.Words.words l.fn.w) l.fn.prefix l.ids l.fn.layer l.below_firsts l.below → l.fn.layer ≤ top d → All (IsChild d b log e l.fn.layer l.ids l.below) l.list.items;
}
