use Rattle.std.proofs.Common.{◌≡◌, ◌-◌, ◌≤◌, List}
use Rattle.op_model.specs.declared.base.Base.{Base}
use Rattle.op_model.specs.declared.entry.Entry.{Entry}
use Rattle.entry_layers.specs.Layering.{AreFirstsBelow, AreLayersTo, IsEntryPart}
use Rattle.entry_layers.proofs.layering.entry_layers.Given as goal

abbrev pub invariant-loop-layer : goal.invariant-loop-layer
invariant-loop-layer g l = record {
  same : l.w ≡ l.fn.w;
  low : 2 ≤ l.layer;
  own : AreFirstsBelow l.dataset l.part (l.layer - 1) l.below;
  made : (b : Base) (log : List Entry) (e : Entry) → IsEntryPart l.dataset b log e (g.W.Words.words l.fn.w) l.part l.ends → AreLayersTo l.dataset b log e l.part.supervoxels (l.layer - 2) l.all l.below;
}
