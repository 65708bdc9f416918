use Rattle.std.proofs.Common.{◌≡◌, ◌-◌, ◌≤◌, List}
use Rattle.op_model.specs.declared.base.Base.{Base}
use Rattle.op_model.specs.declared.entry.Entry.{Entry}
use Rattle.entry_layers.specs.Layering.{AreLayersTo}
use Rattle.united_layers.specs.Layering.{IsUnitedList}
use Rattle.united_layers.proofs.layering.layers_of.Given as goal

abbrev pub invariant-loop-layer : goal.invariant-loop-layer
invariant-loop-layer g l = record {
  same : l.w ≡ l.fn.w;
  low : 2 ≤ l.layer;
  made : (b : Base) (log : List Entry) (e : Entry) → IsUnitedList l.dataset b log e (g.W.Words.words l.fn.w) l.ids l.ends l.joints → AreLayersTo l.dataset b log e l.ids (l.layer - 2) l.all l.below;
}
