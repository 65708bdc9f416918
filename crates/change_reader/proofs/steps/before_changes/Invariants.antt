use Rattle.std.proofs.Common.{◌≡◌, ◌-◌, List, drop, length}
use Rattle.op_model.specs.declared.base.Dataset.{Dataset}
use Rattle.op_model.specs.declared.base.Base.{Base}
use Rattle.op_model.specs.declared.entry.Entry.{Entry}
use Rattle.op_model.specs.Operations.{ends}
use Rattle.change_reader.specs.Walks.{IsChangedBy, IsInner}
use Rattle.change_reader.proofs.Linked.{linked_of}
use Rattle.change_reader.proofs.steps.before_changes.Given as goal

abbrev pub invariant-loop-done : goal.invariant-loop-done
invariant-loop-done g l = record {
  same : l.w ≡ l.fn.w;
  shown :
      (d : Dataset) (b : Base) (log : List Entry) (e : Entry) → IsInner d b log (g.W.Words.words l.fn.w) l.fn.n → IsChangedBy d b log (g.W.Words.words l.fn.w) l.fn.n e l.changed
      → l.list.items ≡ linked_of d b log l.fn.n l.roots (ends (drop (length l.changed - l.done) l.changed));
}
