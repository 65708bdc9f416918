use Rattle.std.proofs.Common.{◌≡◌, ◌++◌, ℕ, List, take}
use Rattle.op_model.specs.declared.base.Dataset.{Dataset}
use Rattle.op_model.specs.declared.base.Base.{Base}
use Rattle.op_model.specs.declared.entry.Entry.{Entry}
use Rattle.op_model.specs.Valid.{IsAscending}
use Rattle.change_reader.specs.Walks.{AreUnretired, SameRoots, Waits}
use Rattle.change_reader.proofs.steps.add_all.Given as goal

abbrev pub invariant-loop-k : goal.invariant-loop-k
invariant-loop-k g l = record {
  same : l.w ≡ l.fn.w;
  order : IsAscending l.roots.items;
  roots : SameRoots l.roots.items (l.fn.roots.items ++ take l.k l.linked);
  waits : (d : Dataset) (b : Base) (log : List Entry) (n : ℕ) → AreUnretired d b log (g.W.Words.words l.fn.w) n l.linked → Waits log n l.fn.roots.items l.fn.waiting.items → Waits log n l.roots.items l.waiting.items;
}
