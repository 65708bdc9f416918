use Rattle.std.proofs.Common.{◌≡◌, List}
use Rattle.op_model.specs.declared.base.Dataset.{Dataset}
use Rattle.op_model.specs.declared.base.Base.{Base}
use Rattle.op_model.specs.declared.entry.Entry.{Entry}
use Rattle.op_model.specs.Valid.{IsAscending}
use Rattle.record_rows.specs.Readings.{Image}
use Rattle.change_reader.specs.Walks.{IsMadeRoot}
use Rattle.change_reader.proofs.WalkSteps.{Walked, limit}
use Rattle.change_reader.proofs.walks.visited.Given as goal

abbrev pub invariant-loop-n : goal.invariant-loop-n
invariant-loop-n g l = record {
  same : l.w ≡ l.fn.w;
  order : IsAscending l.roots.items;
  walked :
      (d : Dataset) (b : Base) (log : List Entry) → (i : Image d b log (g.W.Words.words l.fn.w)) → IsMadeRoot d b log (g.W.Words.words l.fn.w) l.fn.root l.fn.prefix
      → Walked d b i.dataset i.base log i.legal l.fn.prefix l.fn.root l.waiting.items l.roots.items l.list.items;
}

abbrev pub decreases-loop-n : goal.decreases-loop-n
decreases-loop-n g l = limit l.waiting.items
