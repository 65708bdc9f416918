use Rattle.std.proofs.Common.{◌≡◌, ◌-◌, List, map, drop, length}
use Rattle.op_model.specs.declared.base.Dataset.{Dataset}
use Rattle.op_model.specs.declared.base.Base.{Base}
use Rattle.op_model.specs.declared.entry.Entry.{Entry}
use Rattle.op_model.specs.Labels.{root}
use Rattle.op_model.specs.Operations.{ascending, ends}
use Rattle.op_model.specs.Transcript.{log_at}
use Rattle.node_reader.specs.Readable.{AreKnown, IsReadable}
use Rattle.node_reader.proofs.roots.roots_of.Given as goal

abbrev pub invariant-loop-done : goal.invariant-loop-done
invariant-loop-done g l = record {
  same : l.w ≡ l.fn.w;
  shown :
      (d : Dataset) (b : Base) (log : List Entry) → IsReadable d b log (g.W.Words.words l.fn.w) l.fn.prefix → AreKnown b (ends l.changed)
      → l.list.items ≡ ascending (map (root d b (log_at d b log l.fn.prefix)) (ends (drop (length l.changed - l.done) l.changed)));
}
