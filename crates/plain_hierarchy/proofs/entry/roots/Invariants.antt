use Rattle.std.proofs.Common.{◌≡◌, take, map}
use Rattle.op_model.specs.Labels.{root}
use Rattle.op_model.specs.Ingest.{ingested}
use Rattle.plain_hierarchy.proofs.entry.roots.Given as goal

abbrev pub invariant-loop-sv : goal.invariant-loop-sv
invariant-loop-sv l = l.list.items ≡ map (root l.dataset l.base (ingested l.dataset l.base 0)) (take l.sv-index l.base.supervoxels)
