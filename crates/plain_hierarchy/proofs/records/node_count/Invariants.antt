use Rattle.std.proofs.Common.{◌≡◌, ◌≤◌, ◌*◌, ◌^◌, map}
use Rattle.op_model.specs.Chunks.{layers_from}
use Rattle.op_model.specs.Records.{nodes_in, total}
use Rattle.op_model.specs.Ingest.{ingested}
use Rattle.plain_hierarchy.proofs.records.node_count.Given as goal

abbrev pub invariant-loop-place : goal.invariant-loop-place
invariant-loop-place l = record {
  is : l.count ≡ total (map (nodes_in l.dataset l.base (ingested l.dataset l.base 0)) (layers_from 2 l.place));
  few : l.count ≤ l.place * 2 ^ 32;
}
