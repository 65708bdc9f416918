use Rattle.std.proofs.Common.{◌≡◌, take}
use Rattle.plain_hierarchy.specs.Ingest.{firsts}
use Rattle.plain_hierarchy.proofs.leaves.firsts.Given as goal

abbrev pub invariant-loop-sv : goal.invariant-loop-sv
invariant-loop-sv l = l.list.items ≡ firsts l.dataset l.base l.layer (take l.sv-index l.among)
