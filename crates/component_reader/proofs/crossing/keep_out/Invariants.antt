use Rattle.std.proofs.Common.{◌≡◌, ◌++◌, take}
use Rattle.std.specs.List.{filter}
use Rattle.component_reader.specs.Crossing.{goes_out}
use Rattle.component_reader.proofs.crossing.keep_out.Given as goal

abbrev pub invariant-loop-edge : goal.invariant-loop-edge
invariant-loop-edge l = l.list.items ≡ l.fn.list.items ++ filter (goes_out l.fn.dataset l.fn.layer) (take l.edge-index l.fn.own)
