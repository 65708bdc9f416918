use Rattle.std.proofs.Common.{◌≤◌, ◌+◌, ◌++◌, List, take}
use Rattle.std.specs.List.{filter}
use Rattle.op_model.specs.declared.base.Edge.{Edge}
use Rattle.component_reader.specs.Taking.{AreMet, starts}
use Rattle.component_reader.proofs.taking.meet_own.Given as goal

abbrev pub invariant-loop-edge : goal.invariant-loop-edge
invariant-loop-edge l = record {
  few : l.met.count ≤ l.fn.met.count + l.edge-index;
  met : (edges : List Edge) → AreMet l.fn.most edges l.fn.met → AreMet l.fn.most (edges ++ filter (starts l.fn.to l.fn.sv) (take l.edge-index l.fn.own)) l.met;
}
