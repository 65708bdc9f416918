use Rattle.std.proofs.Common.{◌≡◌, length}
use Rattle.min_cut.proofs.Marking.{MarkedBelow}
use Rattle.min_cut.proofs.phases.mark_sinks.Given as goal

abbrev pub invariant-loop-t : goal.invariant-loop-t
invariant-loop-t l = record {
  len : length l.is_sink ≡ length l.initial.is_sink;
  below : MarkedBelow l.sinks l.is_sink l.t-index;
}
