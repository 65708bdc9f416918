use Rattle.std.proofs.Common.{◌≤◌, length, vec_capacity}
use Rattle.job_files.proofs.Openings.{OpenedSoFar}
use Rattle.job_files.proofs.opening.open_each_request.Given as goal

abbrev pub invariant-loop-at : goal.invariant-loop-at
invariant-loop-at g l =
    OpenedSoFar g.P.In.Source.left g.P.In.Source.faults (g.P.Place.state l.place).opened_in l.names l.at l.sources.items (g.P.Place.state l.fn.place) (g.P.Place.state l.place)
    × (length l.names ≤ vec_capacity l.sources)
