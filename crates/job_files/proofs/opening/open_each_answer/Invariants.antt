use Rattle.std.proofs.Common.{◌≡◌, ◌≤◌, ℕ, List, true, length, vec_capacity}
use Rattle.job_files.proofs.AnswerOpenings.{EmptiedSoFar}
use Rattle.job_files.proofs.opening.open_each_answer.Given as goal

abbrev pub invariant-loop-at : goal.invariant-loop-at
invariant-loop-at g l =
    EmptiedSoFar g.P.Out.Sink.state (g.P.Place.state l.place).opened_out l.names l.at l.answers.items (g.P.Place.state l.fn.place) (g.P.Place.state l.place)
    × (length l.names ≤ vec_capacity l.answers)
    × ((n : List ℕ) → (g.P.Place.state l.fn.place).opened_in n ≡ true → (g.P.Place.state l.place).opened_in n ≡ true)
