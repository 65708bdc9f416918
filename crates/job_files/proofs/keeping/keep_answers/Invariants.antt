use Rattle.std.proofs.Common.{◌≡◌, ℕ, List, true}
use Rattle.std.specs.List.{AllByRecursion}
use Rattle.std.specs.Vec.Iter.{into_iter_items}
use Rattle.job_files.specs.Clients.{kept_of}
use Rattle.job_files.specs.Places.{KeepsOut}
use Rattle.job_files.proofs.Steps.{KeptSoFar}
use Rattle.job_files.proofs.keeping.keep_answers.Given as goal

abbrev pub invariant-loop-client : goal.invariant-loop-client
invariant-loop-client g l =
    KeptSoFar KeepsOut (kept_of g.P.Out.Sink.state) l.names l.fn.answers.items l.yielded (into_iter_items l.client-iterator) l.at
    (g.P.Place.state l.fn.place) (g.P.Place.state l.place)
    × AllByRecursion (λ n. (g.P.Place.state l.place).opened_out n ≡ true) l.names
    × ((n : List ℕ) → (g.P.Place.state l.fn.place).opened_in n ≡ true → (g.P.Place.state l.place).opened_in n ≡ true)
