use Rattle.std.proofs.Common.{◌≡◌, ℕ, List, true}
use Rattle.std.specs.List.{AllByRecursion}
use Rattle.std.specs.Vec.Iter.{into_iter_items}
use Rattle.job_files.specs.Places.{KeepsIn}
use Rattle.job_files.proofs.Steps.{KeptSoFar, of_source}
use Rattle.job_files.proofs.keeping.keep_requests.Given as goal

abbrev pub invariant-loop-source : goal.invariant-loop-source
invariant-loop-source g l =
    KeptSoFar KeepsIn (of_source g.P.In.Source.left g.P.In.Source.faults) l.names l.fn.sources.items l.yielded (into_iter_items l.source-iterator) l.at
    (g.P.Place.state l.fn.place) (g.P.Place.state l.place)
    × AllByRecursion (λ n. (g.P.Place.state l.place).opened_in n ≡ true) l.names
    × ((n : List ℕ) → (g.P.Place.state l.fn.place).opened_out n ≡ true → (g.P.Place.state l.place).opened_out n ≡ true)
