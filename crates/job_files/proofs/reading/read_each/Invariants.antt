use Rattle.std.proofs.Common.{◌≡◌, ◌≤◌, ℕ, List, length, true, vec_capacity}
use Rattle.std.specs.List.{AllByRecursion}
use Rattle.std.specs.Vec.Iter.{into_iter_items}
use Rattle.job_files.proofs.ReadLines.{ReadSoFar}
use Rattle.job_files.proofs.reading.read_each.Given as goal

abbrev pub invariant-loop-source : goal.invariant-loop-source
invariant-loop-source g l =
    ReadSoFar g.P.In.Source.left l.names l.fn.sources.items l.yielded (into_iter_items l.source-iterator) l.at l.whole l.read.items (g.P.Place.state l.fn.place) (g.P.Place.state l.place)
    × (length l.names ≤ vec_capacity l.read)
    × AllByRecursion (λ n. (g.P.Place.state l.place).opened_in n ≡ true) l.names
    × ((n : List ℕ) → (g.P.Place.state l.fn.place).opened_out n ≡ true → (g.P.Place.state l.place).opened_out n ≡ true)
