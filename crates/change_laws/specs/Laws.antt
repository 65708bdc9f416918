-- Inner: no clause of `run` is made of it.
-- What holds of a walk back through the log.
use Rattle.std.specs.Prelude.{◌≡◌, ℕ, ◌||◌, true, false, List, ◌∷◌, ◌++◌, map, reverse}
use Rattle.std.specs.List.{AllByRecursion}
use Rattle.op_model.specs.declared.base.Dataset.{Dataset}
use Rattle.op_model.specs.declared.base.Base.{Base}
use Rattle.op_model.specs.declared.entry.Entry.{Entry}
use Rattle.graph_model.specs.Lists.{has}
use Rattle.op_model.specs.Answers.{ancestors, changes, leaves_at, share, summary}
use Rattle.op_model.specs.Labels.{touches}
use Rattle.op_model.specs.Legal.{Legal}
use Rattle.op_model.specs.Valid.{IsDataset, IsBase}
use Rattle.change_laws.specs.Visits.{linked_by, meets, visits}

-- the walk back from roots meets just the entries that made or retired one of their ancestors
abbrev pub ChangesAreVisited : Type 0
ChangesAreVisited =
    (d : Dataset) (b : Base) → IsDataset d → IsBase d b → (log : List Entry) (roots : List ℕ) → Legal d b log
    → changes d b log (ancestors d b log roots) ≡ reverse (map summary (visits d b log roots))

-- the walk may skip entries that neither made nor retired one of its roots
abbrev pub OthersAreSkipped : Type 0
OthersAreSkipped =
    (d : Dataset) (b : Base) → IsDataset d → IsBase d b → (newer older : List Entry) (roots : List ℕ) → Legal d b (newer ++ older)
    → AllByRecursion (λ e. meets e roots ≡ false) newer → visits d b (newer ++ older) roots ≡ visits d b older roots

-- of the roots that an entry adds to the walk, older entries made some and retired none
abbrev pub AddedAreMade : Type 0
AddedAreMade =
    (d : Dataset) (b : Base) → IsDataset d → IsBase d b → (e g : Entry) (newer older : List Entry) (roots : List ℕ) → Legal d b (e ∷ newer ++ g ∷ older)
    → meets g (roots ++ linked_by d b e (newer ++ g ∷ older) roots) ≡ (meets g roots || share g.made (linked_by d b e (newer ++ g ∷ older) roots))

-- the walk visits the same for a list of the same roots, in any order
abbrev pub OrderIsFree : Type 0
OrderIsFree =
    (d : Dataset) (b : Base) (log : List Entry) (xs ys : List ℕ) → ((r : ℕ) → has xs r ≡ has ys r) → visits d b log xs ≡ visits d b log ys

-- the first entry with an end among the leaves of a root retires it, and no entry without one does
abbrev pub RootsEndOnce : Type 0
RootsEndOnce =
    (d : Dataset) (b : Base) → IsDataset d → IsBase d b → (e g : Entry) (newer older : List Entry) (r : ℕ) → Legal d b (e ∷ newer ++ g ∷ older)
    → has g.made r ≡ true → AllByRecursion (λ f. has f.retired r ≡ false) newer → has e.retired r ≡ touches e.changed (leaves_at d b (g ∷ older) r)
