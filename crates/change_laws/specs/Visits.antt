-- Inner: no clause of `run` is made of it.
-- The entries that a walk back from roots meets.
use Rattle.std.specs.Prelude.{ℕ, Bool, ◌||◌, if◌then◌else◌, List, [], ◌∷◌, ◌++◌, map}
use Rattle.std.specs.List.{filter}
use Rattle.op_model.specs.declared.base.Dataset.{Dataset}
use Rattle.op_model.specs.declared.base.Base.{Base}
use Rattle.op_model.specs.declared.entry.Entry.{Entry}
use Rattle.graph_model.specs.Lists.{has}
use Rattle.op_model.specs.Answers.{share}
use Rattle.op_model.specs.Labels.{root}
use Rattle.op_model.specs.Operations.{ends}

-- whether the entry made or retired one of these roots
unfoldable pub meets : Entry → List ℕ → Bool
meets e roots = share e.made roots || share e.retired roots

module _ (d : Dataset) (b : Base) where
  -- the roots before an entry of those ends of its changed pairs whose roots after it are among these
  unfoldable pub linked_by : Entry → List Entry → List ℕ → List ℕ
  linked_by e log roots = map (root d b log) (filter (λ u. has roots (root d b (e ∷ log) u)) (ends e.changed))

  -- newest first, the entries that made or retired one of these roots, or one from which links lead to them
  unfoldable pub visits : List Entry → List ℕ → List Entry
  visits [] roots = []
  visits (e ∷ log) roots =
      if meets e roots then e ∷ visits log (roots ++ linked_by e log roots) else visits log (roots ++ linked_by e log roots)
