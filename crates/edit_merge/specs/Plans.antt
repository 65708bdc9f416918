-- Inner: no clause of `run` is made of it.
-- Merges, and the pairs that they name.
use Rattle.std.specs.Prelude.{◌≡◌, ℕ, Bool, true, not, ◌&&◌, ◌==◌, if◌then◌else◌, List, [], ◌∷◌, Option}
use Rattle.std.specs.List.{find}
use Rattle.op_model.specs.declared.base.Dataset.{Dataset}
use Rattle.op_model.specs.declared.base.Base.{Base}
use Rattle.op_model.specs.declared.request.AskedPair.{AskedPair}
use Rattle.op_model.specs.declared.entry.Changed.{Changed}
use Rattle.op_model.specs.declared.request.Edit.{Edit}
use Rattle.op_model.specs.declared.request.Edit.TheVariants.{Merge}
use Rattle.op_model.specs.declared.entry.Entry.{Entry}
use Rattle.op_model.specs.declared.base.Pair.{Pair}
use Rattle.graph_model.specs.Lists.{has}
use Rattle.op_model.specs.Edges.{same_pair, pair_before}
use Rattle.op_model.specs.Labels.{root}

-- the edit is a merge
abbrev pub IsMerge : Edit → Type 0
IsMerge edit = (pairs : List AskedPair) × (edit ≡ Merge pairs)

-- the first id that is no supervoxel
unfoldable pub first_unknown : Base → List ℕ → Option ℕ
first_unknown b ids = find (λ v. not (has b.supervoxels v)) ids

-- the first pair with both ends in one root
unfoldable pub first_joined : Dataset → Base → List Entry → List AskedPair → Option AskedPair
first_joined d b log pairs = find (λ p. root d b log p.a == root d b log p.b) pairs

-- a pair that is active from now on
unfoldable pub on : Pair → Changed
on p = record { pair = p; active = true }

-- whether the pair comes before, where it isn't the one that is put
unfoldable pub comes_first : Pair → Changed → Bool
comes_first p c = not (same_pair p c.pair) && not (pair_before p c.pair)

-- a pair in its place in an ascending list, once
unfoldable pub put_on : Pair → List Changed → List Changed
put_on p [] = on p ∷ []
put_on p (c ∷ cs) = if same_pair p c.pair then c ∷ cs else (if pair_before p c.pair then on p ∷ c ∷ cs else c ∷ put_on p cs)
