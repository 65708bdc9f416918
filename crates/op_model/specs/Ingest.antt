-- The log that a base begins with, and the chunks that it gives more numbers than their ids hold.
use Rattle.std.specs.Prelude.{◌≡◌, ℕ, ◌≤◌, ◌<◌, nat_le, List, [], ◌∷◌, map, Option, Some, None}
use Rattle.std.specs.List.{find}
use Rattle.node_ids.specs.Ids.{segments}
use Rattle.op_model.specs.declared.base.Dataset.{Dataset}
use Rattle.op_model.specs.declared.base.Base.{Base}
use Rattle.op_model.specs.declared.entry.Entry.{Entry}
use Rattle.op_model.specs.Chunks.{chunk, top}
use Rattle.op_model.specs.Labels.{used}
use Rattle.op_model.specs.Operations.{ascending, first_entry}

-- the log of the first entry alone
abbrev pub ingested : Dataset → Base → ℕ → List Entry
ingested d b at = first_entry d b at ∷ []

-- the first chunk of a layer that has given a number which its ids don't hold
unfoldable pub spent_in : Dataset → Base → List Entry → ℕ → Option ℕ
spent_in d b log layer = find (λ c. nat_le (segments d.layout layer) (used d b log layer c)) (ascending (map (chunk d layer) b.supervoxels))

-- this is the first such chunk, by layers and then by ids
pub record IsFirstSpent (d : Dataset) (b : Base) (log : List Entry) (layer c : ℕ) : Type 0 where
  pub within : (2 ≤ layer) × (layer ≤ top d)
  pub spent : spent_in d b log layer ≡ Some c
  pub before : (l : ℕ) → 2 ≤ l → l < layer → spent_in d b log l ≡ None
