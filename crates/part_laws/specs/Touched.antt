-- Inner: no clause of `run` is made of it.
-- The part of a base that an entry touches, made from the active edges of the log before it.
use Rattle.std.specs.Prelude.{◌≡◌, ℕ, true, Bool, not, ◌&&◌, ◌↔◌, List, ◌∷◌, ◌++◌, map, IsTrue}
use Rattle.std.specs.List.{AllByRecursion, filter, list_any}
use Rattle.op_model.specs.declared.base.Dataset.{Dataset}
use Rattle.op_model.specs.declared.base.Base.{Base}
use Rattle.op_model.specs.declared.base.Pair.{Pair}
use Rattle.op_model.specs.declared.base.Weight.TheVariants.{Affinity}
use Rattle.op_model.specs.declared.base.Edge.{Edge}
use Rattle.op_model.specs.declared.entry.Changed.{Changed}
use Rattle.op_model.specs.declared.entry.Entry.{Entry}
use Rattle.graph_model.specs.Lists.{has}
use Rattle.op_model.specs.Cuts.{PairsAscend}
use Rattle.op_model.specs.Edges.{same_pair}
use Rattle.op_model.specs.Labels.{edges, root}
use Rattle.op_model.specs.Laws.{IsKnown}
use Rattle.op_model.specs.Legal.{Legal}
use Rattle.op_model.specs.Operations.{ends}
use Rattle.op_model.specs.Valid.{IsAscending, IsBase, IsDataset}
use Rattle.entry_parts.specs.Parts.{IsPart}

-- whether this is one of the changed pairs
unfoldable pub changes : List Changed → Pair → Bool
changes changed p = list_any (λ c. same_pair c.pair p) changed

-- an active edge of the pair, with this affinity
abbrev pub active_edge : ℕ → Pair → Edge
active_edge affinity p = record { pair = p; weight = Affinity affinity; active = true }

-- whether the edge is active and both its ends are among these
unfoldable pub is_among : List ℕ → Edge → Bool
is_among ids e = (e.active && has ids e.pair.a) && has ids e.pair.b

-- of these edges those that the changed pairs leave as they are
unfoldable pub kept_edges : ℕ → List Changed → List Edge → List Edge
kept_edges affinity changed edges = map (λ f. active_edge affinity f.pair) (filter (λ f. not (changes changed f.pair)) edges)

-- the changed pairs that become active
unfoldable pub gained_edges : ℕ → List Changed → List Edge
gained_edges affinity changed = map (λ c. active_edge affinity c.pair) (filter (λ c. c.active) changed)

-- the supervoxels of the roots that the changed pairs' ends have at the log, with the active edges among them as the changed pairs leave them
pub record IsTouched (d : Dataset) (b : Base) (log : List Entry) (changed : List Changed) (part : Base) : Type 0 where
  pub ascending : IsAscending part.supervoxels
  pub touched : (v : ℕ) → IsTrue (has part.supervoxels v) ↔ (IsTrue (has b.supervoxels v) × ((x : ℕ) × IsTrue (has (ends changed) x) × (root d b log v ≡ root d b log x)))
  pub edges : part.edges ≡ kept_edges d.merge_affinity changed (filter (is_among part.supervoxels) (edges d b log)) ++ gained_edges d.merge_affinity changed

-- no pair that is active after the entry leads out of what it touches
abbrev pub TouchedAreParts : Type 0
TouchedAreParts =
    (d : Dataset) (b : Base) → IsDataset d → IsBase d b → (e : Entry) (log : List Entry) (part : Base) → Legal d b log
    → AllByRecursion (λ c. IsKnown b c.pair) e.changed → PairsAscend (map (λ c. c.pair) e.changed) → IsTouched d b log e.changed part → IsPart d b (e ∷ log) part
