-- Inner: no clause of `run` is made of it.
-- Parts of a base that nothing joins to the rest.
use Rattle.std.specs.Prelude.{◌≡◌, ℕ, ◌<◌, ◌↔◌, List, [], length, map, IsTrue}
use Rattle.std.specs.List.{All}
use Rattle.graph_model.specs.Lists.{has}
use Rattle.op_model.specs.declared.base.Dataset.{Dataset}
use Rattle.op_model.specs.declared.base.Base.{Base}
use Rattle.op_model.specs.declared.entry.Changed.{Changed}
use Rattle.op_model.specs.declared.entry.Entry.{Entry}
use Rattle.op_model.specs.Edges.{linked}
use Rattle.op_model.specs.Labels.{component, edges}
use Rattle.op_model.specs.Operations.{ends}
use Rattle.op_model.specs.Valid.{IsAscending, IsBase}
use Rattle.layer_laws.specs.Building.{at, least_leaf}

-- supervoxels, ascending, with each of them all that any layer joins to it
pub record IsWhole (d : Dataset) (b : Base) (log : List Entry) (ids : List ℕ) : Type 0 where
  pub ascending : IsAscending ids
  pub known : (v : ℕ) → IsTrue (has ids v) → IsTrue (has b.supervoxels v)
  pub whole : (layer v w : ℕ) → IsTrue (has ids v) → IsTrue (has (component d b log layer v) w) → IsTrue (has ids w)

-- a base of some of the supervoxels, from which no active pair of the log leads out, with just the active pairs of the log between them
pub record IsPart (d : Dataset) (b : Base) (log : List Entry) (part : Base) : Type 0 where
  pub base : IsBase d part
  pub known : (v : ℕ) → IsTrue (has part.supervoxels v) → IsTrue (has b.supervoxels v)
  pub closed : (u v : ℕ) → IsTrue (has part.supervoxels u) → IsTrue (linked (edges d b log) u v) → IsTrue (has part.supervoxels v)
  pub same : (u v : ℕ) → IsTrue (has part.supervoxels u) → IsTrue (has part.supervoxels v) → linked (edges d part []) u v ≡ linked (edges d b log) u v

-- for the place of each of these supervoxels the place of the least leaf of its node
pub record AreFirstsOf (d : Dataset) (b : Base) (log : List Entry) (ids : List ℕ) (layer : ℕ) (firsts : List ℕ) : Type 0 where
  pub count : length firsts ≡ length ids
  pub small : (i : ℕ) → i < length ids → at firsts i < length ids
  pub leaf : (i : ℕ) → i < length ids → at ids (at firsts i) ≡ least_leaf d b log layer (at ids i)

-- these are the places of just the ends of the changed pairs, each once, ascending
pub record AreEndsAt (ids : List ℕ) (changed : List Changed) (places : List ℕ) : Type 0 where
  pub ascending : IsAscending places
  pub small : All (λ p. p < length ids) places
  pub all : (v : ℕ) → IsTrue (has (ends changed) v) ↔ IsTrue (has (map (at ids) places) v)
