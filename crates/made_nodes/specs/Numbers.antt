-- Inner: no clause of `run` is made of it.
-- The new nodes of a layer and their numbers, which go on from the greatest one of each chunk in the order of least leaves.
use Rattle.std.specs.Prelude.{◌≡◌, ℕ, ◌+◌, ◌-◌, ◌==◌, nat_le, if◌then◌else◌, List, [], ◌∷◌, Option, Some, None, IsTrue}
use Rattle.std.specs.List.{filter}
use Rattle.std.specs.List.Sorted.{IsPermutation, IsNonDecreasingBy}
use Rattle.graph_model.specs.Lists.{has}
use Rattle.op_model.specs.declared.base.Dataset.{Dataset}
use Rattle.op_model.specs.declared.base.Base.{Base}
use Rattle.op_model.specs.Chunks.{chunk, layers}
use Rattle.record_rows.specs.LogRows.{layer_chunks}
use Rattle.layer_laws.specs.Building.{at}
use Rattle.entry_parts.specs.declared.made.MadeNode.{MadeNode}
use Rattle.made_nodes.specs.declared.owning.Owner.{Owner}

-- a chunk of this layer that holds a supervoxel
abbrev pub IsHeld : Dataset → Base → ℕ → ℕ → Type 0
IsHeld d b layer c = IsTrue (has (layers d) layer) × IsTrue (has (layer_chunks d b layer) c)

-- the node whose least leaf stands at a place
abbrev pub owner : Dataset → List ℕ → ℕ → ℕ → Owner
owner d ids layer i = record { chunk = chunk d layer (at ids i); least = i }

-- the same nodes by ascending chunks, those of one chunk as they stood
pub record AreByChunk (old new : List Owner) : Type 0 where
  pub moved : IsPermutation old new
  pub same : (c : ℕ) → filter (λ o. o.chunk == c) new ≡ filter (λ o. o.chunk == c) old
  pub rising : IsNonDecreasingBy (λ o. o.chunk) new

-- the number of a node behind one of this chunk with this number, where each chunk has a greatest number so far
abbrev pub number_behind : (ℕ → ℕ) → ℕ → ℕ → ℕ → ℕ
number_behind used last number c = if c == last then number + 1 else used c + 1

-- nodes that stand by their chunks, with the next number of its chunk for each
unfoldable pub numbered : (ℕ → ℕ) → List ℕ → ℕ → ℕ → List Owner → List MadeNode
numbered used ids last number [] = []
numbered used ids last number (o ∷ os) =
    record { id = o.chunk + number_behind used last number o.chunk; chunk = o.chunk; least = at ids o.least }
    ∷ numbered used ids o.chunk (number_behind used last number o.chunk) os

-- the chunk of the first node whose number isn't below the limit
unfoldable pub first_spent : ℕ → List MadeNode → Option ℕ
first_spent limit [] = None
first_spent limit (m ∷ ms) = if nat_le limit (m.id - m.chunk) then Some m.chunk else first_spent limit ms
