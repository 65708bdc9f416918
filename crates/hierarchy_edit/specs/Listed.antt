-- Inner: no clause of `run` is made of it.
-- What is found out about an entry before its draft is made.
use Rattle.std.specs.Prelude.{◌≡◌, ℕ, [], ◌∷◌, nat_le, Bool, false, List, None, length, map, Option}
use Rattle.std.specs.List.{flat_map}
use Rattle.node_ids.specs.Ids.{parts_of, segments}
use Rattle.op_model.specs.declared.base.Dataset.{Dataset}
use Rattle.op_model.specs.declared.base.Base.{Base}
use Rattle.op_model.specs.declared.request.Edit.{Edit}
use Rattle.op_model.specs.declared.entry.Changed.{Changed}
use Rattle.op_model.specs.declared.entry.Entry.{Entry}
use Rattle.op_model.specs.declared.reply.Refusal.{Refusal}
use Rattle.op_model.specs.declared.reply.Refusal.TheVariants.{IdsSpent}
use Rattle.op_model.specs.Chunks.{chunk, layers}
use Rattle.op_model.specs.Labels.{used}
use Rattle.op_model.specs.Operations.{ascending, next_entry}
use Rattle.op_model.specs.Records.{need, spare, unknown_count}
use Rattle.op_model.specs.Refusals.{last_at, refuse_first}
use Rattle.entry_parts.specs.Made.{AreLinks, AreMade}
use Rattle.entry_rows.specs.Retiring.{AreOnPaths}
use Rattle.hierarchy_edit.specs.declared.listing.Listed.{Listed}
use Rattle.hierarchy_edit.specs.declared.standing.LogState.{LogState}

-- whether there are changed pairs, and the first becomes active
unfoldable pub is_uniting : List Changed → Bool
is_uniting [] = false
is_uniting (c ∷ more) = c.active

-- the refusal of a chunk of a layer that has no number left
abbrev pub refuse_chunk : Dataset → ℕ × ℕ → Refusal
refuse_chunk d c = let p = parts_of d.layout c.1 in IdsSpent p.layer p.x p.y p.z

-- what a log tells before an entry that changes these pairs
pub record IsLogState (d : Dataset) (b : Base) (log : List Entry) (changed : List Changed) (x : LogState) : Type 0 where
  pub number : x.number ≡ length log
  pub last : x.last ≡ last_at log
  pub left : x.spare ≡ spare d b log
  pub unknown : x.unknown ≡ unknown_count d b log changed

module _ (d : Dataset) (b : Base) (log : List Entry) (edit : Edit) where
  -- the refusal of the first chunk that would need a number over the greatest of its layer
  abbrev pub refuse_ids : Option Refusal
  refuse_ids =
      refuse_first {X = ℕ × ℕ} (refuse_chunk d)
      (λ c. nat_le (segments d.layout c.0) (used d b (next_entry d b log 0 0 0 edit ∷ log) c.0 c.1))
      (flat_map (λ layer. map (λ c. (layer, c)) (ascending (map (chunk d layer) b.supervoxels))) (layers d))

  -- the numbers, the refusal and the roots of the entry, its nodes, the places of those that it retires, and its links if there are numbers for all nodes
  pub record IsListed (x : Listed) : Type 0 where
    pub number : x.number ≡ length log
    pub last : x.last ≡ last_at log
    pub needed : x.need ≡ need d b log edit
    pub left : x.spare ≡ spare d b log
    pub spent : x.spent ≡ refuse_ids
    pub retired : x.retired ≡ (next_entry d b log 0 0 0 edit).retired
    pub made : x.made ≡ (next_entry d b log 0 0 0 edit).made
    pub nodes : (client line at : ℕ) → AreMade d b log (next_entry d b log client line at edit) x.nodes.items
    pub links : (client line at : ℕ) → refuse_ids ≡ None → AreLinks d b log (next_entry d b log client line at edit) x.nodes.items x.links.items
    pub places : (client line at : ℕ) → AreOnPaths d b log (next_entry d b log client line at edit) x.places.items
