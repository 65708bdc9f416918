-- Inner: no clause of `run` is made of it.
-- What is known of the lists that the layers of a uniting entry are made from.
use Rattle.std.specs.Prelude.{ℕ, true, ◌<◌, ◌≤◌, List}
use Rattle.std.specs.List.{All}
use Rattle.op_model.specs.declared.base.Dataset.{Dataset}
use Rattle.op_model.specs.declared.base.Base.{Base}
use Rattle.op_model.specs.declared.entry.Entry.{Entry}
use Rattle.op_model.specs.Chunks.{top}
use Rattle.record_rows.specs.Readings.{ParentImage}
use Rattle.entry_parts.specs.Parts.{AreEndsAt}
use Rattle.unite_laws.specs.Uniting.{HaveState}
use Rattle.united_layers.specs.declared.joints.PlacedJoint.{PlacedJoint}
use Rattle.united_layers.specs.Jointed.{pairs_to}
use Rattle.united_layers.specs.Representing.{AreRepresentatives, JoinRepresentatives}

-- the joints are of places below this number
abbrev pub ArePlaced : ℕ → List PlacedJoint → Type 0
ArePlaced n joints = All (λ j. (j.a < n) × (j.b < n)) joints

-- The words tell of a log, and an entry e is to follow that only makes pairs active. These are its representatives, the places of the ends of its changed pairs, and the joints by places.
pub record IsUnitedList (d : Dataset) (b : Base) (log : List Entry) (e : Entry) (words ids ends : List ℕ) (joints : List PlacedJoint) : Type 0 where
  pub image : ParentImage d b log words
  pub active : HaveState true e.changed
  pub represent : AreRepresentatives d b e.changed log ids
  pub join : (layer : ℕ) → 2 ≤ layer → layer ≤ top d → JoinRepresentatives d b e.changed log ids layer (pairs_to layer joints)
  pub ends_at : AreEndsAt ids e.changed ends
