-- Inner: no clause of `run` is made of it.
-- When the draft of an entry can be made: what is known of the plan, the nodes, the links and the places.
use Rattle.std.specs.Prelude.{ℕ, ◌≤◌, List, ◌∷◌}
use Rattle.op_model.specs.declared.base.Dataset.{Dataset}
use Rattle.op_model.specs.declared.base.Base.{Base}
use Rattle.op_model.specs.declared.entry.Changed.{Changed}
use Rattle.op_model.specs.declared.entry.Entry.{Entry}
use Rattle.op_model.specs.declared.request.Edit.{Edit}
use Rattle.op_model.specs.Legal.{Legal, LegalPlan}
use Rattle.op_model.specs.Operations.{next_entry}
use Rattle.op_model.specs.Records.{records}
use Rattle.record_rows.specs.Readings.{Image}
use Rattle.entry_parts.specs.declared.made.MadeLink.{MadeLink}
use Rattle.entry_parts.specs.declared.made.MadeNode.{MadeNode}
use Rattle.entry_parts.specs.Made.{AreLinks, AreMade}
use Rattle.entry_rows.specs.Retiring.{AreOnPaths}

-- The words are the image of the log, and the edit's plan changes these pairs. The entry that it makes for a client's line at a time is legal, and there is room for its records. It makes these nodes and links, and retires the nodes at these places.
pub record IsDrafting (d : Dataset) (b : Base) (log : List Entry) (edit : Edit) (changed : List Changed) (client line at : ℕ) (nodes : List MadeNode) (links : List MadeLink) (retired words : List ℕ) : Type 0 where
  pub image : Image d b log words
  pub plan : LegalPlan d b log edit changed
  pub legal : Legal d b (next_entry d b log client line at edit ∷ log)
  pub fits : records d b (next_entry d b log client line at edit ∷ log) ≤ d.capacity
  pub nodes_are : AreMade d b log (next_entry d b log client line at edit) nodes
  pub links_are : AreLinks d b log (next_entry d b log client line at edit) nodes links
  pub retired_are : AreOnPaths d b log (next_entry d b log client line at edit) retired
