-- Inner: no clause of `run` is made of it.
-- What a pass of shared rows knows.
use Rattle.std.specs.Prelude.{◌<◌, length}
use Rattle.op_model.specs.declared.base.Dataset.{Dataset}
use Rattle.shared_rows.specs.declared.view.View.{View}
use Rattle.shared_rows.specs.Known.{Known, Place}
use Rattle.edit_desk.specs.Desk.{IsReady}
use Rattle.desks.specs.Desks.{Knows}

-- what the client of a pass knows
abbrev pub known_by : View → Knows
known_by v = record { client = v.number; dataset = v.dataset; base = v.base; log = v.log; own = v.own }

-- the pass is one of these rows over this dataset, holds nothing, and has seen an entry
pub record IsOpen (shared : Place) (d : Dataset) (p : Known) : Type 0 where
  pub ready : IsReady shared d p
  pub some : 0 < length p.view.log
