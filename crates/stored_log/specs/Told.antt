-- Inner: no clause of `run` is made of it.
-- What the core knows of a draft.
use Rattle.client_events.specs.declared.rows.Stamp.{Stamp}
use Rattle.client_events.specs.declared.rows.Remade.{Remade}
use Rattle.hierarchy_edit.specs.declared.remaking.Stamp as edit_stamp
use Rattle.hierarchy_edit.specs.declared.remaking.Remade as edit_remade

-- the same stamp, as the crate that makes entries has it
abbrev pub stamp_of : Stamp → edit_stamp.Stamp
stamp_of s = record { client = s.client; line = s.line; now = s.now }

-- what is told of an entry, without its draft
abbrev pub told_of : edit_remade.Remade → Remade
told_of r = record { op = r.op; at = r.at; retired = r.retired; made = r.made }
