-- Every fact computes.
use Rattle.std.proofs.Common.{ℕ, refl}
use Rattle.chunk_geometry.specs.Levels.{level as level_of}
use Rattle.components.specs.Joining.{meet}
use Rattle.op_model.proofs.Opened.{definitions as opened}
use Rattle.layer_laws.specs.Levels.{level, chunk_above, meets, leaves, steps, leads_out, leaving}
use Rattle.layer_laws.specs.Building.{least_leaf}
use Rattle.layer_laws.specs.Remaking.{found_in}
use Rattle.layer_laws.proofs.laws.worked_layers.Goals as goal

-- opens all definitions at once
definitions : ℕ
unfolding opened level_of meet level chunk_above meets leaves steps leads_out leaving least_leaf found_in
definitions = 0

pub returns : goal.returns
unfolding definitions
returns c = record {
  level_self = refl;
  level_near = refl;
  level_far = refl;
  level_last = refl;
  above = refl;
  leaves_two = refl;
  leaves_three = refl;
  leaves_four = refl;
  leaves_merged = refl;
  leaving_two = refl;
  leaving_three = refl;
  leaving_four = refl;
  meets_far = refl;
  meets_near = refl;
  stays = refl;
  changes = refl;
  old_number = refl;
  new_number = refl;
  new_root = refl;
  least = refl;
  found = refl;
  either_way = refl;
}
