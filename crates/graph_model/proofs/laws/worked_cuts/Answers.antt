use Rattle.std.proofs.Common.{refl}
use Rattle.graph_model.specs.Cuts.{least_cut}
use Rattle.graph_model.proofs.laws.worked_cuts.Goals as goal

pub returns : goal.returns
unfolding least_cut
returns c = record {
  nearest = refl;
  weakest = refl;
  tied = refl;
  many_marks = refl;
  glue_stays = refl;
  glued = refl;
  first_glued = refl;
}
