-- Examples: no clause of `run` is made of them.
-- Least cuts of small nets between vertices 0 and 3, evaluated.
use Rattle.std.specs.Prelude.{◌≡◌, ℕ, [], ◌∷◌, Some, None}
use Rattle.graph_model.specs.Wires.{Wire}
use Rattle.graph_model.specs.Cuts.{least_cut, separating_sets, first_open, is_affinity}

-- a link with this room
abbrev pub link : ℕ → ℕ → ℕ → Wire
link a b room = record { a = a; b = b; room = Some room }

-- a link of glue
abbrev pub glue : ℕ → ℕ → Wire
glue a b = record { a = a; b = b; room = None }

-- least cuts, what nothing separates, and the first marks that glue joins
pub record WorkedCuts : Type 0 where
  -- of three cuts of one weight it is the one nearest to the sources
  pub nearest : least_cut (link 0 1 5 ∷ link 1 2 5 ∷ link 2 3 5 ∷ []) (0 ∷ []) (3 ∷ []) ≡ 0 ∷ []
  pub weakest : least_cut (link 0 1 10 ∷ link 1 2 7 ∷ link 2 3 5 ∷ []) (0 ∷ []) (3 ∷ []) ≡ 2 ∷ []
  pub tied : least_cut (link 0 1 3 ∷ link 0 2 2 ∷ link 1 2 5 ∷ link 1 3 2 ∷ link 2 3 3 ∷ []) (0 ∷ []) (3 ∷ []) ≡ 0 ∷ 1 ∷ []
  -- two sources, two sinks, and a link that no cut needs
  pub many_marks : least_cut (link 0 2 4 ∷ link 1 2 4 ∷ link 2 3 9 ∷ link 2 4 9 ∷ link 0 1 1 ∷ []) (0 ∷ 1 ∷ []) (3 ∷ 4 ∷ []) ≡ 0 ∷ 1 ∷ []
  -- glue is cut round
  pub glue_stays : least_cut (glue 0 1 ∷ link 1 2 9 ∷ link 2 3 9 ∷ []) (0 ∷ []) (3 ∷ []) ≡ 1 ∷ []
  -- nothing separates what glue joins
  pub glued : separating_sets (glue 0 1 ∷ link 1 2 7 ∷ []) (0 ∷ []) (1 ∷ []) ≡ []
  pub first_glued : first_open (glue 2 1 ∷ link 1 0 7 ∷ []) (is_affinity (glue 2 1 ∷ link 1 0 7 ∷ [])) (0 ∷ 2 ∷ []) (3 ∷ 1 ∷ []) ≡ Some (2, 1)
