-- Inner: no clause of `run` is made of it.
-- Walks that go up one level with each link.
use Rattle.std.specs.Prelude.{◌≡◌, ℕ, zero, suc, ◌+◌, ◌<◌, ◌≤◌, Bool, true, List, length, ℤ, slice_index_or}
use Rattle.std.specs.declared.option.Option.{Option}
use Rattle.std.specs.declared.option.Option.TheVariants.{Some}
use Rattle.graph_model.specs.Wires.{Wire}
use Rattle.min_cut.specs.Tree.{Carries, visit_at}
use Rattle.min_cut.specs.Queue.{marked}
use Rattle.min_cut.specs.declared.search.Visit.{Visit}
use Rattle.min_cut.specs.declared.blocking.Step.{Step}
use Rattle.min_cut.specs.declared.blocking.Next.{Next}

-- what a list has past its end
abbrev pub no_step : Step
no_step = record { link = 0; from = 0; room = 0 }

abbrev pub step_at : List Step → ℕ → Step
step_at steps i = slice_index_or steps i no_step

-- a link that leads one level up and can carry more
pub record IsStep (ws : List Wire) (fs : List ℤ) (level : ℕ → ℕ) (step : Step) (to : ℕ) : Type 0 where
  pub carries : Carries ws fs step.link step.from to step.room
  pub some : 0 < step.room
  pub narrow : step.room ≤ 8589934592
  pub up : level step.from + 1 ≡ level to

-- the first `depth` steps are a walk from the source, at level 0, to the vertex
abbrev pub Climbs : List Wire → List ℤ → (ℕ → ℕ) → List Step → ℕ → ℕ → ℕ → Type 0
Climbs ws fs level steps source zero at = (at ≡ source) × (level source ≡ 0)
Climbs ws fs level steps source (suc d) at = IsStep ws fs level (step_at steps d) at × Climbs ws fs level steps source d (step_at steps d).from

-- the vertices of such a walk are alive
abbrev pub AllAlive : List Bool → List Step → ℕ → ℕ → Type 0
AllAlive alive steps zero at = marked alive at ≡ true
AllAlive alive steps (suc d) at = (marked alive at ≡ true) × AllAlive alive steps d (step_at steps d).from

-- a link that leads on from a vertex of the level, to one that is alive
pub record IsNext (ws : List Wire) (fs : List ℤ) (visits : List (Option Visit)) (alive : List Bool) (at level : ℕ) (next : Next) : Type 0 where
  pub carries : Carries ws fs next.link at next.to next.room
  pub some : 0 < next.room
  pub narrow : next.room ≤ 8589934592
  pub below : next.to < length visits
  pub living : marked alive next.to ≡ true
  pub seen : (visit : Visit) × (visit_at visits next.to ≡ Some visit) × (visit.level ≡ level + 1)
