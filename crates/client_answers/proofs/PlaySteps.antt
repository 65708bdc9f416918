-- Runs of the core without their outlet.
use Rattle.std.proofs.Common.{ℕ, List, [], ◌∷◌, inl, inr}
use Rattle.op_model.specs.declared.base.Dataset.{Dataset}
use Rattle.op_model.specs.declared.base.Base.{Base}
use Rattle.op_model.specs.declared.reply.Reply.{Reply}
use Rattle.session_machine.specs.Machine.{State}
use Rattle.pcg_base.specs.declared.clock.Ticks.{Ticks}
use Rattle.core_steps.specs.Runs.{Finishes, Runs, Turns}
use Rattle.client_answers.specs.Plays.{Steps, StepsAll, StepsLeast}

module _ {W : Type 0} (faults : W → ℕ) (puts misses : W → ℕ → Reply → W → Type 0) (d : Dataset) (b : Base) (ticks : Ticks) where
  steps : (n : ℕ) (w v : State) (a a2 : W) → Turns faults puts misses d b ticks n w a v a2 → Steps d b ticks n w v
  steps n w v a a2 t = (t.0, t.1, elim t.2 [ inl p ↦ inl (p.0, p.1, p.2, p.3, p.4) | inr p ↦ inr (p.0, p.1) ])

  pub steps_all : (ns : List ℕ) (w v : State) (a a2 : W) → Runs faults puts misses d b ticks ns w a v a2 → StepsAll d b ticks ns w v
  steps_all [] w v a a2 r = r.0
  steps_all (n ∷ ns) w v a a2 r = (r.0, steps n w r.0 a r.1 r.2, steps_all ns r.0 v r.1 a2 r.3)

  pub steps_least : (ns : List ℕ) (w v : State) (a a2 : W) → Finishes faults puts misses d b ticks ns w a v a2 → StepsLeast d b ticks ns w v
  steps_least [] w v a a2 r = r.0
  steps_least (n ∷ ns) w v a a2 r = (r.0, r.1, steps n w r.1 a r.2 r.3, steps_least ns r.1 v r.2 a2 r.4)
