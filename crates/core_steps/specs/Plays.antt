-- Inner: no clause of `run` is made of it.
-- What a whole run of the core comes to.
use Rattle.std.specs.Prelude.{◌≡◌, ℕ, suc, Bool, List, ◌++◌, reverse, slice_get, Some}
use Rattle.op_model.specs.declared.base.Dataset.{Dataset}
use Rattle.op_model.specs.declared.base.Base.{Base}
use Rattle.op_model.specs.Legal.{Legal}
use Rattle.op_model.specs.Transcript.{Line, WholeTranscript}
use Rattle.session_machine.specs.Machine as machine
use Rattle.session_machine.specs.Play.{AllEnded}
use Rattle.core_steps.specs.Runs.{Leads}

-- from the start a run of the machine led here, by choices that are allowed, and all clients have ended: the log is legal, and what each client was replied is a transcript over its lines
pub record Played (d : Dataset) (b : Base) (at : ℕ) (clients : List (List Line × Bool)) (v : machine.State) : Type 0 where
  pub leads : Leads d b (machine.start d b at clients) v
  pub ended : AllEnded v
  pub legal : Legal d b v.shared.log
  pub transcripts : (k : ℕ) (s : machine.ClientState) → slice_get v.clients k ≡ Some s → WholeTranscript d b v.shared.log (suc k) (reverse s.asked ++ s.lines) (reverse s.replies)
  pub lines : (k : ℕ) (s : machine.ClientState) → slice_get v.clients k ≡ Some s → (l : List Line × Bool) × (slice_get clients k ≡ Some l) × (reverse s.asked ++ s.lines ≡ l.0) × (s.faulty ≡ l.1)
