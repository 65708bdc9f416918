-- Where a step is a fault.
use Rattle.std.proofs.Common.{◌≡◌, ℕ, pred, Bool, true, false, cond, eqb, List, [], ◌∷◌, length, refl, sym, ◌∙◌, subst, inl, inr, Some}
use Rattle.std.specs.Prelude.{slice_get}
use Rattle.std.proofs.lemmas.Bool.{false≢true}
use Rattle.op_model.specs.declared.base.Dataset.{Dataset}
use Rattle.op_model.specs.declared.base.Base.{Base}
use Rattle.op_model.specs.declared.entry.Entry.{Entry}
use Rattle.op_model.specs.declared.reply.Reply.{Reply}
use Rattle.op_model.specs.Transcript.{Line}
use Rattle.session_machine.specs.Machine as machine
use Rattle.client_events.specs.declared.clients.Client.{Client}
use Rattle.client_events.specs.declared.clients.Table.{Table}
use Rattle.client_events.specs.declared.events.Act.TheVariants as act
use Rattle.core_steps.specs.declared.stepping.Step.{Step}
use Rattle.core_steps.specs.declared.stepping.Step.TheVariants as step
use Rattle.client_events.specs.Steps.{act_named}
use Rattle.core_steps.specs.CoreSteps.{HasFault, Puts, StepIs}
use Rattle.client_events.proofs.StepLemmas.{named_taken}

module _ {W : Type 0} (puts misses : W → ℕ → Reply → W → Type 0) (rose : Type 0) (old new : W) (d : Dataset) (b : Base) (w : machine.State) (i k : ℕ) (s : machine.ClientState) (c : machine.Choice) where
  fault_at : (p : machine.Phase) → s.phase ≡ p → slice_get w.clients (pred i) ≡ Some s → machine.is_able w.shared s p ≡ true → Puts puts misses rose old new i p c.write_fails
      → act.Fault ≡ act_named p (machine.event d b c k w.shared s p).1.phase → HasFault rose w i
  fault_at machine.Ready q there able o e = go s.lines refl
    where
      go : (ls : List Line) → s.lines ≡ ls → HasFault rose w i
      go [] h = inr (s, there, q, h, subst (λ xs. cond (eqb (length xs) 0) s.faulty true ≡ true) h able)
      go (l ∷ ls) h =
          let look : act_named machine.Ready (machine.take_line d b c w.shared s s.lines).phase ≡ act.Look =
          subst (λ xs. act_named machine.Ready (machine.take_line d b c w.shared s xs).phase ≡ act.Look) (sym h) (named_taken d b w.shared (record s { lines = ls; asked = l ∷ s.asked }) c.no_memory l) in
          let clash : act.Fault ≡ act.Look = e ∙ look in
          cc
  fault_at (machine.Replying r) q there able o e = go c.write_fails o e
    where
      go : (t : Bool) → Puts puts misses rose old new i (machine.Replying r) t → act.Fault ≡ act_named (machine.Replying r) (cond t machine.Ended machine.Ready) → HasFault rose w i
      go true o e = inl o.1
      go false o e = cc
  fault_at (machine.Again edit) q there able o e = cc
  fault_at (machine.Locking edit n ns) q there able o e = cc
  fault_at (machine.Pinning edit) q there able o e = cc
  fault_at (machine.Planning edit) q there able o e = cc
  fault_at (machine.Waiting edit changed shown) q there able o e = cc
  fault_at (machine.Checking edit changed shown) q there able o e = cc
  fault_at (machine.Committing edit shown x) q there able o e = cc
  fault_at (machine.Yielding r) q there able o e = cc
  fault_at (machine.Releasing a) q there able o e = cc
  fault_at machine.Ended q there able o e = absurd (false≢true able)

-- a step that is a fault has its cause
pub fault_of : {V W : Type 0} (asked : List ℕ → Line) (stands : V → Dataset → Base → List Entry → Type 0) (drafts : V → Dataset → Base → List Entry → Entry → Type 0) (puts misses : W → ℕ → Reply → W → Type 0) (rose : Type 0) (old new : W)
    (rows rows2 : V) (d : Dataset) (b : Base) (t u : Table) (clients others : List Client) (w : machine.State) (i clock : ℕ) (r : Step) → r ≡ step.Moved act.Fault
    → StepIs asked stands drafts puts misses rose old new rows rows2 d b t u clients others w i clock r → HasFault rose w i
fault_of asked stands drafts puts misses rose old new rows rows2 d b t u clients others w i clock r e x =
    go (subst (StepIs asked stands drafts puts misses rose old new rows rows2 d b t u clients others w i clock) e x)
  where
    go : StepIs asked stands drafts puts misses rose old new rows rows2 d b t u clients others w i clock (step.Moved act.Fault) → HasFault rose w i
    go y = fault_at puts misses rose old new d b w i i y.0 y.3 y.0.phase refl y.1 y.2 y.9 y.10
