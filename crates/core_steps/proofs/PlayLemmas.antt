-- What a whole run of the core comes to.
use Rattle.std.proofs.Common.{◌≡◌, ℕ, suc, Bool, true, false, List, [], ◌∷◌, ◌++◌, refl, sym, ◌∙◌, ap, subst, Some}
use Rattle.std.specs.Prelude.{slice_get}
use Rattle.std.proofs.lemmas.Bool.{false≢true}
use Rattle.op_model.specs.declared.base.Dataset.{Dataset}
use Rattle.op_model.specs.declared.base.Base.{Base}
use Rattle.op_model.specs.Transcript.{Line}
use Rattle.session_machine.specs.Machine as machine
use Rattle.session_machine.specs.Play.{AllEnded}
use Rattle.session_machine.specs.Laws.{owes_entry}
use Rattle.session_machine.proofs.LinesLemmas.{lines}
use Rattle.session_machine.proofs.WrittenLemmas.{written}
use Rattle.core_steps.specs.Places.{IsGood}
use Rattle.core_steps.specs.Plays.{Played}
use Rattle.core_steps.specs.Runs.{Leads}

-- a client that has ended owes no reply
ended_owes : (s : machine.ClientState) (p : machine.Phase) → machine.is_ended s p ≡ true → owes_entry p ≡ false
ended_owes s machine.Ready e = refl
ended_owes s machine.Ended e = refl
ended_owes s (machine.Again edit) e = refl
ended_owes s (machine.Locking edit n ns) e = refl
ended_owes s (machine.Pinning edit) e = refl
ended_owes s (machine.Planning edit) e = refl
ended_owes s (machine.Waiting edit changed shown) e = refl
ended_owes s (machine.Checking edit changed shown) e = refl
ended_owes s (machine.Committing edit shown x) e = refl
ended_owes s (machine.Yielding r) e = absurd (false≢true e)
ended_owes s (machine.Releasing (machine.Answer r)) e = absurd (false≢true e)
ended_owes s (machine.Releasing (machine.Restart edit)) e = refl
ended_owes s (machine.Replying r) e = absurd (false≢true e)

run_both : (d : Dataset) (b : Base) (xs ys : List (machine.Choice × ℕ)) (w : machine.State) → machine.run d b (xs ++ ys) w ≡ machine.run d b ys (machine.run d b xs w)
run_both d b [] ys w = refl
run_both d b (x ∷ xs) ys w = run_both d b xs ys (machine.step d b x.0 x.1 w)

is_both : (d : Dataset) (b : Base) (xs ys : List (machine.Choice × ℕ)) (w : machine.State) → machine.IsRun d b xs w → machine.IsRun d b ys (machine.run d b xs w) → machine.IsRun d b (xs ++ ys) w
is_both d b [] ys w p q = q
is_both d b (x ∷ xs) ys w p q = (p.0, is_both d b xs ys (machine.step d b x.0 x.1 w) p.1 q)

pub leads_on : (d : Dataset) (b : Base) (w v u : machine.State) → Leads d b w v → Leads d b v u → Leads d b w u
leads_on d b w v u x y = (
  x.0 ++ y.0,
  is_both d b x.0 y.0 w x.1 (subst (machine.IsRun d b y.0) (sym x.2) y.1),
  run_both d b x.0 y.0 w ∙ (ap (machine.run d b y.0) x.2 ∙ y.2),
)

pub played : (d : Dataset) (b : Base) (at : ℕ) (clients : List (List Line × Bool)) (v : machine.State) → IsGood d b v → Leads d b (machine.start d b at clients) v → AllEnded v → Played d b at clients v
played d b at clients v g x e =
    record {
      leads = x;
      ended = e;
      legal = g.log_agrees.legal;
      transcripts = λ k s q. written d b v.shared.log (suc k) s s.phase (ended_owes s s.phase (e k s q)) (g.log_agrees.clients k s q);
      lines = λ k s q. lines d b at clients x.0 k s (subst (λ (w : machine.State). slice_get w.clients k ≡ Some s) (sym x.2) q);
    }
