-- What plans come to.
use Rattle.std.proofs.Common.{◌≡◌, ℕ, true, false, refl, sym, ◌∙◌, ap, subst, Some, None}
use Rattle.std.proofs.lemmas.Bool.{false≢true}
use Rattle.node_ids.specs.Ids.{IsLayout}
use Rattle.op_model.specs.declared.base.Dataset.{Dataset}
use Rattle.op_model.specs.declared.base.Base.{Base}
use Rattle.op_model.specs.declared.request.Edit.{Edit}
use Rattle.op_model.specs.declared.entry.Plan.{Plan}
use Rattle.op_model.specs.declared.reply.Refusal.{Refusal}
use Rattle.op_model.specs.declared.reply.Reply.TheVariants as reply
use Rattle.op_model.specs.Cuts.{Shows}
use Rattle.op_model.specs.Operations.{change}
use Rattle.op_model.specs.Refusals.{refuse_early, refuse_cut}
use Rattle.op_model.specs.Legal.{Legal}
use Rattle.op_model.specs.Transcript.{log_at}
use Rattle.session_machine.specs.Machine as machine
use Rattle.session_machine.specs.Invariant.{ClientHistory}
use Rattle.session_machine.proofs.PrefixLemmas.{still}
use Rattle.client_events.specs.declared.phases.Phase.TheVariants as phase
use Rattle.client_events.specs.declared.phases.After.TheVariants as after
use Rattle.client_events.specs.Events.{Plans, choice}

module _ (d : Dataset) (b : Base) (sh : machine.Shared) (s : machine.ClientState) (client line seen : ℕ) (edit : Edit)
    (same : s.seen ≡ seen) (bits : IsLayout d.layout) (legal : Legal d b sh.log) (history : ClientHistory d b sh.log client s (machine.Planning edit)) where
  pub plans_short : Plans d b sh s client line edit (phase.Releasing (after.Answer reply.NoMemory))
  plans_short = (true, None, λ write_fails clock. ((λ e. absurd (false≢true (sym e))), refl))

  pub plans_refused : (r : Refusal) → (refuse_early d b sh.log edit ≡ None → refuse_cut d b sh.log edit ≡ Some r) → Plans d b sh s client line edit (phase.Releasing (after.Answer (reply.Refused r seen)))
  plans_refused r f =
      let l = still d b sh.log s.seen edit s.pinned bits legal history.seen.0 history.seen.1 history.plan.0 history.plan.1 history.spared in
      let e : refuse_cut d b (log_at d b sh.log s.seen) edit ≡ Some r = sym l.0.cut_refusal ∙ f l.0.early in (
        false,
        None,
        λ write_fails clock. (
          (λ x n. let q : None ≡ Some r = sym n ∙ e in cc),
          subst (λ o. machine.Releasing (machine.Answer (reply.Refused r seen)) ≡ (machine.planned d b (choice write_fails false None clock) sh s edit o).phase) (sym e)
              (ap (λ k. machine.Releasing (machine.Answer (reply.Refused r k))) (sym same)),
        ),
      )

  pub plans_ok : (plan : Plan) → (plan.edit ≡ edit) → (refuse_cut d b sh.log edit ≡ None) → (plan.changed ≡ change d b sh.log edit) → Shows d b sh.log edit plan.shown
      → Plans d b sh s client line edit (phase.Waiting plan)
  plans_ok plan p e q shows =
      let l = still d b sh.log s.seen edit s.pinned bits legal history.seen.0 history.seen.1 history.plan.0 history.plan.1 history.spared in
      let n : refuse_cut d b (log_at d b sh.log s.seen) edit ≡ None = sym l.0.cut_refusal ∙ e in (
        false,
        plan.shown,
        λ write_fails clock. (
          (λ x y. l.2 plan.shown shows),
          subst (λ o. machine.Waiting plan.edit plan.changed plan.shown ≡ (machine.planned d b (choice write_fails false plan.shown clock) sh s edit o).phase) (sym n)
              (ap (λ x. machine.Waiting x plan.changed plan.shown) p ∙ ap (λ x. machine.Waiting edit x plan.shown) (q ∙ l.0.change)),
        ),
      )
