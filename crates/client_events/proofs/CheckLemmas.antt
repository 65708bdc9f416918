-- What checks in the turn come to.
use Rattle.std.proofs.Common.{◌≡◌, ℕ, true, false, List, length, refl, sym, ◌∙◌, ap, subst, Some, None}
use Rattle.op_model.specs.declared.base.Dataset.{Dataset}
use Rattle.op_model.specs.declared.base.Base.{Base}
use Rattle.op_model.specs.declared.entry.Asked.TheVariants as asked
use Rattle.op_model.specs.declared.entry.Entry.{Entry}
use Rattle.op_model.specs.declared.entry.Plan.{Plan}
use Rattle.op_model.specs.declared.reply.Refusal.{Refusal}
use Rattle.op_model.specs.declared.reply.Reply.TheVariants as reply
use Rattle.op_model.specs.Operations.{entry_of}
use Rattle.op_model.specs.Refusals.{refuse_late}
use Rattle.op_model.specs.Stamps.{stamp}
use Rattle.session_machine.specs.Machine as machine
use Rattle.client_events.specs.declared.rows.Stamp.{Stamp}
use Rattle.client_events.specs.declared.rows.Remade.{Remade}
use Rattle.client_events.specs.declared.phases.Phase.TheVariants as phase
use Rattle.client_events.specs.Phases.{entry_drafted}
use Rattle.client_events.specs.Calls.{entry_from}
use Rattle.client_events.specs.Events.{Checks, choice}

-- an entry by its parts
abbrev with_parts : Entry → ℕ → ℕ → List ℕ → List ℕ → Entry
with_parts e n at retired made = record e { number = n; at = at; retired = retired; made = made }

-- what the draft tells is the plan's entry
told_is : (d : Dataset) (b : Base) (log : List Entry) (plan : Plan) (st : Stamp) (r : Remade)
    → (let e = entry_from d b log plan st in (r.op ≡ e.number) × (r.at ≡ e.at) × (r.retired ≡ e.retired) × (r.made ≡ e.made)) → entry_drafted st.client st.line plan r ≡ entry_from d b log plan st
unfolding entry_of
told_is d b log plan st r p =
    let e = entry_from d b log plan st in
    ap (λ x. with_parts e x r.at r.retired r.made) p.0 ∙ (ap (λ x. with_parts e e.number x r.retired r.made) p.1
    ∙ (ap (λ x. with_parts e e.number e.at x r.made) p.2 ∙ ap (λ x. with_parts e e.number e.at e.retired x) p.3))

module _ (drafts : Dataset → Base → List Entry → Entry → Type 0) (d : Dataset) (b : Base) (sh : machine.Shared) (s : machine.ClientState) (st : Stamp) (plan : Plan) (seen : ℕ)
    (line : length s.asked ≡ st.line) (now : seen ≡ length sh.log) where
  pub checks_short : Checks drafts d b sh s st plan.edit plan.changed plan.shown (record { phase = phase.Yielding reply.NoMemory; seen = seen })
  checks_short = (true, (λ write_fails other. (refl, now)), tt)

  pub checks_refused : (r : Refusal) → refuse_late d b sh.log plan.edit ≡ Some r → Checks drafts d b sh s st plan.edit plan.changed plan.shown (record { phase = phase.Yielding (reply.Refused r seen); seen = seen })
  checks_refused r e = (
    false,
    (λ write_fails other.
        subst (λ o. (machine.Yielding (reply.Refused r seen) ≡ (machine.checked d b (choice write_fails false other st.now) st.client sh s plan.edit plan.changed plan.shown o).phase)
        × (seen ≡ (machine.checked d b (choice write_fails false other st.now) st.client sh s plan.edit plan.changed plan.shown o).seen)) (sym e)
        (ap (λ k. machine.Yielding (reply.Refused r k)) now, now)),
    tt,
  )

  pub checks_ok : (r : Remade) → refuse_late d b sh.log plan.edit ≡ None → drafts d b sh.log (entry_from d b sh.log plan st)
      → (let e = entry_from d b sh.log plan st in (r.op ≡ e.number) × (r.at ≡ e.at) × (r.retired ≡ e.retired) × (r.made ≡ e.made))
      → Checks drafts d b sh s st plan.edit plan.changed plan.shown (record { phase = phase.Committing plan r; seen = seen })
  checks_ok r e draft p =
      let t = told_is d b sh.log plan st r p in (
        false,
        (λ write_fails other.
            subst (λ o. (machine.Committing plan.edit plan.shown (entry_drafted st.client st.line plan r) ≡ (machine.checked d b (choice write_fails false other st.now) st.client sh s plan.edit plan.changed plan.shown o).phase)
            × (seen ≡ (machine.checked d b (choice write_fails false other st.now) st.client sh s plan.edit plan.changed plan.shown o).seen)) (sym e) (
              ap (machine.Committing plan.edit plan.shown) t
                  ∙ ap (λ n. machine.Committing plan.edit plan.shown (entry_of d b sh.log st.client n (stamp sh.log st.now) (asked.Edit plan.edit) plan.changed)) (sym line),
              now,
            )),
        subst (drafts d b sh.log) (sym t) draft,
      )
