use Rattle.std.proofs.Common.{rules, Option, Some, Ok, sym, subst}
use Rattle.client_events.specs.Calls.{Remakes}
use Rattle.client_events.specs.declared.rows.Remade.{Remade}
use Rattle.hierarchy_edit.specs.Remade.{IsRemade}
use Rattle.row_words.specs.Drafts.{DraftRows}
use Rattle.stored_log.specs.Stored.{Waits}
use Rattle.stored_log.proofs.DraftFacts.{drafted}
use Rattle.stored_log.proofs.drafting.redraft.Goals as goal

pub returns-in-Ok-clause-is : goal.returns-in-Ok-clause-is
returns-in-Ok-clause-is c b log image legal =
    let d = c.args.dataset.now in
    let entry = c.in-Ok.entry in
    let is = subst (λ s. IsRemade d b log c.args.plan.now.edit s entry) c.stamp_of.ensures (c.in-Ok.ensures.remade b log image legal) in
    let P : Option DraftRows → Remade → Type 0 = λ k m. Remakes (Waits c.args.w.now k) d b log c.args.plan.now c.args.stamp (Ok m) in
    subst (λ k. P k c.keep.result) (sym c.keep.ensures.kept) (subst (P (Some entry.draft)) (sym c.keep.ensures.told)
    (drafted d b log c.args.plan.now c.args.stamp c.args.w.now image legal c.requires.room (search rules) (search rules) entry is))
