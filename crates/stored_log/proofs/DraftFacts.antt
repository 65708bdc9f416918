-- The draft that an edit's entry gets is what the core asks.
use Rattle.std.proofs.Common.{◌≡◌, ◌+◌, ◌*◌, ◌^◌, ◌<◌, ◌≤◌, List, length, Some, None, Result, Ok, Err, refl, sym, ◌∙◌, ap, subst}
use Rattle.op_model.specs.declared.base.Dataset.{Dataset}
use Rattle.op_model.specs.declared.base.Base.{Base}
use Rattle.op_model.specs.declared.entry.Asked.TheVariants as asked
use Rattle.op_model.specs.declared.entry.Entry.{Entry}
use Rattle.op_model.specs.declared.entry.Plan.{Plan}
use Rattle.op_model.specs.declared.reply.Refusal.{Refusal}
use Rattle.op_model.specs.declared.reply.Refusal.TheVariants.{NoMemory}
use Rattle.op_model.specs.Legal.{LegalPlan}
use Rattle.op_model.specs.Operations.{entry_of, next_entry}
use Rattle.op_model.specs.Refusals.{refuse_late}
use Rattle.op_model.specs.Stamps.{stamp}
use Rattle.pcg_base.specs.WordStores.{WordStore}
use Rattle.record_rows.specs.Readings.{Image}
use Rattle.row_words.specs.Drafts.{applied}
use Rattle.client_events.specs.declared.rows.Stamp.{Stamp}
use Rattle.client_events.specs.declared.rows.Remade.{Remade}
use Rattle.client_events.specs.Calls.{Remakes, entry_from}
use Rattle.hierarchy_edit.specs.declared.remaking.Remade as edit_remade
use Rattle.hierarchy_edit.specs.Remade.{IsLate, IsRemade, entry_for}
use Rattle.hierarchy_edit.proofs.Committed.{tail_is, fitting, committed, long}
use Rattle.stored_log.specs.declared.logs.StoredLog.{StoredLog}
use Rattle.stored_log.specs.Stored.{Drafts, IsDraftOf, Stands, Waits}
use Rattle.stored_log.specs.Told.{stamp_of, told_of}

module _ (d : Dataset) (b : Base) (log : List Entry) (plan : Plan) (s : Stamp) where
  same_entry : LegalPlan d b log plan.edit plan.changed → entry_for d b log plan.edit (stamp_of s) ≡ entry_from d b log plan s
  unfolding next_entry
  same_entry p = ap (λ cs. entry_of d b log s.client s.line (stamp log s.now) (asked.Edit plan.edit) cs) (sym p.2)

  heads : ((entry_for d b log plan.edit (stamp_of s)).number ≡ length log) × ((entry_for d b log plan.edit (stamp_of s)).at ≡ stamp log s.now)
  unfolding next_entry entry_of
  heads = (refl, refl)

  module _ (store : WordStore) (image : Image d b log store.words) (legal : LegalPlan d b log plan.edit plan.changed) (room : 8 * d.capacity ≤ length store.words + store.spare)
      (client : s.client < 2 ^ 32) (line : s.line < 2 ^ 32) where
    -- a draft of the entry waits
    waits : (r : edit_remade.Remade) → IsRemade d b log plan.edit (stamp_of s) r → IsDraftOf d b log (entry_for d b log plan.edit (stamp_of s)) store r.draft
    waits r is = record {
      tail = tail_is d b log plan.edit plan.changed (stamp_of s) store.words image legal is.allowed r is;
      room = fitting d b log plan.edit plan.changed (stamp_of s) store.words image legal is.allowed r is store.spare room;
      image = committed d b log plan.edit plan.changed (stamp_of s) store.words image legal is.allowed r is (applied r.draft store.words) refl client line;
      longer = long d b log plan.edit plan.changed (stamp_of s) store.words image legal is.allowed r is (applied r.draft store.words) refl;
    }

    pub drafted : (r : edit_remade.Remade) → IsRemade d b log plan.edit (stamp_of s) r → Remakes (Waits store (Some r.draft)) d b log plan s (Ok (told_of r))
    drafted r is =
        let P : Entry → Type 0 = λ e. (refuse_late d b log plan.edit ≡ None) × IsDraftOf d b log e store r.draft × (r.op ≡ e.number) × (r.at ≡ e.at) × (r.retired ≡ e.retired) × (r.made ≡ e.made) in
        subst P (same_entry legal) (is.allowed, waits r is, is.op ∙ sym heads.0, is.at ∙ sym heads.1, is.retired, is.made)

  pub late : (drafts : Dataset → Base → List Entry → Entry → Type 0) (x : Refusal) → IsLate d b log plan.edit x → Remakes drafts d b log plan s (Err x)
  late drafts NoMemory h = tt
  late drafts x h = h

  -- behind rows that stand it is one of those rows
  pub with_rows : (r : StoredLog) (x : Result Remade Refusal) → Stands r d b log → Remakes (Waits r.words r.draft) d b log plan s x → Remakes (Drafts r) d b log plan s x
  with_rows r (Ok m) rows h = (h.0, (rows, h.1), h.2, h.3, h.4, h.5)
  with_rows r (Err NoMemory) rows h = tt
  with_rows r (Err x) rows h = h
