-- What refuses an entry, and what is told of one that nothing refuses, from what is found out about it.
use Rattle.std.proofs.Common.{◌≡◌, ℕ, ◌+◌, ◌-◌, ◌^◌, ltb, eqb, List, [], ◌∷◌, max, min, Option, Some, None, refl, sym, ◌∙◌, ap, subst}
use Rattle.op_model.specs.declared.base.Dataset.{Dataset}
use Rattle.op_model.specs.declared.base.Base.{Base}
use Rattle.op_model.specs.declared.request.Edit.{Edit}
use Rattle.op_model.specs.declared.entry.Entry.{Entry}
use Rattle.op_model.specs.declared.reply.Refusal.{Refusal}
use Rattle.op_model.specs.declared.reply.Refusal.TheVariants.{StoreFull, ClockEnd, NoMemory}
use Rattle.op_model.specs.Edges.{edges_after}
use Rattle.op_model.specs.Labels.{edges, component, least, is_new, new_among, rank, used, label, node, root}
use Rattle.op_model.specs.Operations.{entry_of, next_entry}
use Rattle.op_model.specs.Refusals.{refuse_if, first_of, refuse_late}
use Rattle.op_model.specs.Stamps.{stamp}
use Rattle.record_rows.specs.LogRows.{rows_of, entry_rows}
use Rattle.row_words.specs.Drafts.{DraftRows}
use Rattle.grown_rows.specs.Drafted.{IsDrafted}
use Rattle.hierarchy_edit.specs.declared.remaking.Stamp.{Stamp}
use Rattle.hierarchy_edit.specs.declared.listing.Listed.{Listed}
use Rattle.hierarchy_edit.specs.Listed.{IsListed}
use Rattle.hierarchy_edit.specs.Remade.{IsRemade, IsLate}

pub is_late : (d : Dataset) (b : Base) (log : List Entry) (edit : Edit) (r : Refusal) → refuse_late d b log edit ≡ Some r → IsLate d b log edit r
is_late d b log edit NoMemory e = tt
is_late d b log edit r e = e

none_of : (o : Option Refusal) → ((r : Refusal) → o ≡ Some r → ⊥) → o ≡ None
none_of None f = refl
none_of (Some r) f = absurd (f r refl)

made_same : (d : Dataset) (b : Base) (log : List Entry) (client line at : ℕ) (edit : Edit) → (next_entry d b log 0 0 0 edit).made ≡ (next_entry d b log client line at edit).made
unfolding next_entry entry_of root node label rank used new_among least is_new component edges edges_after
made_same d b log client line at edit = refl

retired_same : (d : Dataset) (b : Base) (log : List Entry) (client line at : ℕ) (edit : Edit) → (next_entry d b log 0 0 0 edit).retired ≡ (next_entry d b log client line at edit).retired
unfolding next_entry entry_of
retired_same d b log client line at edit = refl

pub late_from : (d : Dataset) (b : Base) (log : List Entry) (edit : Edit) (x : Listed) → IsListed d b log edit x
    → first_of (refuse_if (ltb x.spare x.need) (StoreFull x.need x.spare) ∷ x.spent ∷ refuse_if (eqb x.last (2 ^ 62 - 1)) (ClockEnd x.last) ∷ []) ≡ refuse_late d b log edit
unfolding refuse_late
late_from d b log edit x is = rw (is.needed, is.left, is.spent, is.last) refl

-- a refusal
pub refused_late : (d : Dataset) (b : Base) (log : List Entry) (edit : Edit) (x : Listed) (o : Option Refusal) (r : Refusal) → IsListed d b log edit x
    → o ≡ first_of (refuse_if (ltb x.spare x.need) (StoreFull x.need x.spare) ∷ x.spent ∷ refuse_if (eqb x.last (2 ^ 62 - 1)) (ClockEnd x.last) ∷ []) → o ≡ Some r → IsLate d b log edit r
refused_late d b log edit x o r is e f = is_late d b log edit r (sym (late_from d b log edit x is) ∙ (sym e ∙ f))

-- none
pub allowed : (d : Dataset) (b : Base) (log : List Entry) (edit : Edit) (x : Listed) (o : Option Refusal) → IsListed d b log edit x
    → o ≡ first_of (refuse_if (ltb x.spare x.need) (StoreFull x.need x.spare) ∷ x.spent ∷ refuse_if (eqb x.last (2 ^ 62 - 1)) (ClockEnd x.last) ∷ []) → ((r : Refusal) → o ≡ Some r → ⊥) → refuse_late d b log edit ≡ None
allowed d b log edit x o is e f = sym (late_from d b log edit x is) ∙ (sym e ∙ none_of o f)

pub stamped_so : (d : Dataset) (b : Base) (log : List Entry) (edit : Edit) (s : Stamp) (x : Listed) (at : ℕ) → IsListed d b log edit x → at ≡ max (min s.now (2 ^ 62 - 1)) (x.last + 1) → at ≡ stamp log s.now
unfolding stamp
stamped_so d b log edit s x at is time = time ∙ ap (λ t. max (min s.now (2 ^ 62 - 1)) (t + 1)) is.last

pub is_remade : (d : Dataset) (b : Base) (log : List Entry) (edit : Edit) (s : Stamp) (x : Listed) (draft : DraftRows) (at : ℕ) → IsListed d b log edit x → refuse_late d b log edit ≡ None
    → IsDrafted (rows_of d b log) (entry_rows d b log (next_entry d b log s.client s.line at edit)) draft → at ≡ stamp log s.now
    → IsRemade d b log edit s (record { draft = draft; op = x.number; at = at; retired = x.retired; made = x.made })
is_remade d b log edit s x draft at is late drafted time = record {
  allowed = late;
  draft = subst (λ t. IsDrafted (rows_of d b log) (entry_rows d b log (next_entry d b log s.client s.line t edit)) draft) time drafted;
  op = is.number;
  at = time;
  retired = is.retired ∙ retired_same d b log s.client s.line (stamp log s.now) edit;
  made = is.made ∙ made_same d b log s.client s.line (stamp log s.now) edit;
}
