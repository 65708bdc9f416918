-- With the entry of a legal plan that neither the store, the ids nor the clock refuse the log is legal, and takes no more records than there is room for.
use Rattle.std.proofs.Common.{◌≡◌, ℕ, ◌+◌, ◌-◌, ◌*◌, ◌^◌, ◌<◌, ◌≤◌, Bool, true, false, List, [], ◌∷◌, ◌++◌, length, max, min, length-append, None, refl, sym, ◌∙◌, ap, subst, arith}
use Rattle.std.proofs.lemmas.Bool.{ltb-false, eqb-false}
use Rattle.std.proofs.Math.Nat.{le-max_right, max-le, min-le_right}
use Rattle.op_model.specs.declared.base.Dataset.{Dataset}
use Rattle.op_model.specs.declared.base.Base.{Base}
use Rattle.op_model.specs.declared.request.Edit.{Edit}
use Rattle.op_model.specs.declared.entry.Changed.{Changed}
use Rattle.op_model.specs.declared.entry.Entry.{Entry}
use Rattle.op_model.specs.declared.reply.Refusal.{Refusal}
use Rattle.op_model.specs.declared.reply.Refusal.TheVariants.{StoreFull, ClockEnd}
use Rattle.op_model.specs.declared.request.Request.TheVariants as request
use Rattle.op_model.specs.Edges.{edges_after}
use Rattle.op_model.specs.Labels.{edges, component, least, is_new, new_among}
use Rattle.op_model.specs.Operations.{entry_of, next_entry}
use Rattle.op_model.specs.Records.{children, made_count, child_count, unknown_count, entry_records, records, spare, need}
use Rattle.op_model.specs.Refusals.{refuse_if, first_of, refuse_late, refuse_edit, refused, last_at}
use Rattle.op_model.specs.Legal.{Follows, Legal, LegalPlan}
use Rattle.op_model.specs.Stamps.{stamp}
use Rattle.op_model.proofs.LegalLemmas.{first_none}
use Rattle.record_rows.specs.Rows.{Row}
use Rattle.record_rows.specs.LogRows.{rows_of, entry_rows}
use Rattle.record_rows.specs.Words.{words_of}
use Rattle.record_rows.specs.Readings.{Image}
use Rattle.record_rows.proofs.CountLemmas.{entry_count}
use Rattle.record_rows.proofs.TellLemmas.{length-words_of}
use Rattle.row_words.specs.Drafts.{applied}
use Rattle.hierarchy_edit.specs.declared.remaking.Stamp.{Stamp}
use Rattle.hierarchy_edit.specs.declared.remaking.Remade.{Remade}
use Rattle.hierarchy_edit.specs.Remade.{entry_for, IsRemade}
use Rattle.hierarchy_edit.proofs.Counts.{words_count}

if_not : (b : Bool) (r : Refusal) → refuse_if b r ≡ None → b ≡ false
unfolding refuse_if
if_not true r e = cc
if_not false r e = refl

need_same : (d : Dataset) (b : Base) (log : List Entry) (client line at : ℕ) (edit : Edit) → entry_records d b (next_entry d b log client line at edit ∷ log) ≡ need d b log edit
unfolding need entry_records made_count child_count children unknown_count new_among least is_new component edges edges_after next_entry entry_of
need_same d b log client line at edit = refl

nothing_refuses : (d : Dataset) (b : Base) (log : List Entry) (edit : Edit) (changed : List Changed) → LegalPlan d b log edit changed → refuse_late d b log edit ≡ None → refused d b log (request.Edit edit) ≡ None
unfolding refused refuse_edit first_of
nothing_refuses d b log edit changed plan late = rw (plan.0, plan.1, late) refl

store_has : (d : Dataset) (b : Base) (log : List Entry) (edit : Edit) → refuse_late d b log edit ≡ None → need d b log edit ≤ spare d b log
unfolding refuse_late
store_has d b log edit late = ltb-false _ _ (if_not _ (StoreFull (need d b log edit) (spare d b log)) (first_none _ _ late).0)

clock_has : (d : Dataset) (b : Base) (log : List Entry) (edit : Edit) → refuse_late d b log edit ≡ None → last_at log ≡ 2 ^ 62 - 1 → ⊥
unfolding refuse_late
clock_has d b log edit late = eqb-false _ _ (if_not _ (ClockEnd (last_at log)) (first_none _ _ (first_none _ _ (first_none _ _ late).1).1).0)

-- the last timestamp of a legal log
pub last_small : (d : Dataset) (b : Base) (log : List Entry) → Legal d b log → last_at log < 2 ^ 62
unfolding last_at
last_small d b [] legal = absurd legal
last_small d b (e ∷ []) legal = legal.1
last_small d b (e ∷ f ∷ log) legal = legal.0.4

stamped : (last now : ℕ) → last < 2 ^ 62 → (last ≡ 2 ^ 62 - 1 → ⊥) → (last < max (min now (2 ^ 62 - 1)) (last + 1)) × (max (min now (2 ^ 62 - 1)) (last + 1) < 2 ^ 62)
stamped last now s n =
    let a : last + 1 ≤ max (min now (2 ^ 62 - 1)) (last + 1) = le-max_right (min now (2 ^ 62 - 1)) (last + 1) in
    let m : min now (2 ^ 62 - 1) ≤ 2 ^ 62 - 1 = min-le_right now (2 ^ 62 - 1) in
    let t : last + 1 ≤ 2 ^ 62 - 1 = omega arith in
    let b : max (min now (2 ^ 62 - 1)) (last + 1) ≤ 2 ^ 62 - 1 = max-le m t in
    (omega arith, omega arith)

module _ (d : Dataset) (b : Base) (log : List Entry) (edit : Edit) (changed : List Changed) (s : Stamp) (words : List ℕ)
    (image : Image d b log words) (plan : LegalPlan d b log edit changed) (late : refuse_late d b log edit ≡ None) where
  abbrev e : Entry
  e = entry_for d b log edit s

  next_at : e.at ≡ stamp log s.now
  unfolding next_entry entry_of
  next_at = refl

  next_client : (e.client ≡ s.client) × (e.line ≡ s.line)
  unfolding next_entry entry_of
  next_client = (refl, refl)

  follows : Follows d b log e
  unfolding next_entry entry_of stamp
  follows =
      let t = stamped (last_at log) s.now (last_small d b log image.legal) (clock_has d b log edit late) in
      (edit, nothing_refuses d b log edit changed plan late, refl, subst (λ x. last_at log < x) (sym next_at) t.0, subst (λ x. x < 2 ^ 62) (sym next_at) t.1)

  pub legal : Legal d b (e ∷ log)
  legal = go log image.legal follows
    where
      go : (l : List Entry) → Legal d b l → Follows d b l e → Legal d b (e ∷ l)
      go [] a f = absurd a
      go (x ∷ l) a f = (f, a)

  pub grown_count : records d b (e ∷ log) ≡ records d b log + need d b log edit
  unfolding records
  grown_count = go log image.legal (need_same d b log s.client s.line (stamp log s.now) edit)
    where
      go : (l : List Entry) → Legal d b l → entry_records d b (e ∷ l) ≡ need d b log edit → records d b (e ∷ l) ≡ records d b l + need d b log edit
      go [] a n = absurd a
      go (x ∷ l) a n = ap (λ k. records d b (x ∷ l) + k) n

  pub new_count : length (entry_rows d b log e) ≡ need d b log edit
  new_count = go log image.legal legal (need_same d b log s.client s.line (stamp log s.now) edit)
    where
      go : (l : List Entry) → Legal d b l → Legal d b (e ∷ l) → entry_records d b (e ∷ l) ≡ need d b log edit → length (entry_rows d b l e) ≡ need d b log edit
      go [] a f n = absurd a
      go (x ∷ l) a f n = entry_count d b image.dataset image.base e x l f ∙ n

  pub room : records d b log + need d b log edit ≤ d.capacity
  unfolding spare
  room = let f : records d b log ≤ d.capacity = image.fits in let s : need d b log edit ≤ d.capacity - records d b log = store_has d b log edit late in omega arith

  pub old_length : length words ≡ 8 * records d b log
  old_length = words_count d b log words image

  module _ (r : Remade) (is : IsRemade d b log edit s r) where
    pub tail_is : length words ≡ 8 * r.draft.tail
    tail_is = ap length image.stands ∙ length-words_of (rows_of d b log) ∙ ap (λ k. 8 * k) (sym is.draft.tail)

    pub rows_fit : length r.draft.rows ≡ need d b log edit
    rows_fit = is.draft.count ∙ new_count

    pub fitting : (spare_words : ℕ) → 8 * d.capacity ≤ length words + spare_words → 8 * length r.draft.rows ≤ spare_words
    fitting spare_words q = let n = rows_fit in let l = old_length in let m = room in omega arith

    pub long : (after : List ℕ) → after ≡ applied r.draft words → length after ≡ length words + 8 * length r.draft.rows
    long after q =
        let whole : List Row = rows_of d b log ++ entry_rows d b log e in
        let a : length after ≡ length (words_of whole) = ap length q ∙ (ap (λ ws. length (applied r.draft ws)) image.stands ∙ ap length is.draft.grown) in
        let n : length (words_of whole) ≡ 8 * length whole = length-words_of whole in
        let m : length whole ≡ length (rows_of d b log) + length (entry_rows d b log e) = length-append (rows_of d b log) (entry_rows d b log e) in
        let k : length words ≡ 8 * length (rows_of d b log) = ap length image.stands ∙ length-words_of (rows_of d b log) in
        let t : length r.draft.rows ≡ length (entry_rows d b log e) = is.draft.count in
        omega arith

    pub committed : (after : List ℕ) → after ≡ applied r.draft words → s.client < 2 ^ 32 → s.line < 2 ^ 32 → Image d b (e ∷ log) after
    unfolding rows_of
    committed after q c l = record {
      dataset = image.dataset;
      base = image.base;
      legal = legal;
      numbers = ((subst (λ x. x < 2 ^ 32) (sym next_client.0) c, subst (λ x. x < 2 ^ 32) (sym next_client.1) l), image.numbers);
      fits = (let g = grown_count in let m = room in omega arith);
      stands = q ∙ (ap (applied r.draft) image.stands ∙ is.draft.grown);
    }
