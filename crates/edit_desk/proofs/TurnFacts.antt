-- What is appended in a turn, and what is replied.
use Rattle.std.proofs.Common.{◌≡◌, ℕ, ◌+◌, ◌-◌, ◌*◌, ◌^◌, ◌<◌, ◌≤◌, List, [], ◌∷◌, ◌++◌, length, map, Option, Some, None, Result, Ok, Err, refl, sym, ap, ◌∙◌, subst, arith}
use Rattle.std.specs.List.{AllByRecursion}
use Rattle.std.specs.Prelude.{slice_index}
use Rattle.op_model.specs.declared.base.Dataset.{Dataset}
use Rattle.op_model.specs.declared.base.Base.{Base}
use Rattle.op_model.specs.declared.entry.Changed.{Changed}
use Rattle.op_model.specs.declared.entry.Entry.{Entry}
use Rattle.op_model.specs.declared.entry.Shown.{Shown}
use Rattle.op_model.specs.declared.reply.Refusal.{Refusal}
use Rattle.op_model.specs.declared.reply.Refusal.TheVariants as refusal
use Rattle.op_model.specs.declared.reply.Reply.TheVariants as reply
use Rattle.op_model.specs.declared.request.Edit.{Edit}
use Rattle.op_model.specs.declared.request.Request.TheVariants as request
use Rattle.op_model.specs.Cuts.{Shows}
use Rattle.op_model.specs.Legal.{LegalPlan}
use Rattle.op_model.specs.Operations.{entry_of, next_entry}
use Rattle.op_model.specs.Records.{entry_records, need}
use Rattle.op_model.specs.Refusals.{first_of, refuse_cut, refuse_early, refuse_edit, refuse_late, refused}
use Rattle.op_model.specs.Stamps.{stamp}
use Rattle.record_rows.specs.Growth.{Store}
use Rattle.record_rows.specs.Readings.{Image}
use Rattle.row_words.specs.Drafts.{applied, store_of}
use Rattle.row_words.specs.declared.draft.DraftLink.{DraftLink}
use Rattle.grown_rows.specs.Drafted.{Fills as FillsRows}
use Rattle.grown_rows.specs.Growths.{Once}
use Rattle.hierarchy_edit.specs.declared.remaking.Stamp.{Stamp}
use Rattle.hierarchy_edit.specs.declared.remaking.Remade.{Remade}
use Rattle.hierarchy_edit.specs.Remade.{IsLate, IsRemade}
use Rattle.hierarchy_edit.proofs.Committed.{committed, fitting, rows_fit, tail_is}
use Rattle.root_masks.specs.Plans.{IsUnplanned}
use Rattle.root_masks.proofs.Lasting.{retired_locked}
use Rattle.shared_rows.specs.declared.view.View.{View}
use Rattle.shared_rows.specs.Drafting.{Adds, Fills, WordsDiffer}
use Rattle.shared_rows.specs.Plays.{Later, looked, published, with_turn, without_turn}
use Rattle.edit_desk.specs.declared.turning.Put.{Put}
use Rattle.edit_desk.specs.Desk.{Edits, Puts, Stays, entry_for}
use Rattle.edit_desk.specs.Pins.{Pinned}
use Rattle.edit_desk.specs.Turns.{Appends, IsPut, refusal_reply, reply_of}
use Rattle.edit_desk.proofs.Going.{stays-same}
use Rattle.edit_desk.proofs.PinFacts.{roots-covered}

-- refusals in their order
cut-refused : (x y z : Option Refusal) (r : Refusal) → first_of (x ∷ y ∷ []) ≡ Some r → first_of (x ∷ y ∷ z ∷ []) ≡ Some r
unfolding first_of
cut-refused None None z r e = cc
cut-refused None (Some y) z r e = e
cut-refused (Some x) y z r e = e

early-refused : (d : Dataset) (b : Base) (log : List Entry) (edit : Edit) (r : Refusal) → refuse_early d b log edit ≡ Some r → refused d b log (request.Edit edit) ≡ Some r
unfolding refused refuse_edit first_of
early-refused d b log edit r e = rw e refl

late-refused : (d : Dataset) (b : Base) (log : List Entry) (edit : Edit) (changed : List Changed) (r : Refusal) → LegalPlan d b log edit changed → refuse_late d b log edit ≡ Some r → refused d b log (request.Edit edit) ≡ Some r
unfolding refused refuse_edit first_of
late-refused d b log edit changed r plan e = rw (plan.0, plan.1, e) refl

none-refuses : (d : Dataset) (b : Base) (log : List Entry) (edit : Edit) (changed : List Changed) → LegalPlan d b log edit changed → refuse_late d b log edit ≡ None → refused d b log (request.Edit edit) ≡ None
unfolding refused refuse_edit first_of
none-refuses d b log edit changed plan e = rw (plan.0, plan.1, e) refl

unplanned-refused : (d : Dataset) (b : Base) (log : List Entry) (edit : Edit) (r : Refusal) → first_of (refuse_early d b log edit ∷ refuse_cut d b log edit ∷ []) ≡ Some r → refused d b log (request.Edit edit) ≡ Some r
unfolding refused refuse_edit
unplanned-refused d b log edit r e = cut-refused (refuse_early d b log edit) (refuse_cut d b log edit) (refuse_late d b log edit) r e

-- a reply of a pass that published nothing
pub refusal-edits : (v w : View) (edit : Edit) (line : ℕ) (r : Refusal) (seen : ℕ) → Stays v w → refused w.dataset w.base w.log (request.Edit edit) ≡ Some r → seen ≡ length w.log → Edits v edit line (refusal_reply r seen) w
refusal-edits v w edit line refusal.NoMemory seen s e n = s
refusal-edits v w edit line r seen s e n = (s, e, n)

pub early-edits : (v w : View) (edit : Edit) (line : ℕ) (r : Refusal) (seen : ℕ) → Stays v w → refuse_early w.dataset w.base w.log edit ≡ Some r → seen ≡ length w.log → Edits v edit line (refusal_reply r seen) w
early-edits v w edit line r seen s e n = refusal-edits v w edit line r seen s (early-refused w.dataset w.base w.log edit r e) n

pub unplanned-edits : (v : View) (edit : Edit) (line : ℕ) (r : Refusal) (seen : ℕ) → IsUnplanned v.dataset v.base v.log edit r → seen ≡ length v.log → Edits v edit line (refusal_reply r seen) v
unplanned-edits v edit line refusal.NoMemory seen e n = stays-same v
unplanned-edits v edit line r seen e n = (stays-same v, unplanned-refused v.dataset v.base v.log edit r e, n)

-- a draft may be stored
entry-client : (d : Dataset) (b : Base) (log : List Entry) (client line time : ℕ) (edit : Edit) → (next_entry d b log client line time edit).client ≡ client
unfolding next_entry entry_of
entry-client d b log client line time edit = refl

once-differ : (stores : List Store) → Once stores → WordsDiffer stores
once-differ [] h = tt
once-differ (s ∷ stores) h = (h.0, once-differ stores h.1)

all-fill : (v : View) (words : List ℕ) (tail count : ℕ) (links : List DraftLink) → words ≡ v.image → tail ≡ v.tail → AllByRecursion (FillsRows words tail count) links → AllByRecursion (λ l. Fills v (store_of l)) links
all-fill v words tail count [] w t h = tt
all-fill v words tail count (l ∷ links) w t h =
    let (empty, above, below) = h.0 in
    ((subst (λ (ws : List ℕ). slice_index ws (8 * l.from + l.k) ≡ 0) w empty, subst (λ n. n ≤ l.to) t above), all-fill v words tail count links w t h.1)

-- an entry needs a record of its own
need-some : (d : Dataset) (b : Base) (log : List Entry) (edit : Edit) → 0 < need d b log edit
unfolding need entry_records
need-some d b log edit = omega arith

module _ (v : View) (edit : Edit) (changed : List Changed) (s : Stamp) (r : Remade) (pins : Pinned edit v) (plan : LegalPlan v.dataset v.base v.log edit changed)
    (client : s.client ≡ v.number) (small : s.client < 2 ^ 32) (line : s.line < 2 ^ 32) (is : IsRemade v.dataset v.base v.log edit s r) where
  -- the tail of the draft is that of the image
  draft-tail : r.draft.tail ≡ v.tail
  draft-tail = let t = tail_is v.dataset v.base v.log edit changed s v.image pins.stands plan is.allowed r is in let l = pins.long in omega arith

  some-rows : 0 < length r.draft.rows
  some-rows = subst (λ n. 0 < n) (sym (rows_fit v.dataset v.base v.log edit changed s v.image pins.stands plan is.allowed r is)) (need-some v.dataset v.base v.log edit)

  enough : v.tail + length r.draft.rows ≤ v.dataset.capacity
  enough =
      let f = fitting v.dataset v.base v.log edit changed s v.image pins.stands plan is.allowed r is (8 * v.dataset.capacity - length v.image) (omega arith) in
      let l = pins.long in
      let n = some-rows in
      omega arith

  stands : Image v.dataset v.base (next_entry v.dataset v.base v.log s.client s.line (stamp v.log s.now) edit ∷ v.log) (applied r.draft v.image)
  stands = committed v.dataset v.base v.log edit changed s v.image pins.stands plan is.allowed r is (applied r.draft v.image) refl small line

  pub remade-adds : Adds v r.draft (entry_for v v.log s.line r.at edit)
  remade-adds =
      subst (λ n. Adds v r.draft (next_entry v.dataset v.base v.log n s.line r.at edit)) client
      (subst (λ t. Adds v r.draft (next_entry v.dataset v.base v.log s.client s.line t edit)) (sym is.at) record {
        tail = draft-tail;
        some = some-rows;
        room = enough;
        fills = all-fill v _ _ _ r.draft.links (sym pins.stands.stands) (sym is.draft.tail ∙ draft-tail) is.draft.fills;
        differ = once-differ (map store_of r.draft.links) is.draft.differ;
        stands = stands;
        client = entry-client v.dataset v.base v.log s.client s.line (stamp v.log s.now) edit ∙ client;
        pinned =
            roots-covered v.dataset.layout pins.mask v.pinned pins.pinned (next_entry v.dataset v.base v.log s.client s.line (stamp v.log s.now) edit).retired
            (retired_locked v.dataset v.base v.log s.client s.line (stamp v.log s.now) edit pins.mask pins.stands.dataset pins.stands.base pins.stands.legal pins.locks);
      })

  -- what was put is told
  pub remade-put : (w : View) (seen : ℕ) → Puts v (entry_for v v.log s.line r.at edit) w → seen ≡ length w.log
      → IsPut v edit s.line (record { op = r.op; at = r.at; retired = r.retired; made = r.made; seen = seen }) w
  remade-put w seen puts n = record {
    clock = s.now;
    allowed = none-refuses v.dataset v.base v.log edit changed plan is.allowed;
    at_is = is.at;
    puts = puts;
    op_is = is.op;
    retired_is = is.retired ∙ ap (λ (e : Entry). e.retired) same;
    made_is = is.made ∙ ap (λ (e : Entry). e.made) same;
    seen_is = n;
  }
    where
      same : next_entry v.dataset v.base v.log s.client s.line (stamp v.log s.now) edit ≡ entry_for v v.log s.line r.at edit
      same = ap (λ t. next_entry v.dataset v.base v.log s.client s.line t edit) (sym is.at) ∙ ap (λ n. next_entry v.dataset v.base v.log n s.line r.at edit) client

-- an entry that was published
pub published-puts : (v w : View) (t : ℕ) (e : Entry) → w ≡ published v t e → v.tail ≤ t → Puts v e w
published-puts v w t e is more = subst (Puts v e) (sym is) record {
  number_is = refl;
  dataset_is = refl;
  base_is = refl;
  permits_is = refl;
  olds_is = refl;
  held_is = refl;
  turn_is = refl;
  looks_are = refl;
  more = more;
  log_is = refl;
  own_is = refl;
}

-- nothing was
pub late-appends : (u w : View) (edit : Edit) (line : ℕ) (changed : List Changed) (r : Refusal) → LegalPlan u.dataset u.base u.log edit changed → w ≡ u → IsLate u.dataset u.base u.log edit r → Appends u edit line (Err r) w
late-appends u w edit line changed refusal.NoMemory plan same h = same
late-appends u w edit line changed r plan same h = (same, late-refused u.dataset u.base u.log edit changed r plan h)

-- the turn was taken, a look made, something appended or not, and the turn given back
module _ (v : View) (edit : Edit) (line tail : ℕ) (image : List ℕ) (log newer : List Entry) (is : log ≡ newer ++ v.log) (more : v.tail ≤ tail) where
  abbrev u : View
  u = looked (with_turn v) tail image log

  u-stays : Stays v (without_turn u)
  u-stays = record {
    went = record { number_is = refl; dataset_is = refl; base_is = refl; permits_is = refl; olds_is = refl; more = more; looks = omega arith; seen = record { newer = newer; is = is } };
    own_is = refl;
  }

  put-edits : (p : Put) (shown : Option Shown) (w : View) → Shows v.dataset v.base log edit shown → IsPut u edit line p w → Edits v edit line (reply.Edited p.op p.at p.retired p.made shown p.seen) (without_turn w)
  put-edits p shown w s a =
      let q = a.puts in (
        record {
          number_is = q.number_is;
          dataset_is = q.dataset_is;
          base_is = q.base_is;
          permits_is = q.permits_is;
          olds_is = q.olds_is;
          more = (let k = q.more in omega arith);
          looks = (let k = q.looks_are in omega arith);
          seen = record { newer = entry_for u log line p.at edit ∷ newer; is = q.log_is ∙ ap (λ (l : List Entry). entry_for u log line p.at edit ∷ l) is };
        },
        record {
          log = log;
          clock = a.clock;
          grown = record { newer = newer; is = is };
          allowed = rw (q.dataset_is, q.base_is) a.allowed;
          at_is = a.at_is;
          log_is = rw (q.dataset_is, q.base_is, q.number_is) q.log_is;
          own_is = rw (q.dataset_is, q.base_is, q.number_is) q.own_is;
          op_is = a.op_is;
          retired_is = rw (q.dataset_is, q.base_is, q.number_is) a.retired_is;
          made_is = rw (q.dataset_is, q.base_is, q.number_is) a.made_is;
          shows = rw (q.dataset_is, q.base_is) s;
          seen_is = a.seen_is;
        },
      )

  appended-edits : (put : Result Put Refusal) (shown : Option Shown) (seen : ℕ) (w : View) → Shows v.dataset v.base log edit shown → seen ≡ length log → Appends u edit line put w → Edits v edit line (reply_of put shown seen) (without_turn w)
  appended-edits (Ok p) shown seen w s n a = put-edits p shown w s a
  appended-edits (Err refusal.NoMemory) shown seen w s n a = subst (λ (x : View). Stays v (without_turn x)) (sym a) u-stays
  appended-edits (Err r) shown seen w s n a = subst (λ (x : View). Edits v edit line (refusal_reply r seen) (without_turn x)) (sym a.0) (refusal-edits v (without_turn u) edit line r seen u-stays a.1 n)

pub turn-edits : (v u w : View) (edit : Edit) (line : ℕ) (put : Result Put Refusal) (shown : Option Shown) (seen : ℕ) → Later (with_turn v) (with_turn v) u → Shows u.dataset u.base u.log edit shown → seen ≡ length u.log
    → Appends u edit line put w → Edits v edit line (reply_of put shown seen) (without_turn w)
turn-edits v u w edit line put shown seen later =
    subst (λ (x : View). Shows x.dataset x.base x.log edit shown → seen ≡ length x.log → Appends x edit line put w → Edits v edit line (reply_of put shown seen) (without_turn w)) (sym later.is)
    (λ s n a. appended-edits v edit line later.tail later.image later.log later.follows.newer later.follows.is later.more put shown seen w s n a)
