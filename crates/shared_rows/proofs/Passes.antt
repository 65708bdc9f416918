-- A pass whose seat has another view is a pass.
use Rattle.std.proofs.Common.{◌≡◌, ℕ, ◌*◌, ◌+◌, ◌<◌, ◌≤◌, Bool, false, eqb, eq-eqb, ne_eqb, List, length, length-set, get_or, set, refl, sym, ap, ◌∙◌, subst, arith, ◌≢◌}
use Rattle.std.proofs.lemmas.List.{get_or-set_same, get_or-set_other}
use mathlib.Core.Logic.{dite}
use native.Mathlib.Decide.{ℕ_discrete}
use Rattle.graph_model.specs.Lists.{has}
use Rattle.atomic_table.specs.Seated.{TableId}
use Rattle.atomic_table.specs.declared.shared.Seat.{Seat}
use Rattle.op_model.specs.declared.base.Dataset.{Dataset}
use Rattle.shared_rows.specs.declared.view.View.{View}
use Rattle.shared_rows.specs.declared.pass.Pass.TheInside.{Inside}
use Rattle.shared_rows.specs.Drafting.{end_of}
use Rattle.shared_rows.specs.Known.{known}
use Rattle.shared_rows.specs.Insides.{IsPass}
use Rattle.shared_rows.specs.Plays.{with_lock, with_loss, without_lock}
use Rattle.shared_rows.proofs.Locking.{has-here, has-else, without-none, without-else}

-- what the view of a pass has to keep
pub record Suits (number : ℕ) (dataset : Dataset) (tail end : ℕ) (locks : List Bool) (w : View) : Type 0 where
  pub lock_count : length locks ≡ 64
  pub locks_are : (l : ℕ) → l < 64 → get_or locks l false ≡ has w.held l
  pub here : w.gone ≡ false
  pub number_is : number ≡ w.number
  pub dataset_is : dataset ≡ w.dataset
  pub tail_is : tail ≡ w.tail
  pub end_is : end ≡ end_of w.draft
  pub tail_in : tail ≤ dataset.capacity
  pub image_len : length w.image ≡ 8 * tail

pub is-pass : (p : Inside) (s : Seat (Unit {0}) View) (tail end : ℕ) (locks : List Bool) (w : View) → IsPass p → s.table_id ≡ p.seat.table_id → s.me.1 ≡ p.seat.me.1 → s.me.0 ≡ w → Suits p.number p.seat.me.0.dataset tail end locks w
    → IsPass record { seat = s; number = p.number; tail = tail; end = end; locks = locks }
is-pass p s tail end locks w h table bare is suits = let to : w ≡ s.me.0 = sym is in record {
  bare = bare ∙ h.bare;
  here = ap (λ (v : View). v.gone) is ∙ suits.here;
  numbered = h.numbered;
  number_is = suits.number_is ∙ ap (λ (v : View). v.number) to;
  tail_is = suits.tail_is ∙ ap (λ (v : View). v.tail) to;
  lock_count = suits.lock_count;
  locks_are = λ l low. suits.locks_are l low ∙ ap (λ (v : View). has v.held l) to;
  end_is = suits.end_is ∙ ap (λ (v : View). end_of v.draft) to;
  room = ap (λ (z : TableId). z.words) table ∙ h.room ∙ ap (λ (d : Dataset). 8 * d.capacity + 67) (suits.dataset_is ∙ ap (λ (v : View). v.dataset) to);
  small = subst (λ (d : Dataset). d.capacity < 4294967296) (suits.dataset_is ∙ ap (λ (v : View). v.dataset) to) h.small;
  tail_in = subst (λ (d : Dataset). tail ≤ d.capacity) (suits.dataset_is ∙ ap (λ (v : View). v.dataset) to) suits.tail_in;
  image_len = ap (λ (v : View). length v.image) is ∙ suits.image_len;
}

pub same-known : (table table' : TableId) (v v' : View) → table ≡ table' → v ≡ v' → known table v ≡ known table' v'
same-known table table' v v' e f = λ i. known (e i) (f i)

-- a view that differs from another only in what the fields of a pass don't tell
pub record Keeps (v w : View) : Type 0 where
  pub here : w.gone ≡ v.gone
  pub number_is : v.number ≡ w.number
  pub dataset_is : v.dataset ≡ w.dataset
  pub tail_is : v.tail ≡ w.tail
  pub draft_is : v.draft ≡ w.draft
  pub held_is : v.held ≡ w.held
  pub image_is : w.image ≡ v.image

pub still-pass : (p : Inside) (s : Seat (Unit {0}) View) (w : View) → IsPass p → s.table_id ≡ p.seat.table_id → s.me.1 ≡ p.seat.me.1 → s.me.0 ≡ w → Keeps p.seat.me.0 w
    → IsPass record { seat = s; number = p.number; tail = p.tail; end = p.end; locks = p.locks }
still-pass p s w h table bare is k = is-pass p s p.tail p.end p.locks w h table bare is record {
  lock_count = h.lock_count;
  locks_are = λ l low. h.locks_are l low ∙ ap (λ (ls : List ℕ). has ls l) k.held_is;
  here = k.here ∙ h.here;
  number_is = h.number_is ∙ k.number_is;
  dataset_is = k.dataset_is;
  tail_is = h.tail_is ∙ k.tail_is;
  end_is = h.end_is ∙ ap end_of k.draft_is;
  tail_in = h.tail_in;
  image_len = ap (λ (i : List ℕ). length i) k.image_is ∙ h.image_len;
}

-- a step on the lock n, after which its flag is c
relocked : (p : Inside) (s : Seat (Unit {0}) View) (n : ℕ) (c : Bool) (w : View) → IsPass p → n < 64 → s.table_id ≡ p.seat.table_id → s.me.1 ≡ p.seat.me.1 → s.me.0 ≡ w
    → w.gone ≡ p.seat.me.0.gone → p.seat.me.0.number ≡ w.number → p.seat.me.0.dataset ≡ w.dataset → p.seat.me.0.tail ≡ w.tail → p.seat.me.0.draft ≡ w.draft → w.image ≡ p.seat.me.0.image
    → c ≡ has w.held n → ((m : ℕ) → m ≢ n → has p.seat.me.0.held m ≡ has w.held m)
    → IsPass record { seat = s; number = p.number; tail = p.tail; end = p.end; locks = set p.locks n c }
relocked p s n c w h low table bare is gone number dataset tail draft image here else = is-pass p s p.tail p.end (set p.locks n c) w h table bare is record {
  lock_count = length-set p.locks n c ∙ h.lock_count;
  locks_are = λ l ll. dite (ℕ_discrete l n)
      (λ same. let long = h.lock_count in ap (λ k. get_or (set p.locks n c) k false) same ∙ get_or-set_same p.locks n c false (omega arith) ∙ here ∙ ap (has w.held) (sym same))
      (λ apart. get_or-set_other p.locks n l c false apart ∙ h.locks_are l ll ∙ else l apart);
  here = gone ∙ h.here;
  number_is = h.number_is ∙ number;
  dataset_is = dataset;
  tail_is = h.tail_is ∙ tail;
  end_is = h.end_is ∙ ap end_of draft;
  tail_in = h.tail_in;
  image_len = ap (λ (i : List ℕ). length i) image ∙ h.image_len;
}

pub locked-pass : (p : Inside) (s : Seat (Unit {0}) View) (n x : ℕ) → IsPass p → n < 64 → s.table_id ≡ p.seat.table_id → s.me.1 ≡ p.seat.me.1 → x ≡ 0 → s.me.0 ≡ with_lock p.seat.me.0 n
    → IsPass record { seat = s; number = p.number; tail = p.tail; end = p.end; locks = set p.locks n (eqb x 0) }
locked-pass p s n x h low table bare won is =
    relocked p s n (eqb x 0) (with_lock p.seat.me.0 n) h low table bare is refl refl refl refl refl refl (eq-eqb x 0 won ∙ sym (has-here n p.seat.me.0.held)) (λ m apart. sym (has-else m n p.seat.me.0.held apart))

pub lost-pass : (p : Inside) (s : Seat (Unit {0}) View) (n x : ℕ) → IsPass p → n < 64 → s.table_id ≡ p.seat.table_id → s.me.1 ≡ p.seat.me.1 → x ≢ 0 → has p.seat.me.0.held n ≡ false → s.me.0 ≡ with_loss p.seat.me.0 x
    → IsPass record { seat = s; number = p.number; tail = p.tail; end = p.end; locks = set p.locks n (eqb x 0) }
lost-pass p s n x h low table bare lost free is = relocked p s n (eqb x 0) (with_loss p.seat.me.0 x) h low table bare is refl refl refl refl refl refl (ne_eqb x 0 lost ∙ sym free) (λ m apart. refl)

pub freed-pass : (p : Inside) (s : Seat (Unit {0}) View) (n : ℕ) → IsPass p → n < 64 → s.table_id ≡ p.seat.table_id → s.me.1 ≡ p.seat.me.1 → s.me.0 ≡ without_lock p.seat.me.0 n
    → IsPass record { seat = s; number = p.number; tail = p.tail; end = p.end; locks = set p.locks n false }
freed-pass p s n h low table bare is =
    relocked p s n false (without_lock p.seat.me.0 n) h low table bare is refl refl refl refl refl refl (sym (without-none n p.seat.me.0.held)) (λ m apart. sym (without-else m n p.seat.me.0.held apart))
