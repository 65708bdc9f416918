-- What pinned locks of an edit keep.
use Rattle.std.proofs.Common.{cond, Bool, zero, suc, ◌≡◌, ℕ, ◌*◌, ◌<◌, true, false, List, [], ◌∷◌, ◌++◌, length, Ok, refl, sym, ap, ◌∙◌, subst, arith}
use Rattle.std.proofs.lemmas.Bool.{false≢true}
use Rattle.std.specs.List.{AllByRecursion}
use Rattle.node_ids.specs.Ids.{IsLayout, LayoutForm}
use Rattle.graph_model.specs.Lists.{has}
use Rattle.op_model.specs.declared.base.Dataset.{Dataset}
use Rattle.op_model.specs.declared.base.Base.{Base}
use Rattle.op_model.specs.declared.entry.Entry.{Entry}
use Rattle.op_model.specs.declared.entry.Plan.{Plan}
use Rattle.op_model.specs.declared.request.Edit.{Edit}
use Rattle.op_model.specs.Legal.{Legal}
use Rattle.op_model.specs.Locks.{lock_of}
use Rattle.root_locks.specs.Masks.{WithLosses, has_bit as lock_bit, locks_below}
use Rattle.root_masks.specs.Laws.{AreSpared}
use Rattle.root_masks.specs.Masks.{has_bit}
use Rattle.root_masks.specs.Plans.{AreLocks, IsPlan}
use Rattle.root_masks.proofs.Lasting.{locks_last, plans_stay}
use Rattle.shared_rows.specs.declared.view.View.{View}
use Rattle.shared_rows.specs.Drafting.{IsSeen}
use Rattle.shared_rows.specs.Locks.{Spares}
use Rattle.shared_rows.specs.Plays.{Knows, Later, looked, with_turn}
use Rattle.edit_desk.specs.Pins.{Pinned}

pub lock-low : (f : LayoutForm) (root : ℕ) → lock_of f root < 64
unfolding lock_of
lock-low f root = omega arith

below-low : (mask n : ℕ) → n < 65 → AllByRecursion (λ l. l < 64) (locks_below mask n)
unfolding locks_below
below-low mask zero h = tt
below-low mask (suc n) h = by_bit (lock_bit mask n) (below-low mask n (omega arith))
  where
    by_bit : (c : Bool) → AllByRecursion (λ l. l < 64) (locks_below mask n) → AllByRecursion (λ l. l < 64) (cond c (n ∷ locks_below mask n) (locks_below mask n))
    by_bit true r = (omega arith, r)
    by_bit false r = r

pub all-low : (v w : View) (mask : ℕ) → WithLosses v (locks_below mask 64) w → AllByRecursion (λ l. l < 64) w.held
all-low v w mask h = subst (λ (u : View). AllByRecursion (λ l. l < 64) u.held) (sym h.is) (below-low mask 64 (omega arith))

-- the locks that an edit needs are held, so they are pinned
pub needed-pinned : (v : View) (edit : Edit) (mask : ℕ) → IsSeen v → length v.image ≡ 8 * v.tail → AllByRecursion (λ l. l < 64) v.held → v.pinned ≡ v.held
    → AreLocks v.dataset v.base v.log edit mask → ((l : ℕ) → l < 64 → has_bit mask l ≡ true → has v.held l ≡ true) → Pinned edit v
needed-pinned v edit mask seen long low is locks held = record {
  mask = mask;
  stands = seen;
  long = long;
  low = low;
  locks = locks;
  pinned = λ l small bit. ap (λ (ls : List ℕ). has ls l) is ∙ held l small bit;
}

module _ (layout : LayoutForm) (mask : ℕ) (pinned : List ℕ) (covers : (l : ℕ) → l < 64 → has_bit mask l ≡ true → has pinned l ≡ true) where
  -- a lock that isn't pinned isn't the edit's
  bit-spared : (root : ℕ) → has pinned (lock_of layout root) ≡ false → has_bit mask (lock_of layout root) ≡ false
  bit-spared root free = go (has_bit mask (lock_of layout root)) refl
    where
      go : (t : Bool) → has_bit mask (lock_of layout root) ≡ t → t ≡ false
      go false e = refl
      go true e = absurd (false≢true (sym free ∙ covers (lock_of layout root) (lock-low layout root) e))

  roots-spared : (roots : List ℕ) → AllByRecursion (λ root. has pinned (lock_of layout root) ≡ false) roots → AllByRecursion (λ root. has_bit mask (lock_of layout root) ≡ false) roots
  roots-spared [] h = tt
  roots-spared (root ∷ roots) h = (bit-spared root h.0, roots-spared roots h.1)

  pub all-spared : (entries : List Entry) → AllByRecursion (Spares layout pinned) entries → AreSpared layout mask entries
  all-spared [] h = tt
  all-spared (e ∷ entries) h = (roots-spared e.retired h.0, all-spared entries h.1)

  pub roots-covered : (roots : List ℕ) → AllByRecursion (λ root. has_bit mask (lock_of layout root) ≡ true) roots → AllByRecursion (λ root. has pinned (lock_of layout root) ≡ true) roots
  roots-covered [] h = tt
  roots-covered (root ∷ roots) h = (covers (lock_of layout root) (lock-low layout root) h.0, roots-covered roots h.1)

module _ (d : Dataset) (b : Base) (newer : List Entry) (edit : Edit) (mask : ℕ) where
  -- at a later log, where no entry in between retired a root of one of the edit's locks
  locks-later : (log : List Entry) → IsLayout d.layout → Legal d b log → Legal d b (newer ++ log) → AreSpared d.layout mask newer → AreLocks d b log edit mask → AreLocks d b (newer ++ log) edit mask
  locks-later [] bits old legal spared locks = absurd old
  locks-later (e ∷ log) bits old legal spared locks = (locks_last d b newer e log edit mask bits legal locks spared).0

  plan-later : (log : List Entry) (plan : Plan) → IsLayout d.layout → Legal d b log → Legal d b (newer ++ log) → AreSpared d.layout mask newer → AreLocks d b log edit mask → IsPlan d b log edit plan → IsPlan d b (newer ++ log) edit plan
  plan-later [] plan bits old legal spared locks p = absurd old
  plan-later (e ∷ log) plan bits old legal spared locks p = plans_stay d b newer e log edit mask (Ok plan) bits legal locks spared p

module _ (v w : View) (edit : Edit) (later : Later v v w) (pins : Pinned edit v) where
  abbrev x : View
  x = looked v later.tail later.image later.log

  abbrev spared : AreSpared v.dataset.layout pins.mask later.follows.newer
  spared = all-spared v.dataset.layout pins.mask v.pinned pins.pinned later.follows.newer later.follows.spared

  -- what was pinned is pinned at the next look
  pub pinned-on : Pinned edit w
  pinned-on =
      let knows = subst Knows later.is later.knows in
      subst (Pinned edit) (sym later.is) record {
        mask = pins.mask;
        stands = knows.stands;
        long = knows.long;
        low = pins.low;
        locks =
            subst (λ (l : List Entry). AreLocks v.dataset v.base l edit pins.mask) (sym later.follows.is)
            (locks-later v.dataset v.base later.follows.newer edit pins.mask v.log pins.stands.dataset.layout pins.stands.legal (subst (Legal v.dataset v.base) later.follows.is knows.stands.legal) spared pins.locks);
        pinned = pins.pinned;
      }

  -- and what was planned there is a plan now
  pub plan-on : (plan : Plan) → IsPlan v.dataset v.base v.log edit plan → IsPlan w.dataset w.base w.log edit plan
  plan-on plan p =
      let knows = subst Knows later.is later.knows in
      subst (λ (u : View). IsPlan u.dataset u.base u.log edit plan) (sym later.is)
      (subst (λ (l : List Entry). IsPlan v.dataset v.base l edit plan) (sym later.follows.is)
      (plan-later v.dataset v.base later.follows.newer edit pins.mask v.log plan pins.stands.dataset.layout pins.stands.legal (subst (Legal v.dataset v.base) later.follows.is knows.stands.legal) spared pins.locks p))

-- the turn is no matter
pub pinned-turn : (v : View) (edit : Edit) → Pinned edit v → Pinned edit (with_turn v)
pinned-turn v edit p = record { mask = p.mask; stands = p.stands; long = p.long; low = p.low; locks = p.locks; pinned = p.pinned }
