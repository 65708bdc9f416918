-- A seat is split, and two are joined.
use Rattle.std.proofs.Common.{◌≡◌, ◌≢◌, ℕ, ◌+◌, ◌<◌, false, eqb, ne_eqb, List, [], ◌∷◌, ◌++◌, set, inl, refl, sym, ap, subst, ⊎_elim, arith, is_some}
use Rattle.std.specs.Prelude.{IsSome}
use Rattle.std.specs.List.{AllByRecursion}
use mathlib.Core.Option.{some}
use lib.ListN.{get_elem?}
use Rattle.atomic_table.specs.Table.{Splits, Joins}
use Rattle.atomic_table.proofs.Lists.{at_longer, at_set}
use Rattle.graph_model.specs.Lists.{has}
use Rattle.op_model.specs.declared.entry.Entry.{Entry}
use Rattle.record_rows.specs.Images.{trimmed}
use Rattle.shared_rows.specs.declared.view.View.{View}
use Rattle.shared_rows.specs.declared.view.Old.{Old}
use Rattle.shared_rows.specs.Origin.{Origin}
use Rattle.shared_rows.specs.Locks.{Spares, Follows}
use Rattle.shared_rows.specs.Board.{Board, stored_at, total, weight}
use Rattle.shared_rows.specs.Rule.{has_number, FitsOld, Fits, Holds}
use Rattle.shared_rows.specs.Known.{IsIdle}
use Rattle.shared_rows.specs.Plays.{kept_back, handed, old_of, joined, spent}
use Rattle.shared_rows.proofs.Views.{sum-set, each-set, some-set, total-snoc, each-snoc}
use Rattle.shared_rows.proofs.Boards.{off}
use Rattle.shared_rows.proofs.Looking.{all-map}

no_number : (n : ℕ) → 0 < n → weight (eqb 0 n) ≡ 0
no_number n pos = ap weight (ne_eqb 0 n (λ same. omega arith))

-- where no lock is pinned, every entry spares what is pinned
pub spares-none : (f : _) (e : Entry) → Spares f [] e
spares-none f e = go e.retired
  where
    go : (roots : List ℕ) → AllByRecursion (λ root. has [] (Rattle.op_model.specs.Locks.lock_of f root) ≡ false) roots
    go [] = tt
    go (root ∷ roots) = (refl, go roots)

pub unpinned : (f : _) (log seen : List Entry) (locks : List ℕ) → Follows f log seen locks → Follows f log seen []
unpinned f log seen locks g = record { newer = g.newer; is = g.is; spared = all-map (Spares f locks) (Spares f []) (λ e _. spares-none f e) g.newer g.spared }

-- a view that knows as much and has drawn nothing
handed-fits : (a : Origin) (b : Board) (v : View) → Fits a b v → Fits a b (handed v)
handed-fits a b v f = record {
  sight = f.sight;
  rows = record { tail_in = f.rows.tail_in; image_is = f.rows.image_is; drafted = λ k n e. absurd (off (ap is_some e)) };
  follows = λ here. unpinned a.dataset.layout b.log v.log v.pinned (f.follows here);
  turn = record { turn_is = λ t. absurd (off t); fresh_is = λ t. absurd (off t); begun = inl refl };
  locks = record { held_is = λ l is. absurd (off is); pinned_held = λ l is. absurd (off is) };
  number = record { floor_in = f.number.floor_in; number_in = omega arith; own_is = λ p. absurd (omega arith); olds_fit = tt };
  bare = λ _. record { no_locks = refl; no_turn = refl; no_draft = refl; no_entries = refl };
}

pub splits : (a : Origin) (id : ℕ) (v : View) → Splits (Holds a) id v (kept_back v) (handed v)
splits a id v s h at = let b = h.0 in let k = h.2 in let views = s.views in let w = kept_back v in let n = handed v in let mine = k.fits id v at in (
  b,
  h.1,
  record {
    wide = k.wide;
    lock_count = k.lock_count;
    tail_in = k.tail_in;
    stands = k.stands;
    holders = λ l low. let s = sum-set (λ (u : View). weight (has u.held l)) views id v w at in let m = total-snoc (λ (u : View). weight (has u.held l)) (set views id w) n in let e = k.holders l low in omega arith;
    turns = let s = sum-set (λ (u : View). weight u.turn) views id v w at in let m = total-snoc (λ (u : View). weight u.turn) (set views id w) n in let e = k.turns in omega arith;
    linked = λ i low pointer high. let x = some-set (λ (u : View). IsSome (stored_at i u.draft)) views id v w at (λ s. s) (k.linked i low pointer high) in (x.0, x.1, at_longer (set views id w) (n ∷ []) x.0 x.1 x.2, x.3);
    permits = let s = sum-set (λ (u : View). u.permits) views id v w at in let m = total-snoc (λ (u : View). u.permits) (set views id w) n in let e = k.permits in omega arith;
    numbers = λ x pos. let s = sum-set (has_number x) views id v w at in let m = total-snoc (has_number x) (set views id w) n in let e = k.numbers x pos in let z = no_number x pos in omega arith;
    clients = k.clients;
    fits = each-snoc (Fits a b) (set views id w) n
        (each-set (Fits a b) views id w (λ j u _ e. k.fits j u e)
        record { sight = mine.sight; rows = mine.rows; follows = mine.follows; turn = mine.turn; locks = mine.locks; number = mine.number; bare = mine.bare })
        (handed-fits a b v mine);
  },
)

total-append : {A : Type 0} (f : A → ℕ) (xs ys : List A) → total f (xs ++ ys) ≡ total f xs + total f ys
total-append f [] ys = omega arith
total-append f (x ∷ xs) ys = let r = total-append f xs ys in omega arith

all-join : {A : Type 0} (P : A → Type 0) (xs ys : List A) → AllByRecursion P xs → AllByRecursion P ys → AllByRecursion P (xs ++ ys)
all-join P [] ys h k = k
all-join P (x ∷ xs) ys h k = (h.0, all-join P xs ys h.1 k)

empty-image : (rows : List ℕ) → [] ≡ trimmed rows 0
unfolding trimmed Rattle.record_rows.specs.Images.trimmed_from
empty-image rows = refl

spent-fits : (a : Origin) (b : Board) → Fits a b spent
spent-fits a b = record {
  sight = λ e. absurd (off (sym e));
  rows = record { tail_in = omega arith; image_is = empty-image b.rows; drafted = λ k n e. absurd (off (ap is_some e)) };
  follows = λ e. absurd (off (sym e));
  turn = record { turn_is = λ t. absurd (off t); fresh_is = λ t. absurd (off t); begun = inl refl };
  locks = record { held_is = λ l is. absurd (off is); pinned_held = λ l is. absurd (off is) };
  number = record { floor_in = omega arith; number_in = omega arith; own_is = λ p. absurd (omega arith); olds_fit = tt };
  bare = λ _. record { no_locks = refl; no_turn = refl; no_draft = refl; no_entries = refl };
}

-- the seat takes in a view that has a number, no lock, no turn and no draft
pub joins : (a : Origin) (id other : ℕ) (v w : View) → 0 < w.number → w.gone ≡ false → IsIdle w → Joins (Holds a) id v other w (joined v w) spent
joins a id other v w pos here idle s h at apart there_now =
    let b = h.0 in let k = h.2 in let views = s.views in let both = joined v w in let now = set views id both in
    let there : get_elem? views other ≡ some w = ⊎_elim (λ (t : (other ≡ id) × (both ≡ w)). absurd (apart t.0)) (λ (t : (other ≢ id) × (get_elem? views other ≡ some w)). t.1) (at_set views id other both w there_now) in
    let mine = k.fits id v at in let theirs = k.fits other w there in let seen = theirs.follows here in (
      b,
      h.1,
      record {
        wide = k.wide;
        lock_count = k.lock_count;
        tail_in = k.tail_in;
        stands = k.stands;
        holders = λ l low. let s = sum-set (λ (u : View). weight (has u.held l)) views id v both at in let m = sum-set (λ (u : View). weight (has u.held l)) now other w spent there_now in let e = k.holders l low in
            let z = ap (λ (ls : List ℕ). weight (has ls l)) idle.held in omega arith;
        turns = let s = sum-set (λ (u : View). weight u.turn) views id v both at in let m = sum-set (λ (u : View). weight u.turn) now other w spent there_now in let e = k.turns in let z = ap weight idle.has_turn in omega arith;
        linked = λ i low pointer high. let x = some-set (λ (u : View). IsSome (stored_at i u.draft)) views id v both at (λ s. s) (k.linked i low pointer high) in
            some-set (λ (u : View). IsSome (stored_at i u.draft)) now other w spent there_now (λ s. absurd (off (subst (λ (d : List (ℕ × ℕ)). IsSome (stored_at i d)) idle.draft s))) x;
        permits = let s = sum-set (λ (u : View). u.permits) views id v both at in let m = sum-set (λ (u : View). u.permits) now other w spent there_now in let e = k.permits in omega arith;
        numbers = λ x p. let s = sum-set (has_number x) views id v both at in let m = sum-set (has_number x) now other w spent there_now in let e = k.numbers x p in let z = no_number x p in
            let olds = total-append (λ (o : Old). weight (eqb o.number x)) v.olds (old_of w ∷ w.olds) in omega arith;
        clients = k.clients;
        fits = each-set (Fits a b) now other spent
            (λ j u _ e. each-set (Fits a b) views id both (λ i x _ e'. k.fits i x e') record {
              sight = mine.sight;
              rows = mine.rows;
              follows = mine.follows;
              turn = mine.turn;
              locks = mine.locks;
              number = record {
                floor_in = mine.number.floor_in;
                number_in = mine.number.number_in;
                own_is = mine.number.own_is;
                olds_fit = all-join (FitsOld b.count b.log) v.olds (old_of w ∷ w.olds) mine.number.olds_fit
                    (record { numbered = pos; number_in = theirs.number.number_in; seen = record { newer = seen.newer; is = seen.is }; own_is = theirs.number.own_is pos }, theirs.number.olds_fit);
              };
              bare = mine.bare;
            } j u e)
            (spent-fits a b);
      },
    )
