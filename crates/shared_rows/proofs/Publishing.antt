-- The entry of a whole draft is published.
use Rattle.std.proofs.Common.{cond, ◌≡◌, ◌≢◌, ℕ, zero, suc, ◌+◌, ◌*◌, ◌<◌, ◌≤◌, Bool, true, false, eqb, leb, eq-eqb, ne_eqb, Option, Some, None, is_some, List, [], ◌∷◌, length, inl, refl, sym, ap, ◌∙◌, subst, arith}
use Rattle.std.specs.Prelude.{slice_index, slice_set}
use Rattle.std.specs.Option.{unwrap_or}
use Rattle.std.specs.List.{AllByRecursion}
use mathlib.Core.Option.{some, none}
use native.Mathlib.Decide.{dec_lt}
use lib.ListN.{get_elem?}
use Rattle.atomic_table.specs.Table.{Allows, step}
use Rattle.node_ids.specs.Ids.{LayoutForm}
use Rattle.graph_model.specs.Lists.{has}
use Rattle.op_model.specs.declared.base.Dataset.{Dataset}
use Rattle.op_model.specs.declared.base.Base.{Base}
use Rattle.op_model.specs.declared.entry.Entry.{Entry}
use Rattle.record_rows.specs.Images.{trimmed, trimmed_word}
use Rattle.record_rows.specs.Readings.{Image}
use Rattle.shared_rows.specs.declared.view.View.{View}
use Rattle.shared_rows.specs.declared.view.Old.{Old}
use Rattle.shared_rows.specs.Origin.{Origin}
use Rattle.shared_rows.specs.Logs.{Extends, entries_by, ClientsTo}
use Rattle.op_model.specs.Locks.{lock_of}
use Rattle.shared_rows.specs.Locks.{Spares, Covers}
use Rattle.shared_rows.specs.Board.{Board, stored_at, total, weight}
use Rattle.shared_rows.specs.Rule.{has_number, FitsOld, Fits, Kept, Holds}
use Rattle.shared_rows.specs.Drafting.{word_of, words_by, image_after, Whole}
use Rattle.shared_rows.specs.Plays.{M, published, Publishes}
use Rattle.shared_rows.proofs.Views.{part, two-parts, sum-same, each-set}
use Rattle.shared_rows.proofs.Words.{same-trimmed, length-trimmed}
use Rattle.shared_rows.proofs.Boards.{by_boards, off, once-le}
use Rattle.shared_rows.proofs.Turns.{alone}
use Rattle.shared_rows.proofs.Drafts.{unstored}

pub length-words_by : (f : ℕ → ℕ) (k n : ℕ) → length (words_by f k n) ≡ n
length-words_by f k zero = refl
length-words_by f k (suc n) = ap suc (length-words_by f (suc k) n)

pub word-words_by : (f : ℕ → ℕ) (k n i : ℕ) → i < n → slice_index (words_by f k n) i ≡ f (k + i)
word-words_by f k zero i h = absurd (omega arith)
word-words_by f k (suc n) zero h = ap f (omega arith)
word-words_by f k (suc n) (suc i) h = word-words_by f (suc k) n i (omega arith) ∙ ap f (omega arith)

pub image-after-long : (v : View) (t : ℕ) → length (image_after v t) ≡ 8 * t
image-after-long v t = let n = length-words_by (word_of v) 0 (8 * t) in length-trimmed (words_by (word_of v) 0 (8 * t)) t (omega arith)

-- the entries of the writer are one more, and those of another are the same
more_mine : (n : ℕ) (log : List Entry) (e : Entry) → e.client ≡ n → entries_by n (e ∷ log) ≡ e ∷ entries_by n log
more_mine n log e is = ap (λ c. cond c (e ∷ entries_by n log) (entries_by n log)) (eq-eqb e.client n is)

same_other : (n : ℕ) (log : List Entry) (e : Entry) → e.client ≢ n → entries_by n (e ∷ log) ≡ entries_by n log
same_other n log e not = ap (λ c. cond c (e ∷ entries_by n log) (entries_by n log)) (ne_eqb e.client n not)

longer : (log seen : List Entry) (e : Entry) → Extends log seen → Extends (e ∷ log) seen
longer log seen e s = record { newer = e ∷ s.newer; is = ap (λ l. e ∷ l) s.is }

clients-cons : (n : ℕ) (e : Entry) (log : List Entry) → 1 ≤ e.client → e.client ≤ n → ClientsTo n log → ClientsTo n (e ∷ log)
clients-cons n e [] low high h = tt
clients-cons n e (f ∷ log) low high h = (low, high, h)

-- olds with other numbers stay right
olds-longer : (count : ℕ) (log : List Entry) (e : Entry) (n : ℕ) (olds : List Old) → e.client ≡ n → total (λ (o : Old). weight (eqb o.number n)) olds ≡ 0 → AllByRecursion (FitsOld count log) olds → AllByRecursion (FitsOld count (e ∷ log)) olds
olds-longer count log e n [] is none_there h = tt
olds-longer count log e n (o ∷ os) is none_there h =
    let other : o.number ≢ n = λ same. let one = ap weight (eq-eqb o.number n same) in omega arith in (
      record { numbered = h.0.numbered; number_in = h.0.number_in; seen = longer log o.log e h.0.seen; own_is = h.0.own_is ∙ sym (same_other o.number log e (λ by. other (sym by ∙ is))) },
      olds-longer count log e n os is (omega arith) h.1,
    )

pub lock_low : (f : LayoutForm) (root : ℕ) → lock_of f root < 64
unfolding lock_of
lock_low f root = omega arith

module _ (a : Origin) (b : Board) (views : List View) (id : ℕ) (v : View) (t : ℕ) (e : Entry) (h : Kept a b views) (at : get_elem? views id ≡ some v) (fresh : v.fresh ≡ true) (here : v.gone ≡ false) (pos : 0 < v.number) (whole : Whole v t e) where
  abbrev mine : Fits a b v
  mine = h.fits id v at

  dataset_is : v.dataset ≡ a.dataset
  dataset_is = (mine.sight here).dataset_is

  in_room : t ≤ a.dataset.capacity
  in_room = subst (λ (d : Dataset). t ≤ d.capacity) dataset_is whole.room

  same_tail : v.tail ≡ b.tail
  same_tail = (mine.turn.fresh_is fresh).1

  log_after : ◌≡◌ {A = List Entry} (e ∷ v.log) (e ∷ b.log)
  log_after = ap (λ (l : List Entry). e ∷ l) (mine.turn.fresh_is fresh).2

  -- the words below t are those that the view knows
  known : (k : ℕ) → k < 8 * t → slice_index b.rows k ≡ word_of v k
  known k low = by_store (stored_at k v.draft) refl
    where
      by_store : (o : Option ℕ) → stored_at k v.draft ≡ o → slice_index b.rows k ≡ word_of v k
      by_store (Some m) is = mine.rows.drafted k m is ∙ sym (ap (λ x. unwrap_or x (slice_index v.image k)) is)
      by_store None is = by_place (dec_lt k (8 * v.tail))
        where
          by_place : Dec (k < 8 * v.tail) → slice_index b.rows k ≡ word_of v k
          by_place (yes below) = unstored a b views id v h at fresh k below is ∙ sym (ap (λ x. unwrap_or x (slice_index v.image k)) is)
          by_place (no above) = absurd (off (subst (λ o. is_some o ≡ true) is (whole.covered k (omega arith) low)))

  after : image_after v t ≡ trimmed b.rows t
  after =
      let wide = h.wide in let fits_in = in_room in let n = length-words_by (word_of v) 0 (8 * t) in
      same-trimmed (words_by (word_of v) 0 (8 * t)) b.rows t (omega arith) (omega arith)
      (λ k low. let z : 0 + k ≡ k = omega arith in ap (trimmed_word t k) (word-words_by (word_of v) 0 (8 * t) k low ∙ ap (word_of v) z ∙ sym (known k low)))

  stands_after : Image a.dataset a.base (e ∷ b.log) (trimmed b.rows t)
  stands_after =
      subst (λ (l : List Entry). Image a.dataset a.base l (trimmed b.rows t)) log_after
      (subst (λ (i : List ℕ). Image a.dataset a.base (e ∷ v.log) i) after
      (subst (λ (c : Base). Image a.dataset c (e ∷ v.log) (image_after v t)) (mine.sight here).base_is (subst (λ (d : Dataset). Image d v.base (e ∷ v.log) (image_after v t)) dataset_is whole.stands)))

  covers : Covers a.dataset.layout v.pinned e
  covers = subst (λ (d : Dataset). Covers d.layout v.pinned e) dataset_is whole.pinned

  -- another view has pinned none of the locks that this one has
  apart-pins : (j : ℕ) (u : View) → j ≢ id → get_elem? views j ≡ some u → (l : ℕ) → l < 64 → has v.pinned l ≡ true → has u.pinned l ≡ false
  apart-pins j u apart there l low mine_has = by_pin (has u.pinned l) refl
    where
      by_pin : (c : Bool) → has u.pinned l ≡ c → has u.pinned l ≡ false
      by_pin false is = is
      by_pin true is =
          let x = ap weight (mine.locks.pinned_held l mine_has) in
          let y = ap weight ((h.fits j u there).locks.pinned_held l is) in
          let two = two-parts (λ (w : View). weight (has w.held l)) views j id u v apart there at in
          let sum = h.holders l low in
          let most = once-le (slice_index b.locks l) in absurd (omega arith)

  spares : (j : ℕ) (u : View) → j ≢ id → get_elem? views j ≡ some u → Spares a.dataset.layout u.pinned e
  spares j u apart there = go e.retired covers
    where
      go : (roots : List ℕ) → AllByRecursion (λ root. has v.pinned (lock_of a.dataset.layout root) ≡ true) roots → AllByRecursion (λ root. has u.pinned (lock_of a.dataset.layout root) ≡ false) roots
      go [] c = tt
      go (root ∷ roots) c = (apart-pins j u apart there (lock_of a.dataset.layout root) (lock_low a.dataset.layout root) c.0, go roots c.1)

  at_most : total (has_number v.number) views ≤ 1
  at_most = let e = h.numbers v.number pos in let w = weight_le (leb v.number b.count) in omega arith
    where
      weight_le : (c : Bool) → weight c ≤ 1
      weight_le true = omega arith
      weight_le false = omega arith

  me_once : has_number v.number v ≡ 1 + total (λ (o : Old). weight (eqb o.number v.number)) v.olds
  me_once = ap (λ c. weight c + total (λ (o : Old). weight (eqb o.number v.number)) v.olds) (eq-eqb v.number v.number refl)

  publish : Kept a (record b { tail = t; log = e ∷ b.log }) (slice_set views id (published v t e))
  publish =
      let w = published v t e in
      let turn = (mine.turn.fresh_is fresh).0 in
      let tail = same_tail in
      let small = mine.number.number_in in
      let more = whole.more in
      let fits_in = in_room in
      let by = whole.client in
      let once_me = me_once in
      let all_once = at_most in record {
        wide = h.wide;
        lock_count = h.lock_count;
        tail_in = fits_in;
        stands = stands_after;
        holders = λ l low. sum-same (λ (u : View). weight (has u.held l)) views id v w at refl ∙ h.holders l low;
        turns = sum-same (λ (x : View). weight x.turn) views id v w at refl ∙ h.turns;
        linked = λ k low pointer high. let k_word = known k low in let closed = whole.closed k low pointer in absurd (omega arith);
        permits = ap (λ x. b.count + x) (sum-same (λ (u : View). u.permits) views id v w at refl) ∙ h.permits;
        numbers = λ x p. sum-same (has_number x) views id v w at refl ∙ h.numbers x p;
        clients = clients-cons b.count e b.log (omega arith) (omega arith) h.clients;
        fits = each-set (Fits a (record b { tail = t; log = e ∷ b.log })) views id w
            (λ j u apart there. let f = h.fits j u there in let two = two-parts (has_number v.number) views j id u v apart there at in
            let low = f.rows.tail_in in
            let other : v.number ≢ u.number = λ same. let one : weight (eqb u.number v.number) ≡ 1 = ap weight (eq-eqb u.number v.number (sym same)) in omega arith in record {
              sight = f.sight;
              rows = record { tail_in = omega arith; image_is = f.rows.image_is; drafted = f.rows.drafted };
              follows = λ is. let g = f.follows is in record { newer = e ∷ g.newer; is = ap (λ (l : List Entry). e ∷ l) g.is; spared = (spares j u apart there, g.spared) };
              turn = record { turn_is = f.turn.turn_is; fresh_is = λ g. absurd (alone a b views id j v u h at turn apart there (f.turn.fresh_is g).0); begun = f.turn.begun };
              locks = f.locks;
              number = record {
                floor_in = f.number.floor_in;
                number_in = f.number.number_in;
                own_is = λ p. f.number.own_is p ∙ sym (same_other u.number b.log e (λ is. other (sym by ∙ is)));
                olds_fit = olds-longer b.count b.log e v.number u.olds by (omega arith) f.number.olds_fit;
              };
              bare = f.bare;
            })
            record {
              sight = λ is. record { dataset_is = dataset_is; base_is = (mine.sight is).base_is; stands = whole.stands };
              rows = record { tail_in = omega arith; image_is = after; drafted = λ k n s. absurd (off (ap is_some s)) };
              follows = λ _. record { newer = []; is = sym log_after; spared = tt };
              turn = record { turn_is = mine.turn.turn_is; fresh_is = λ _. (turn, refl, log_after); begun = inl refl };
              locks = mine.locks;
              number = record {
                floor_in = mine.number.floor_in;
                number_in = mine.number.number_in;
                own_is = λ p. ap (λ (l : List Entry). e ∷ l) (mine.number.own_is p) ∙ sym (more_mine v.number b.log e by);
                olds_fit = olds-longer b.count b.log e v.number v.olds by (let p = part (has_number v.number) views id v at in omega arith) mine.number.olds_fit;
              };
              bare = λ z. absurd (omega arith);
            };
      }

pub publishes : (a : Origin) (slots id : ℕ) (me : M) (t : ℕ) (e : Entry) → me.0.fresh ≡ true → 0 < me.0.number → me.0.gone ≡ false → Whole me.0 t e → Allows (Holds a) slots id me 0 (λ _. t) (λ _. Publishes e (step slots 0 t 0 none) me t)
publishes a slots id me t e fresh pos here whole = by_boards a slots id me 0 (λ _. t) (λ _. Publishes e (step slots 0 t 0 none) me t) (λ b views h at _. (
  published me.0 t e,
  record b { tail = t; log = e ∷ b.log },
  refl,
  publish a b views id me.0 t e h at fresh here pos whole,
  (refl, refl),
))
