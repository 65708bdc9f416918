-- A look, with and without pins, and the read of a row word.
use Rattle.std.proofs.Common.{◌≡◌, ℕ, ◌-◌, ◌*◌, ◌≤◌, false, List, [], ◌∷◌, length, inl, inr, refl, sym, ap, ◌∙◌, subst, ⊎_elim, arith}
use Rattle.std.specs.Prelude.{slice_index}
use Rattle.std.specs.List.{AllByRecursion}
use mathlib.Core.Option.{some, none}
use lib.ListN.{get_elem?}
use Rattle.std.proofs.lemmas.List.{set-get_or}
use Rattle.atomic_table.specs.Table.{Allows, step}
use Rattle.op_model.specs.declared.entry.Entry.{Entry}
use Rattle.op_model.specs.declared.base.Dataset.{Dataset}
use Rattle.record_rows.specs.Images.{trimmed, trimmed_word}
use Rattle.record_rows.specs.Readings.{Image}
use Rattle.shared_rows.specs.declared.view.View.{View}
use Rattle.shared_rows.specs.Origin.{Origin}
use Rattle.shared_rows.specs.Logs.{ClientsTo}
use Rattle.shared_rows.specs.Locks.{Follows}
use Rattle.shared_rows.specs.Board.{Board, words_of}
use Rattle.shared_rows.specs.Rule.{IsSight, FitsRows, FitsTurn, FitsOld, Fits, Kept, Holds}
use Rattle.shared_rows.specs.Plays.{M, looked, pinning, Knows, KnowsOld, Looks, Pins, Reads}
use Rattle.shared_rows.proofs.Views.{part}
use Rattle.shared_rows.proofs.Words.{length-trimmed, word-trimmed}
use Rattle.shared_rows.proofs.Boards.{by_boards, review, stay, row_word}

pub all-map : {A : Type 0} (P Q : A → Type 0) → ((x : A) → P x → Q x) → (xs : List A) → AllByRecursion P xs → AllByRecursion Q xs
all-map P Q f [] h = tt
all-map P Q f (x ∷ xs) h = (f x h.0, all-map P Q f xs h.1)

pub clients-more : (m n : ℕ) → m ≤ n → (log : List Entry) → ClientsTo m log → ClientsTo n log
clients-more m n le [] h = tt
clients-more m n le (e ∷ []) h = tt
clients-more m n le (e ∷ f ∷ log) h = let a = h.1 in (h.0, omega arith, clients-more m n le (f ∷ log) h.2)

module _ (a : Origin) (b : Board) (views : List View) (id : ℕ) (v : View) (h : Kept a b views) (at : get_elem? views id ≡ some v) (here : v.gone ≡ false) where
  abbrev now : List ℕ
  now = trimmed b.rows b.tail

  abbrev mine : Fits a b v
  mine = h.fits id v at

  dataset_is : v.dataset ≡ a.dataset
  dataset_is = (mine.sight here).dataset_is

  stands : Image v.dataset v.base b.log now
  stands = let s = mine.sight here in subst (λ d. Image d v.base b.log now) (sym s.dataset_is) (subst (λ c. Image a.dataset c b.log now) (sym s.base_is) h.stands)

  long : length now ≡ 8 * b.tail
  long = let w = h.wide in let t = h.tail_in in length-trimmed b.rows b.tail (omega arith)

  room : b.tail ≤ v.dataset.capacity
  room = subst (λ (d : Dataset). b.tail ≤ d.capacity) (sym dataset_is) h.tail_in

  knows-olds : AllByRecursion (KnowsOld b.log) v.olds
  knows-olds = all-map (FitsOld b.count b.log) (KnowsOld b.log) (λ o f. record { seen = f.seen; own_is = f.own_is }) v.olds mine.number.olds_fit

  knows-clients : ClientsTo (64 - v.permits) b.log
  knows-clients = let sum = h.permits in let share = part (λ (x : View). x.permits) views id v at in clients-more b.count (64 - v.permits) (omega arith) b.log h.clients

  knows : Knows (looked v b.tail now b.log)
  knows = record { stands = stands; long = long; room = room; own_is = mine.number.own_is; olds = knows-olds; clients = knows-clients }

  knows-pinned : Knows (looked (pinning v) b.tail now b.log)
  knows-pinned = record { stands = stands; long = long; room = room; own_is = mine.number.own_is; olds = knows-olds; clients = knows-clients }

  sight : IsSight a v.dataset v.base b.log now
  sight = record { dataset_is = dataset_is; base_is = (mine.sight here).base_is; stands = stands }

  follows : Follows v.dataset.layout b.log v.log v.pinned
  follows = subst (λ (d : Dataset). Follows d.layout b.log v.log v.pinned) (sym dataset_is) (mine.follows here)

  rows : FitsRows b.tail b.rows b.tail now v.draft
  rows = record { tail_in = omega arith; image_is = refl; drafted = mine.rows.drafted }

  turn : FitsTurn b.tail b.turn b.log v.number b.tail b.log v.turn v.turn v.draft
  turn = record {
    turn_is = mine.turn.turn_is;
    fresh_is = λ t. (t, refl, refl);
    begun = ⊎_elim (λ none_begun. inl none_begun) (λ fresh. inr (mine.turn.fresh_is fresh).0) mine.turn.begun;
  }

  looked-fits : Fits a b (looked v b.tail now b.log)
  looked-fits = record {
    sight = λ _. sight;
    rows = rows;
    follows = λ _. record { newer = []; is = refl; spared = tt };
    turn = turn;
    locks = mine.locks;
    number = mine.number;
    bare = mine.bare;
  }

  pinned-fits : Fits a b (looked (pinning v) b.tail now b.log)
  pinned-fits = record {
    sight = λ _. sight;
    rows = rows;
    follows = λ _. record { newer = []; is = refl; spared = tt };
    turn = turn;
    locks = record { held_is = mine.locks.held_is; pinned_held = λ l is. is };
    number = mine.number;
    bare = mine.bare;
  }

  more : v.tail ≤ b.tail
  more = mine.rows.tail_in

pub looks : (a : Origin) (slots id : ℕ) (me : M) → me.0.gone ≡ false → Allows (Holds a) slots id me 0 (λ n. n) (Looks (step slots 0 0 0 none) me)
looks a slots id me here = by_boards a slots id me 0 (λ n. n) (Looks (step slots 0 0 0 none) me) (λ b views h at _.
    let v = me.0 in let image = trimmed b.rows b.tail in let w = looked v b.tail image b.log in (
      w,
      b,
      refl,
      review a b views id v w h at refl (λ _. refl) refl refl (looked-fits a b views id v h at here) (λ _ s. s),
      (
        record { tail = b.tail; image = image; log = b.log; is = refl; more = more a b views id v h at here; follows = follows a b views id v h at here; knows = knows a b views id v h at here },
        refl,
        refl,
      ),
    ))

pub pins : (a : Origin) (slots id : ℕ) (me : M) → me.0.gone ≡ false → Allows (Holds a) slots id me 0 (λ n. n) (Pins (step slots 0 0 0 none) me)
pins a slots id me here = by_boards a slots id me 0 (λ n. n) (Pins (step slots 0 0 0 none) me) (λ b views h at _.
    let v = me.0 in let image = trimmed b.rows b.tail in let w = looked (pinning v) b.tail image b.log in (
      w,
      b,
      refl,
      review a b views id v w h at refl (λ _. refl) refl refl (pinned-fits a b views id v h at here) (λ _ s. s),
      (
        record { tail = b.tail; image = image; log = b.log; is = refl; more = more a b views id v h at here; follows = follows a b views id v h at here; knows = knows-pinned a b views id v h at here },
        refl,
        refl,
      ),
    ))

pub reads : (a : Origin) (slots id : ℕ) (me : M) (i : ℕ) → Allows (Holds a) slots id me i (λ n. n) (Reads (step slots i 0 0 none) me)
reads a slots id me i = by_boards a slots id me i (λ n. n) (Reads (step slots i 0 0 none) me) (λ b views h at _.
    let v = me.0 in let mine = h.fits id v at in (
      v,
      b,
      set-get_or (words_of b) i 0,
      stay a b views id v h at,
      (
        refl,
        λ k is low. let wide = h.wide in let t = h.tail_in in let s = mine.rows.tail_in in
            ap (λ (n : ℕ). trimmed_word v.tail k n) (ap (λ (n : ℕ). slice_index (words_of b) n) is ∙ row_word b k h.lock_count)
            ∙ sym (ap (λ (l : List ℕ). slice_index l k) mine.rows.image_is ∙ word-trimmed b.rows v.tail k (omega arith) low),
      ),
    ))
