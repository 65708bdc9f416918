-- A store of the draft.
use Rattle.std.proofs.Common.{cond, ◌≡◌, ◌≢◌, ℕ, ◌+◌, ◌*◌, ◌<◌, ◌≤◌, Bool, true, false, eqb, eq-eqb, ne_eqb, Option, Some, None, is_some, List, [], ◌∷◌, length, length-set, set, inl, inr, refl, sym, ap, ◌∙◌, subst, ⊎_elim, arith}
use Rattle.std.specs.Prelude.{slice_index, slice_set, IsSome}
use Rattle.std.specs.Option.{unwrap_or}
use Rattle.std.proofs.lemmas.List.{get_or-set_same, get_or-set_other}
use mathlib.Core.Logic.{dite}
use mathlib.Core.Option.{some, none, some-injective}
use native.Mathlib.Decide.{ℕ_discrete, dec_lt}
use lib.ListN.{get_elem?}
use Rattle.atomic_table.specs.Table.{Allows, step}
use Rattle.graph_model.specs.Lists.{has}
use Rattle.op_model.specs.declared.base.Dataset.{Dataset}
use Rattle.record_rows.specs.Images.{is_pointer, trimmed_word}
use Rattle.record_rows.specs.Readings.{Image}
use Rattle.shared_rows.specs.declared.view.View.{View}
use Rattle.shared_rows.specs.Origin.{Origin}
use Rattle.shared_rows.specs.Board.{Board, stored_at, weight}
use Rattle.shared_rows.specs.Rule.{FitsRows, has_number, Fits, Kept, Holds}
use Rattle.shared_rows.specs.Drafting.{word_of, MayStore}
use Rattle.shared_rows.specs.Plays.{M, with_store, Stores}
use Rattle.shared_rows.proofs.Views.{sum-same, each-set, some-set, here-set}
use Rattle.shared_rows.proofs.Words.{Fillable, fill-keeps, word-trimmed, trim-low, trim-plain}
use Rattle.shared_rows.proofs.Boards.{by_boards, off, row_set}
use Rattle.shared_rows.proofs.Turns.{alone, holder-numbered}

-- what a draft has at the word that was stored last, and at another
pub stored-here : (k n : ℕ) (d : List (ℕ × ℕ)) → stored_at k ((k, n) ∷ d) ≡ Some n
stored-here k n d = ap (λ b. cond b (Some n) (stored_at k d)) (eq-eqb k k refl)

pub stored-else : (j k n : ℕ) (d : List (ℕ × ℕ)) → j ≢ k → stored_at j ((k, n) ∷ d) ≡ stored_at j d
stored-else j k n d apart = ap (λ b. cond b (Some n) (stored_at j d)) (ne_eqb j k apart)

-- another view than that of the turn's holder has no draft
pub other-clean : (a : Origin) (b : Board) (views : List View) (id j : ℕ) (v u : View) → Kept a b views → get_elem? views id ≡ some v → v.turn ≡ true → j ≢ id → get_elem? views j ≡ some u → u.draft ≡ []
other-clean a b views id j v u h at mine apart e = let f = (h.fits j u e).turn in ⊎_elim (λ clean. clean) (λ fresh. absurd (alone a b views id j v u h at mine apart e (f.fresh_is fresh).0)) f.begun

module _ (a : Origin) (b : Board) (views : List View) (id : ℕ) (v : View) (h : Kept a b views) (at : get_elem? views id ≡ some v) (fresh : v.fresh ≡ true) where
  has_turn : v.turn ≡ true
  has_turn = ((h.fits id v at).turn.fresh_is fresh).0

  same_tail : v.tail ≡ b.tail
  same_tail = ((h.fits id v at).turn.fresh_is fresh).1

  -- a word that a fresh view did not store is that of its image
  pub unstored : (k : ℕ) → k < 8 * v.tail → stored_at k v.draft ≡ None → slice_index b.rows k ≡ slice_index v.image k
  unstored k low none_stored =
      let tail = same_tail in
      let wide = h.wide in
      let within = h.tail_in in
      let word = slice_index b.rows k in
      let seen : slice_index v.image k ≡ trimmed_word v.tail k word = ap (λ (l : List ℕ). slice_index l k) (h.fits id v at).rows.image_is ∙ word-trimmed b.rows v.tail k (omega arith) low in
      elim (dec_lt word v.tail) [
        | yes below ↦ sym (seen ∙ trim-low v.tail k word below)
        | no not_below ↦ by_kind word seen (is_pointer k) refl (λ p. let x = h.linked k (omega arith) p (omega arith) in dite (ℕ_discrete x.0 id)
            (λ here. let same : x.1 ≡ v = some-injective x.1 v (sym x.2 ∙ ap (λ n. get_elem? views n) here ∙ at) in
            let some_stored : IsSome (stored_at k v.draft) = subst (λ (u : View). IsSome (stored_at k u.draft)) same x.3 in off (subst (λ o. is_some o ≡ true) none_stored some_stored))
            (λ apart. let clean = other-clean a b views id x.0 v x.1 h at has_turn apart x.2 in off (subst (λ (d : List (ℕ × ℕ)). IsSome (stored_at k d)) clean x.3)))
      ]
    where
      by_kind : (word : ℕ) → slice_index v.image k ≡ trimmed_word v.tail k word → (p : Bool) → is_pointer k ≡ p → (is_pointer k ≡ true → ⊥) → word ≡ slice_index v.image k
      by_kind word seen true is not = absurd (not is)
      by_kind word seen false is not = sym (seen ∙ trim-plain v.tail k word is)

  -- what the view may store, the rows may be filled with
  fillable : (k n : ℕ) → MayStore v k n → Fillable b.rows b.tail k n
  fillable k n may =
      let tail = same_tail in
      ⊎_elim (λ (high : 8 * v.tail ≤ k). inl (omega arith)) (λ (e : (k < 8 * v.tail) × (is_pointer k ≡ true) × (word_of v k ≡ 0) × (v.tail ≤ n)). let up = e.3 in inr (e.1, known e.0 e.2 (stored_at k v.draft) refl, omega arith)) may
    where
      known : k < 8 * v.tail → word_of v k ≡ 0 → (o : Option ℕ) → stored_at k v.draft ≡ o → slice_index b.rows k ≡ 0
      known low zero_word (Some m) is = (h.fits id v at).rows.drafted k m is ∙ sym (ap (λ x. unwrap_or x (slice_index v.image k)) is) ∙ zero_word
      known low zero_word None is = unstored k low is ∙ sym (ap (λ x. unwrap_or x (slice_index v.image k)) is) ∙ zero_word

  -- what a view says of the rows, after a store
  rows-fit : (u : View) (k n : ℕ) (d : List (ℕ × ℕ)) → FitsRows b.tail b.rows u.tail u.image u.draft → Fillable b.rows b.tail k n
      → ((i m : ℕ) → stored_at i d ≡ Some m → slice_index (slice_set b.rows k n) i ≡ m) → FitsRows b.tail (slice_set b.rows k n) u.tail u.image d
  rows-fit u k n d f may drafted = record {
    tail_in = f.tail_in;
    image_is = f.image_is ∙ sym (fill-keeps b.rows u.tail b.tail k n f.tail_in may);
    drafted = drafted;
  }

  store_drafted : (k n : ℕ) → k < length b.rows → ((i m : ℕ) → stored_at i v.draft ≡ Some m → slice_index b.rows i ≡ m) → (i m : ℕ) → stored_at i ((k, n) ∷ v.draft) ≡ Some m → slice_index (slice_set b.rows k n) i ≡ m
  store_drafted k n inside before i m e = dite (ℕ_discrete i k)
      (λ here. let e' : Some n ≡ Some m = sym (stored-here k n v.draft) ∙ ap (λ j. stored_at j ((k, n) ∷ v.draft)) (sym here) ∙ e in
      ap (λ j. slice_index (slice_set b.rows k n) j) here ∙ get_or-set_same b.rows k n 0 inside ∙ ap (λ o. unwrap_or o 0) e')
      (λ apart. get_or-set_other b.rows k i n 0 apart ∙ before i m (sym (stored-else i k n v.draft apart) ∙ e))

  store : (k n : ℕ) → MayStore v k n → k < 8 * v.dataset.capacity → v.gone ≡ false → Kept a (record b { rows = slice_set b.rows k n }) (set views id (with_store v k n))
  store k n may inside here =
      let w = with_store v k n in
      let mine = h.fits id v at in
      let turn = has_turn in
      let room = (mine.sight here).dataset_is in
      let wide = h.wide in
      let low : k < 8 * a.dataset.capacity = subst (λ (d : Dataset). k < 8 * d.capacity) room inside in
      let pos = holder-numbered a b v mine turn in
      let fill = fillable k n may in record {
        wide = length-set b.rows k n ∙ h.wide;
        lock_count = h.lock_count;
        tail_in = h.tail_in;
        stands = subst (λ (i : List ℕ). Image a.dataset a.base b.log i) (sym (fill-keeps b.rows b.tail b.tail k n (omega arith) fill)) h.stands;
        holders = λ l low. sum-same (λ (u : View). weight (has u.held l)) views id v w at refl ∙ h.holders l low;
        turns = sum-same (λ (x : View). weight x.turn) views id v w at refl ∙ h.turns;
        linked = λ i below pointer high. dite (ℕ_discrete i k)
            (λ same. (id, w, here-set views id v w at, subst (λ o. is_some o ≡ true) (sym (ap (λ j. stored_at j w.draft) same ∙ stored-here k n v.draft)) refl))
            (λ apart. let before : slice_index (slice_set b.rows k n) i ≡ slice_index b.rows i = get_or-set_other b.rows k i n 0 apart in
            some-set (λ (u : View). IsSome (stored_at i u.draft)) views id v w at (stored_more i k n v.draft) (h.linked i below pointer (subst (λ x. b.tail ≤ x) before high)));
        permits = ap (λ x. b.count + x) (sum-same (λ (u : View). u.permits) views id v w at refl) ∙ h.permits;
        numbers = λ x p. sum-same (has_number x) views id v w at refl ∙ h.numbers x p;
        clients = h.clients;
        fits = each-set (Fits a (record b { rows = slice_set b.rows k n })) views id w
            (λ j u apart e. let f = h.fits j u e in let clean = other-clean a b views id j v u h at turn apart e in record {
              sight = f.sight;
              rows = rows-fit u k n u.draft f.rows fill (λ i m s. absurd (nothing i m (sym (ap (stored_at i) clean) ∙ s)));
              follows = f.follows;
              turn = f.turn;
              locks = f.locks;
              number = f.number;
              bare = f.bare;
            })
            record {
              sight = mine.sight;
              rows = rows-fit v k n ((k, n) ∷ v.draft) mine.rows fill (store_drafted k n (omega arith) mine.rows.drafted);
              follows = mine.follows;
              turn = record { turn_is = mine.turn.turn_is; fresh_is = mine.turn.fresh_is; begun = inr fresh };
              locks = mine.locks;
              number = mine.number;
              bare = λ z. absurd (omega arith);
            };
      }
    where
      nothing : (i m : ℕ) → None ≡ Some m → ⊥
      nothing i m e = off (ap is_some e)

      stored_more : (i k n : ℕ) (d : List (ℕ × ℕ)) → IsSome (stored_at i d) → IsSome (stored_at i ((k, n) ∷ d))
      stored_more i k n d e = elim (eqb i k) as (λ c. IsSome (cond c (Some n) (stored_at i d))) [ true ↦ refl | false ↦ e ]

pub stores : (a : Origin) (slots id : ℕ) (me : M) (k n : ℕ) → me.0.fresh ≡ true → MayStore me.0 k n → k < 8 * me.0.dataset.capacity → me.0.gone ≡ false → Allows (Holds a) slots id me (k + 67) (λ _. n) (λ _. Stores (step slots (k + 67) n 0 none) me n)
stores a slots id me k n fresh may inside here = by_boards a slots id me (k + 67) (λ _. n) (λ _. Stores (step slots (k + 67) n 0 none) me n) (λ b views h at _. (
  with_store me.0 k n,
  record b { rows = slice_set b.rows k n },
  row_set b k n h.lock_count,
  store a b views id me.0 h at fresh k n may inside here,
  ((λ j is. let same : k ≡ j = omega arith in ap (λ (i : ℕ). with_store me.0 i n) same), refl),
))
