-- The sample's words stand for its logs, and its draft may be published.
use Rattle.std.proofs.Common.{◌≡◌, ℕ, ◌+◌, ◌*◌, ◌<◌, ◌≤◌, ltb, leb, true, List, ◌∷◌, ◌++◌, map, length, refl, sym, ◌∙◌, ap, subst, arith}
use Rattle.std.proofs.lemmas.Bool.{leb-true, ltb-true}
use Rattle.std.specs.Prelude.{slice_index}
use Rattle.std.specs.List.{AllByRecursion, concat}
use Rattle.op_model.specs.declared.base.Dataset.{Dataset}
use Rattle.op_model.specs.declared.base.Base.{Base}
use Rattle.op_model.specs.declared.entry.Entry.{Entry}
use Rattle.op_model.specs.Valid.{IsDataset, IsBase}
use Rattle.op_model.specs.Samples.{p, q, r, s, join, base}
use Rattle.op_model.proofs.Opened.{definitions}
use Rattle.record_rows.specs.Growth.{stored}
use Rattle.record_rows.specs.Readings.{Image}
use Rattle.record_rows.proofs.Opened.{row_definitions}
use Rattle.row_words.specs.Drafts.{DraftRows, applied, store_of}
use Rattle.row_words.specs.declared.draft.DraftLink.{DraftLink}
use Rattle.shared_rows.specs.declared.view.View.{View}
use Rattle.shared_rows.specs.Drafting.{Adds, WordsDiffer}
use Rattle.shared_rows.specs.Locks.{Covers}
use Rattle.op_model.specs.Locks.{lock_of}
use Rattle.shared_rows.specs.Starts.{Opens}
use Rattle.thread_tests.specs.Samples.{IsMerge, data_small, first_log, first_words, merge, merge_rows, merge_links, told}
use Rattle.thread_tests.specs.Turns.{IsReady}

at_most : (m n : ℕ) → leb m n ≡ true → m ≤ n
at_most m n e = leb-true m n e

below : (m n : ℕ) → ltb m n ≡ true → m < n
below m n e = ltb-true m n e

sample_dataset : IsDataset data_small
sample_dataset = record {
  layout = (omega arith, omega arith, omega arith, omega arith);
  x = (omega arith, omega arith, omega arith);
  y = (omega arith, omega arith, omega arith);
  z = (omega arith, omega arith, omega arith);
  merge_affinity = (omega arith, omega arith);
  capacity = (omega arith, omega arith);
}

sample_base : IsBase data_small base
unfolding definitions
sample_base = record {
  ascending = (below p q refl, (below q r refl, (below r s refl, tt)));
  supervoxels = ((refl, below _ _ refl, below _ _ refl, below _ _ refl, at_most _ _ refl), ((refl, below _ _ refl, below _ _ refl, below _ _ refl, at_most _ _ refl), ((refl, below _ _ refl, below _ _ refl, below _ _ refl, at_most _ _ refl), ((refl, below _ _ refl, below _ _ refl, below _ _ refl, at_most _ _ refl), tt))));
  edges = ((below _ _ refl, refl, refl, (at_most _ _ refl, below _ _ refl)), ((below _ _ refl, refl, refl, (at_most _ _ refl, below _ _ refl)), ((below _ _ refl, refl, refl, (at_most _ _ refl, below _ _ refl)), tt)));
  once = (refl, (refl, (refl, tt)));
}

first_image : Image data_small base first_log first_words
unfolding definitions row_definitions
first_image = record {
  dataset = sample_dataset;
  base = sample_base;
  legal = (refl, below _ _ refl, ((below _ _ refl, (below _ _ refl, (below _ _ refl, (below _ _ refl, tt)))), ((below _ _ refl, (below _ _ refl, (below _ _ refl, (below _ _ refl, tt)))), tt)));
  numbers = ((below _ _ refl, below _ _ refl), tt);
  fits = at_most _ _ refl;
  stands = refl;
}

pub told_opens : Opens told
told_opens = record { stands = first_image; first = refl; tail_is = refl }

-- the words of the first log are no others
pub first_only : (d : Dataset) (b : Base) (log : List Entry) (words : List ℕ) → d ≡ data_small → b ≡ base → log ≡ first_log → Image d b log words → words ≡ first_words
first_only d b log words e f g i =
    let h : Image data_small base first_log words = subst (λ x. Image x base first_log words) e (subst (λ x. Image d x first_log words) f (subst (λ x. Image d b x words) g i)) in
    h.stands ∙ sym first_image.stands

second_words : List ℕ
second_words = stored (map store_of merge_links) first_words ++ concat merge_rows

second_image : Image data_small base (merge ∷ first_log) second_words
unfolding definitions row_definitions second_words stored
second_image = record {
  dataset = sample_dataset;
  base = sample_base;
  legal = ((join r s, refl, refl, below _ _ refl, below _ _ refl), first_image.legal);
  numbers = ((below _ _ refl, below _ _ refl), first_image.numbers);
  fits = at_most _ _ refl;
  stands = refl;
}

module _ (v : View) (ready : IsReady v) (d : DraftRows) (is : IsMerge d) where
  literal_fills : AllByRecursion (λ (l : DraftLink). (slice_index first_words (8 * l.from + l.k) ≡ 0) × (24 ≤ l.to)) merge_links
  literal_fills = ((refl, at_most _ _ refl), ((refl, at_most _ _ refl), ((refl, at_most _ _ refl), ((refl, at_most _ _ refl), ((refl, at_most _ _ refl), ((refl, at_most _ _ refl), ((refl, at_most _ _ refl), ((refl, at_most _ _ refl), ((refl, at_most _ _ refl), ((refl, at_most _ _ refl), tt))))))))))

  literal_differ : WordsDiffer (map store_of merge_links)
  unfolding Rattle.record_rows.specs.Growth.names_word
  literal_differ = (refl, (refl, (refl, (refl, (refl, (refl, (refl, (refl, (refl, (refl, tt))))))))))

  fills : AllByRecursion (λ (l : DraftLink). (slice_index v.image (8 * l.from + l.k) ≡ 0) × (v.tail ≤ l.to)) d.links
  fills =
      subst (λ ls. AllByRecursion (λ (l : DraftLink). (slice_index v.image (8 * l.from + l.k) ≡ 0) × (v.tail ≤ l.to)) ls) (sym is.links_are)
      (subst (λ ws. AllByRecursion (λ (l : DraftLink). (slice_index ws (8 * l.from + l.k) ≡ 0) × (v.tail ≤ l.to)) merge_links) (sym ready.image_is)
      (subst (λ t. AllByRecursion (λ (l : DraftLink). (slice_index first_words (8 * l.from + l.k) ≡ 0) × (t ≤ l.to)) merge_links) (sym ready.tail_is) literal_fills))

  applied_is : applied d v.image ≡ second_words
  unfolding second_words
  applied_is =
      ap (λ ls. stored (map store_of ls) v.image ++ concat d.rows) is.links_are
      ∙ ap (λ rows. stored (map store_of merge_links) v.image ++ concat rows) is.rows_are
      ∙ ap (λ ws. stored (map store_of merge_links) ws ++ concat merge_rows) ready.image_is

  stands : Image v.dataset v.base (merge ∷ v.log) (applied d v.image)
  stands =
      subst (λ x. Image x v.base (merge ∷ v.log) (applied d v.image)) (sym ready.dataset_is)
      (subst (λ x. Image data_small x (merge ∷ v.log) (applied d v.image)) (sym ready.base_is)
      (subst (λ x. Image data_small base (merge ∷ x) (applied d v.image)) (sym ready.log_is)
      (subst (λ x. Image data_small base (merge ∷ first_log) x) (sym applied_is) second_image)))

  pinned : Covers v.dataset.layout v.pinned merge
  unfolding definitions lock_of
  pinned =
      subst (λ (x : Dataset). Covers x.layout v.pinned merge) (sym ready.dataset_is) (subst (λ ls. Covers data_small.layout ls merge) (sym ready.pinned_is) (refl, (refl, tt)))

  client : merge.client ≡ v.number
  unfolding definitions
  client = sym ready.number_is

  pub merge_adds : Adds v d merge
  merge_adds = record {
    tail = is.tail_is ∙ sym ready.tail_is;
    some = (let e : length d.rows ≡ 10 = ap (λ (xs : List (List ℕ)). length xs) is.rows_are in omega arith);
    room = (let e : length d.rows ≡ 10 = ap (λ (xs : List (List ℕ)). length xs) is.rows_are in let t = ready.tail_is in let c : v.dataset.capacity ≡ 34 = ap (λ (x : Dataset). x.capacity) ready.dataset_is in omega arith);
    fills = fills;
    differ = subst (λ ls. WordsDiffer (map store_of ls)) (sym is.links_are) literal_differ;
    stands = stands;
    client = client;
    pinned = pinned;
  }

-- the room of the first words
pub room_of : (words : List ℕ) (spare : ℕ) → words ≡ first_words → 80 ≤ spare → 8 * 34 ≤ length words + spare
room_of words spare e h = let l : length words ≡ 192 = ap (λ (ws : List ℕ). length ws) e in omega arith

pub tail_fits : (words : List ℕ) (d : DraftRows) → words ≡ first_words → IsMerge d → length words ≡ 8 * d.tail
tail_fits words d e m = let l : length words ≡ 192 = ap (λ (ws : List ℕ). length ws) e in let t = m.tail_is in omega arith

pub rows_fit : (spare : ℕ) (d : DraftRows) → 80 ≤ spare → IsMerge d → 8 * length d.rows ≤ spare
rows_fit spare d h m = let l : length d.rows ≡ 10 = ap (λ (rs : List (List ℕ)). length rs) m.rows_are in omega arith
