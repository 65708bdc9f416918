-- How many records an entry needs, and how many there are.
use Rattle.std.proofs.Common.{◌≡◌, ℕ, ◌+◌, ◌*◌, ◌-◌, ◌/◌, ◌<◌, ◌≤◌, Bool, true, false, cond, not, List, [], ◌∷◌, ◌++◌, length, take, get_or, Some, refl, sym, ◌∙◌, ap, ap₂, arith, eq-eqb, length-append}
use Rattle.std.specs.List.{filter, list_any}
use Rattle.std.proofs.lemmas.List.{take_more}
use Rattle.std.proofs.lemmas.List.Elements.{filter-append}
use Rattle.op_model.specs.declared.base.Dataset.{Dataset}
use Rattle.op_model.specs.declared.base.Base.{Base}
use Rattle.op_model.specs.declared.entry.Changed.{Changed}
use Rattle.op_model.specs.declared.entry.Entry.{Entry}
use Rattle.op_model.specs.Edges.{same_pair}
use Rattle.op_model.specs.Labels.{edges}
use Rattle.op_model.specs.Legal.{Legal}
use Rattle.op_model.specs.Operations.{entry_at}
use Rattle.op_model.specs.Records.{records, spare, unknown_count}
use Rattle.op_model.specs.Refusals.{last_at}
use Rattle.record_rows.specs.LogRows.{rows_of}
use Rattle.record_rows.specs.Readings.{Image}
use Rattle.record_rows.proofs.BaseCounts.{counted}
use Rattle.record_rows.proofs.EntryRecords.{number_told}
use Rattle.record_rows.proofs.TellLemmas.{length-words_of}
use Rattle.log_rows.specs.Heads.{head_of}
use Rattle.log_rows.specs.declared.records.Head.{Head}

module _ (d : Dataset) (b : Base) (log : List Entry) where
  pub count_one : (c : Changed) (t : Bool) → list_any (λ f. same_pair f.pair c.pair) (edges d b log) ≡ t → unknown_count d b log (c ∷ []) ≡ cond t 0 1
  unfolding unknown_count
  count_one c t e = go (list_any (λ f. same_pair f.pair c.pair) (edges d b log)) t e
    where
      go : (u v : Bool) → u ≡ v → length (cond (not u) (c ∷ []) []) ≡ cond v 0 1
      go true true q = refl
      go false false q = refl
      go true false q = cc
      go false true q = cc

  pub count_next : (cs : List Changed) (k : ℕ) (c : Changed) (n m : ℕ) → k < length cs → c ≡ get_or cs k c → n ≡ unknown_count d b log (take k cs) → m ≡ unknown_count d b log (c ∷ []) → n + m ≡ unknown_count d b log (take (k + 1) cs)
  unfolding unknown_count
  count_next cs k c n m l q h p =
      let test : Changed → Bool = λ x. not (list_any (λ f. same_pair f.pair x.pair) (edges d b log)) in
      let s : length (filter test (take k cs) ++ filter test (c ∷ [])) ≡ length (filter test (take k cs)) + length (filter test (c ∷ [])) = length-append (filter test (take k cs)) (filter test (c ∷ [])) in
      let t : filter test (take k cs ++ c ∷ []) ≡ filter test (take k cs) ++ filter test (c ∷ []) = filter-append test (take k cs) (c ∷ []) in
      let w : take k cs ++ c ∷ [] ≡ take (k + 1) cs = ap (λ y. take k cs ++ y ∷ []) q ∙ sym (take_more cs k c l) in
      ap₂ (λ (x y : ℕ). x + y) h p ∙ (sym s ∙ (ap length (sym t) ∙ ap (λ xs. length (filter test xs)) w))

  pub count_none : (cs : List Changed) → unknown_count d b log (take 0 cs) ≡ 0
  unfolding unknown_count
  count_none [] = refl
  count_none (c ∷ cs) = refl

  pub words_count : (words : List ℕ) → Image d b log words → length words ≡ 8 * records d b log
  words_count words image = ap length image.stands ∙ length-words_of (rows_of d b log) ∙ ap (λ k. 8 * k) (counted d b log image.dataset image.base image.legal)

  pub spare_is : (words : List ℕ) → Image d b log words → (n : ℕ) → n ≡ length words → (n / 8 ≤ d.capacity) × (d.capacity - n / 8 ≡ spare d b log)
  unfolding spare
  spare_is words image n q = let w = words_count words image in let f : records d b log ≤ d.capacity = image.fits in (omega (arith, w, q, f), omega (arith, w, q))

  pub newest_there : (n : ℕ) → Legal d b log → n + 1 ≡ length log → (e : Entry) × (entry_at log n ≡ Some e) × (last_at log ≡ e.at)
  unfolding entry_at last_at
  newest_there n legal q = go log legal q
    where
      go : (now : List Entry) → Legal d b now → n + 1 ≡ length now → (e : Entry) × (entry_at now n ≡ Some e) × (last_at now ≡ e.at)
      go [] a l = absurd a
      go (e ∷ rest) a l = let m : e.number ≡ length rest = number_told d b e rest a in let k : e.number ≡ n = omega (arith, m, l) in (e, rw (eq-eqb e.number n k) refl, refl)

  pub some_entry : Legal d b log → 0 < length log
  some_entry legal = go log legal
    where
      go : (now : List Entry) → Legal d b now → 0 < length now
      go [] a = absurd a
      go (e ∷ rest) a = omega arith

pub head_time : (e : Entry) (h : Head) → h ≡ head_of e → h.at ≡ e.at
unfolding head_of
head_time e h q = ap (λ (x : Head). x.at) q
