-- The timestamps of a legal log rise, so that the entries up to a time are those from some entry back.
use Rattle.std.proofs.Common.{◌≡◌, ℕ, ◌+◌, ◌<◌, ◌≤◌, Bool, true, false, cond, ltb, leb, eqb, List, [], ◌∷◌, length, Some, None, Result, Ok, Err, refl, sym, ◌∙◌, ap, subst, arith}
use Rattle.std.specs.List.{AllByRecursion, find}
use Rattle.std.proofs.lemmas.Bool.{lt-ltb, le-leb, le-ltb, lt-leb, leb-true, eqb-true, ne_eqb}
use Rattle.op_model.specs.declared.base.Dataset.{Dataset}
use Rattle.op_model.specs.declared.base.Base.{Base}
use Rattle.op_model.specs.declared.entry.Entry.{Entry}
use Rattle.op_model.specs.Operations.{entry_at}
use Rattle.op_model.specs.Refusals.{prefix_at, first_at, last_at}
use Rattle.op_model.specs.Legal.{Legal}
use Rattle.record_rows.proofs.DifferLemmas.{all_more}
use Rattle.record_rows.proofs.EntryRecords.{number_told}
use Rattle.log_rows.specs.declared.times.TimeRefusal.{TimeRefusal}
use Rattle.log_rows.specs.declared.times.TimeRefusal.TheVariants.{TooEarly, Unpublished}
use Rattle.log_rows.specs.Times.{count_to, prefix_of_time}

all_pass : (t : ℕ) (log : List Entry) → AllByRecursion (λ e. e.at ≤ t) log → prefix_at log t ≡ log
unfolding prefix_at
all_pass t [] a = refl
all_pass t (e ∷ log) a = let p : leb e.at t ≡ true = le-leb e.at t a.0 in rw p (ap (λ l. e ∷ l) (all_pass t log a.1))

module _ (d : Dataset) (b : Base) where
  rises : (e : Entry) (log : List Entry) → Legal d b (e ∷ log) → AllByRecursion (λ f. f.at ≤ e.at) (e ∷ log)
  unfolding last_at
  rises e [] legal = (omega arith, tt)
  rises e (f ∷ log) legal =
      let later : f.at < e.at = legal.0.3 in
      (omega arith, all_more (λ g. g.at ≤ f.at) (λ g. g.at ≤ e.at) (f ∷ log) (λ g q. omega arith) (rises f log legal.1))

  pub first_low : (log : List Entry) → Legal d b log → first_at log ≤ last_at log
  unfolding first_at last_at
  first_low [] legal = absurd legal
  first_low (e ∷ []) legal = omega arith
  first_low (e ∷ f ∷ log) legal = let later : f.at < e.at = legal.0.3 in let l : first_at (f ∷ log) ≤ f.at = first_low (f ∷ log) legal.1 in omega arith

  -- the entries up to the time of an entry or a later one are that entry and those before it
  found_here : (t : ℕ) (e : Entry) (log : List Entry) → Legal d b (e ∷ log) → leb e.at t ≡ true → (length (prefix_at (e ∷ log) t) ≡ e.number + 1) × (first_at (e ∷ log) ≤ t)
  unfolding last_at
  found_here t e log legal p =
      let low : e.at ≤ t = leb-true e.at t p in
      let whole = all_pass t (e ∷ log) (all_more (λ f. f.at ≤ e.at) (λ f. f.at ≤ t) (e ∷ log) (λ f q. omega arith) (rises e log legal)) in
      let n : e.number ≡ length log = number_told d b e log legal in
      let l : first_at (e ∷ log) ≤ e.at = first_low (e ∷ log) legal in
      (ap length whole ∙ omega arith, omega arith)

  pub latest_passed : (t : ℕ) (log : List Entry) → Legal d b log → last_at log < t → Err (Unpublished (last_at log)) ≡ prefix_of_time log t
  unfolding prefix_of_time
  latest_passed t log legal h =
      let l = first_low log legal in
      let m : ltb t (first_at log) ≡ false = le-ltb t (first_at log) (omega arith) in
      let n : ltb (last_at log) t ≡ true = lt-ltb (last_at log) t h in
      sym (rw (m, n) refl)

  pub latest_kept : (t : ℕ) (log : List Entry) → (last_at log < t → ⊥) → count_to log t ≡ prefix_of_time log t
  unfolding count_to prefix_of_time
  latest_kept t log h =
      let n : ltb (last_at log) t ≡ false = le-ltb (last_at log) t (omega (arith, h)) in
      rw n refl

  pub shorter : (t : ℕ) (log : List Entry) → length (prefix_at log t) ≤ length log
  unfolding prefix_at
  shorter t [] = omega arith
  shorter t (e ∷ log) = go (leb e.at t) (shorter t log)
    where
      go : (s : Bool) → length (prefix_at log t) ≤ length log → length (cond s (e ∷ prefix_at log t) (prefix_at log t)) ≤ length (e ∷ log)
      go true ih = omega (arith, ih)
      go false ih = omega (arith, ih)

  found_all : (P : Entry → Type 0) (log : List Entry) (n : ℕ) (e : Entry) → AllByRecursion P log → entry_at log n ≡ Some e → P e
  unfolding entry_at
  found_all P [] n e a h = cc
  found_all P (f ∷ log) n e a h = go (eqb f.number n) h (found_all P log n e a.1)
    where
      go : (s : Bool) → cond s (Some f) (find (λ y. eqb y.number n) log) ≡ Some e → (find (λ y. eqb y.number n) log ≡ Some e → P e) → P e
      go true q ih = let m : f ≡ e = cc in subst P m a.0
      go false q ih = ih q

  -- whether an entry is in time tells on which side of it the entries up to the time end
  abbrev pub Side : ℕ → ℕ → ℕ → ℕ → Type 0
  Side t n at count = (at ≤ t → n < count) × (t < at → count ≤ n)

  side_here : (t n : ℕ) (f : Entry) (log : List Entry) → Legal d b (f ∷ log) → f.number ≡ n → Side t n f.at (length (prefix_at (f ∷ log) t))
  unfolding prefix_at
  side_here t n f log legal e = (
    (λ l. let h = (found_here t f log legal (le-leb f.at t l)).0 in omega (arith, h, e)),
    (λ l. let p : leb f.at t ≡ false = lt-leb f.at t l in rw p (let s = shorter t log in let m = number_told d b f log legal in omega (arith, s, m, e))),
  )

  side_older : (t n : ℕ) (f e : Entry) (log : List Entry) → Legal d b (f ∷ log) → entry_at log n ≡ Some e → Side t n e.at (length (prefix_at log t)) → Side t n e.at (length (prefix_at (f ∷ log) t))
  unfolding prefix_at
  side_older t n f e log legal found ih = go (leb f.at t) refl
    where
      go : (s : Bool) → leb f.at t ≡ s → Side t n e.at (length (cond s (f ∷ prefix_at log t) (prefix_at log t)))
      go true q = (
        (λ l. let h = ih.0 l in omega (arith, h)),
        (λ l. absurd (let m : f.at ≤ t = leb-true f.at t q in let k : e.at ≤ f.at = found_all (λ g. g.at ≤ f.at) log n e (rises f log legal).1 found in omega arith)),
      )
      go false q = ih

  pub side : (t n : ℕ) (e : Entry) (log : List Entry) → Legal d b log → entry_at log n ≡ Some e → Side t n e.at (length (prefix_at log t))
  unfolding entry_at
  side t n e [] legal h = absurd legal
  side t n e (f ∷ []) legal h = go (eqb f.number n) refl h
    where
      go : (s : Bool) → eqb f.number n ≡ s → cond s (Some f) None ≡ Some e → Side t n e.at (length (prefix_at (f ∷ []) t))
      go true q k = let m : f ≡ e = cc in subst (λ x. Side t n x.at (length (prefix_at (f ∷ []) t))) m (side_here t n f [] legal (eqb-true f.number n q))
      go false q k = cc
  side t n e (f ∷ g ∷ log) legal h = go (eqb f.number n) refl h (side t n e (g ∷ log) legal.1)
    where
      go : (s : Bool) → eqb f.number n ≡ s → cond s (Some f) (find (λ y. eqb y.number n) (g ∷ log)) ≡ Some e
          → (find (λ y. eqb y.number n) (g ∷ log) ≡ Some e → Side t n e.at (length (prefix_at (g ∷ log) t))) → Side t n e.at (length (prefix_at (f ∷ g ∷ log) t))
      go true q k ih = let m : f ≡ e = cc in subst (λ x. Side t n x.at (length (prefix_at (f ∷ g ∷ log) t))) m (side_here t n f (g ∷ log) legal (eqb-true f.number n q))
      go false q k ih = side_older t n f e (g ∷ log) legal k (ih k)

  -- the first entry's timestamp
  pub first_time : (e : Entry) (log : List Entry) → Legal d b log → entry_at log 0 ≡ Some e → first_at log ≡ e.at
  unfolding entry_at first_at
  first_time e [] legal h = absurd legal
  first_time e (f ∷ []) legal h = go (eqb f.number 0) h
    where
      go : (s : Bool) → cond s (Some f) None ≡ Some e → f.at ≡ e.at
      go true k = let m : f ≡ e = cc in ap (λ x. x.at) m
      go false k = cc
  first_time e (f ∷ g ∷ log) legal h =
      let n : f.number ≡ length (g ∷ log) = number_told d b f (g ∷ log) legal in
      let q : eqb f.number 0 ≡ false = ne_eqb f.number 0 (λ s. absurd (let z : f.number ≡ 0 = s in omega arith)) in
      go (eqb f.number 0) q h (first_time e (g ∷ log) legal.1)
    where
      go : (s : Bool) → s ≡ false → cond s (Some f) (find (λ y. eqb y.number 0) (g ∷ log)) ≡ Some e → (find (λ y. eqb y.number 0) (g ∷ log) ≡ Some e → first_at (g ∷ log) ≡ e.at) → first_at (g ∷ log) ≡ e.at
      go true q k ih = cc
      go false q k ih = ih k

  -- the time is before the first entry
  pub count_early : (t : ℕ) (log : List Entry) (first : ℕ) → first_at log ≡ first → t < first → Err (TooEarly first) ≡ count_to log t
  unfolding count_to
  count_early t log first e l =
      let n : ltb t (first_at log) ≡ true = lt-ltb t (first_at log) (omega arith) in
      ap (λ x. Err (TooEarly x)) (sym e) ∙ sym (rw n refl)

  -- so many entries are up to the time
  pub count_met : (t : ℕ) (log : List Entry) (first k : ℕ) → first_at log ≡ first → first ≤ t → length (prefix_at log t) ≡ k → ◌≡◌ {A = Result ℕ TimeRefusal} (Ok k) (count_to log t)
  unfolding count_to
  count_met t log first k e l m =
      let n : ltb t (first_at log) ≡ false = le-ltb t (first_at log) (omega arith) in
      ap Ok (sym m) ∙ sym (rw n refl)
