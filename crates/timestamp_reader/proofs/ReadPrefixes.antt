-- Which entries a read of a time is asked of, and why a time is refused.
use Rattle.std.proofs.Common.{◌≡◌, ℕ, ◌+◌, ◌-◌, ◌<◌, ◌≤◌, Bool, true, false, cond, ltb, leb, List, [], ◌∷◌, ◌++◌, length, drop, Option, Some, None, Result, Ok, Err, refl, sym, ◌∙◌, ap, ap₂, subst, arith, length-append}
use Rattle.std.specs.Option.{option_map_or}
use Rattle.std.proofs.lemmas.Bool.{leb-true, leb-false, le-leb, ltb-false}
use Rattle.std.proofs.Math.Seq.{drop-append_seam}
use Rattle.op_model.specs.declared.base.Dataset.{Dataset}
use Rattle.op_model.specs.declared.base.Base.{Base}
use Rattle.op_model.specs.declared.entry.Entry.{Entry}
use Rattle.op_model.specs.declared.reply.Refusal.{Refusal}
use Rattle.op_model.specs.declared.reply.Refusal.TheVariants as refusal
use Rattle.op_model.specs.Refusals.{first_of, refuse_if, refuse_time, prefix_at, prefix_for, first_at, last_at}
use Rattle.op_model.specs.Legal.{Legal}
use Rattle.op_model.specs.Transcript.{log_at}
use Rattle.log_rows.specs.declared.times.TimeRefusal.TheVariants as time
use Rattle.log_rows.specs.Times.{prefix_of_time}
use Rattle.timestamp_reader.specs.Replies.{prefix_of_read}

-- a read of this time isn't refused for it, and is asked of so many entries
pub record IsPrefix (d : Dataset) (b : Base) (log : List Entry) (at : Option ℕ) (prefix : ℕ) : Type 0 where
  pub timely : first_of (refuse_time log at) ≡ None
  pub low : 1 ≤ prefix
  pub high : prefix ≤ length log
  pub entries : log_at d b log prefix ≡ prefix_for log at

-- how many entries there are at a time is how many a read of it is asked of
pub read_early : (log : List Entry) (t first : ℕ) → prefix_of_time log t ≡ Err (time.TooEarly first) → Err (refusal.TooEarly first) ≡ prefix_of_read log (Some t)
unfolding prefix_of_time prefix_of_read refuse_time refuse_if first_of
read_early log t first h = go (ltb t (first_at log)) (ltb (last_at log) t) (first_at log) (last_at log) (length (prefix_for log (Some t))) (length (prefix_at log t)) h
  where
    go : (x y : Bool) (f l n m : ℕ) → cond x (Err (time.TooEarly f)) (cond y (Err (time.Unpublished l)) (Ok m)) ≡ Err (time.TooEarly first)
        → Err (refusal.TooEarly first) ≡ option_map_or {T = Refusal} {U = Result ℕ Refusal} (λ r. Err r) (first_of (cond x (Some (refusal.TooEarly f)) None ∷ cond y (Some (refusal.Unpublished l)) None ∷ [])) (Ok n)
    go true y f l n m e = let q : f ≡ first = cc in ap (λ k. Err (refusal.TooEarly k)) (sym q)
    go false true f l n m e = cc
    go false false f l n m e = cc

pub read_late : (log : List Entry) (t latest : ℕ) → prefix_of_time log t ≡ Err (time.Unpublished latest) → Err (refusal.Unpublished latest) ≡ prefix_of_read log (Some t)
unfolding prefix_of_time prefix_of_read refuse_time refuse_if first_of
read_late log t latest h = go (ltb t (first_at log)) (ltb (last_at log) t) (first_at log) (last_at log) (length (prefix_for log (Some t))) (length (prefix_at log t)) h
  where
    go : (x y : Bool) (f l n m : ℕ) → cond x (Err (time.TooEarly f)) (cond y (Err (time.Unpublished l)) (Ok m)) ≡ Err (time.Unpublished latest)
        → Err (refusal.Unpublished latest) ≡ option_map_or {T = Refusal} {U = Result ℕ Refusal} (λ r. Err r) (first_of (cond x (Some (refusal.TooEarly f)) None ∷ cond y (Some (refusal.Unpublished l)) None ∷ [])) (Ok n)
    go true y f l n m e = cc
    go false true f l n m e = let q : l ≡ latest = cc in ap (λ k. Err (refusal.Unpublished k)) (sym q)
    go false false f l n m e = cc

pub read_counted : (log : List Entry) (t n : ℕ) → prefix_of_time log t ≡ Ok n → Ok n ≡ prefix_of_read log (Some t)
unfolding prefix_of_time prefix_of_read refuse_time refuse_if first_of prefix_for
read_counted log t n h = go (ltb t (first_at log)) (ltb (last_at log) t) (first_at log) (last_at log) (length (prefix_at log t)) h
  where
    go : (x y : Bool) (f l m : ℕ) → cond x (Err (time.TooEarly f)) (cond y (Err (time.Unpublished l)) (Ok m)) ≡ Ok n
        → Ok n ≡ option_map_or {T = Refusal} {U = Result ℕ Refusal} (λ r. Err r) (first_of (cond x (Some (refusal.TooEarly f)) None ∷ cond y (Some (refusal.Unpublished l)) None ∷ [])) (Ok m)
    go true y f l m e = cc
    go false true f l m e = cc
    go false false f l m e = let q : m ≡ n = cc in ap (λ k. Ok k) (sym q)

-- without a time it is asked of all
pub read_all : (log : List Entry) → Ok (length log) ≡ prefix_of_read log None
unfolding prefix_of_read refuse_time first_of prefix_for
read_all log = refl

-- the refusal of a time
pub time_refused : (log : List Entry) (at : Option ℕ) (r : Refusal) → prefix_of_read log at ≡ Err r → first_of (refuse_time log at) ≡ Some r
unfolding prefix_of_read
time_refused log at r h = go (first_of (refuse_time log at)) h
  where
    go : (o : Option Refusal) → option_map_or {T = Refusal} {U = Result ℕ Refusal} (λ q. Err q) o (Ok (length (prefix_for log at))) ≡ Err r → o ≡ Some r
    go None e = cc
    go (Some q) e = let s : q ≡ r = cc in ap (λ x. Some x) s

time_kept : (log : List Entry) (at : Option ℕ) (n : ℕ) → prefix_of_read log at ≡ Ok n → (first_of (refuse_time log at) ≡ None) × (length (prefix_for log at) ≡ n)
unfolding prefix_of_read
time_kept log at n h = go (first_of (refuse_time log at)) h
  where
    go : (o : Option Refusal) → option_map_or {T = Refusal} {U = Result ℕ Refusal} (λ q. Err q) o (Ok (length (prefix_for log at))) ≡ Ok n → (o ≡ None) × (length (prefix_for log at) ≡ n)
    go None e = (refl, cc)
    go (Some q) e = cc

module _ (d : Dataset) (b : Base) where
  -- timestamps rise, so the entries up to a time are the last ones of the list, and all where the newest is among them
  tail_to : (t : ℕ) (log : List Entry) → Legal d b log → ((newer : List Entry) × (log ≡ newer ++ prefix_at log t)) × (last_at log ≤ t → prefix_at log t ≡ log)
  unfolding prefix_at last_at
  tail_to t [] legal = absurd legal
  tail_to t (e ∷ []) legal = go (leb e.at t) refl
    where
      go : (s : Bool) → leb e.at t ≡ s → ((newer : List Entry) × (e ∷ [] ≡ newer ++ cond s (e ∷ []) [])) × (e.at ≤ t → cond s (e ∷ []) [] ≡ e ∷ [])
      go true q = (([], refl), λ l. refl)
      go false q = ((e ∷ [], refl), λ l. absurd (let m : t < e.at = leb-false e.at t q in omega arith))
  tail_to t (e ∷ f ∷ log) legal = go (leb e.at t) refl (tail_to t (f ∷ log) legal.1)
    where
      rest : List Entry
      rest = prefix_at (f ∷ log) t

      later : f.at < e.at
      later = legal.0.3

      go : (s : Bool) → leb e.at t ≡ s → ((newer : List Entry) × (f ∷ log ≡ newer ++ rest)) × (f.at ≤ t → rest ≡ f ∷ log)
          → ((newer : List Entry) × (e ∷ f ∷ log ≡ newer ++ cond s (e ∷ rest) rest)) × (e.at ≤ t → cond s (e ∷ rest) rest ≡ e ∷ f ∷ log)
      go true q ih =
          let l : e.at ≤ t = leb-true e.at t q in
          let m = later in
          let w : rest ≡ f ∷ log = ih.1 (omega arith) in
          (([], ap (λ xs. e ∷ xs) (sym w)), λ h. ap (λ xs. e ∷ xs) w)
      go false q ih = ((e ∷ ih.0.0, ap (λ xs. e ∷ xs) ih.0.1), λ l. absurd (let m : t < e.at = leb-false e.at t q in omega arith))

  -- and one is among them, where the time isn't before the first
  some_to : (t : ℕ) (e : Entry) (log : List Entry) → first_at (e ∷ log) ≤ t → 1 ≤ length (prefix_at (e ∷ log) t)
  unfolding prefix_at first_at
  some_to t e [] h = let q : leb e.at t ≡ true = le-leb e.at t h in rw q (omega arith)
  some_to t e (f ∷ log) h = go (leb e.at t) (some_to t f log h)
    where
      go : (s : Bool) → 1 ≤ length (prefix_at (f ∷ log) t) → 1 ≤ length (cond s (e ∷ prefix_at (f ∷ log) t) (prefix_at (f ∷ log) t))
      go true l = omega arith
      go false l = l

  -- a log ends with the entries of each of its prefixes
  log_of : (log newer older : List Entry) → log ≡ newer ++ older → (length older ≤ length log) × (log_at d b log (length older) ≡ older)
  unfolding log_at
  log_of log newer older w =
      let l : length log ≡ length newer + length older = ap length w ∙ length-append newer older in
      let n : length log - length older ≡ length newer = omega arith in
      (omega arith, ap₂ (λ (k : ℕ) (xs : List Entry). drop k xs) n w ∙ drop-append_seam newer older)

  early_none : (log : List Entry) (t : ℕ) → first_of (refuse_time log (Some t)) ≡ None → first_at log ≤ t
  unfolding refuse_time refuse_if first_of
  early_none log t h = go (ltb t (first_at log)) refl h
    where
      go : (x : Bool) → ltb t (first_at log) ≡ x → first_of (cond x (Some (refusal.TooEarly (first_at log))) None ∷ cond (ltb (last_at log) t) (Some (refusal.Unpublished (last_at log))) None ∷ []) ≡ None → first_at log ≤ t
      go true q e = cc
      go false q e = ltb-false t (first_at log) q

  -- a read of a time that isn't refused is asked of one entry at least, and of the last of the list
  pub is_prefix : (log : List Entry) (at : Option ℕ) (n : ℕ) → Legal d b log → prefix_of_read log at ≡ Ok n → IsPrefix d b log at n
  unfolding prefix_for
  is_prefix [] at n legal h = absurd legal
  is_prefix (e ∷ log) None n legal h =
      let k = time_kept (e ∷ log) None n h in
      let m : length (e ∷ log) ≡ n = k.1 in
      let w = log_of (e ∷ log) [] (e ∷ log) refl in
      record { timely = k.0; low = omega arith; high = omega arith; entries = ap (log_at d b (e ∷ log)) (sym m) ∙ w.1 }
  is_prefix (e ∷ log) (Some t) n legal h =
      let k = time_kept (e ∷ log) (Some t) n h in
      let m : length (prefix_at (e ∷ log) t) ≡ n = k.1 in
      let f = (tail_to t (e ∷ log) legal).0 in
      let w = log_of (e ∷ log) f.0 (prefix_at (e ∷ log) t) f.1 in
      let some = some_to t e log (early_none (e ∷ log) t k.0) in
      let high = w.0 in
      record { timely = k.0; low = subst (λ x. 1 ≤ x) m some; high = subst (λ x. x ≤ length (e ∷ log)) m high; entries = ap (log_at d b (e ∷ log)) (sym m) ∙ w.1 }
