-- Each event of a client that may go on leaves less to do.
use Rattle.std.proofs.Common.{◌≡◌, ℕ, zero, suc, ◌+◌, ◌*◌, ◌<◌, ◌≤◌, Bool, true, false, cond, not, eqb, ltb, List, [], ◌∷◌, length, get_or, refl, sym, ◌∙◌, ap, subst, inl, inr, ◌⊎◌, arith, Option, Some, None}
use Rattle.std.specs.Prelude.{slice_get, slice_set}
use Rattle.std.specs.List.{AllByRecursion, list_any}
use Rattle.std.proofs.lemmas.List.{length-set}
use Rattle.std.proofs.lemmas.Bool.{false≢true, le-ltb, lt-ltb, cond_both}
use Rattle.op_model.specs.declared.base.Dataset.{Dataset}
use Rattle.op_model.specs.declared.base.Base.{Base}
use Rattle.op_model.specs.declared.request.Edit.{Edit}
use Rattle.op_model.specs.declared.entry.Changed.{Changed}
use Rattle.op_model.specs.declared.entry.Entry.{Entry}
use Rattle.op_model.specs.declared.entry.Shown.{Shown}
use Rattle.op_model.specs.declared.request.Request.TheVariants as request
use Rattle.op_model.specs.declared.reply.Refusal.{Refusal}
use Rattle.op_model.specs.declared.reply.Reply.{Reply}
use Rattle.op_model.specs.declared.reply.Reply.TheVariants as reply
use Rattle.graph_model.specs.Lists.{has}
use Rattle.op_model.specs.Valid.{IsAscending}
use Rattle.op_model.specs.Operations.{touched}
use Rattle.op_model.specs.Refusals.{refuse_early, refuse_cut, refuse_late}
use Rattle.op_model.specs.Transcript.{Line, Asks, Faulty, log_at}
use Rattle.graph_model.proofs.ListLemmas.{contra, has_head, has_tail}
use Rattle.op_model.specs.Locks.{locks_of}
use Rattle.session_machine.specs.Machine.{After, Answer, Restart, Phase, Ready, Again, Locking, Pinning, Planning, Waiting, Checking, Committing, Yielding, Releasing, Replying, Ended, ClientState, Shared, State, Choice, holds_all, locking, give_back, looked, look, read_line, take_line, pinned_at, planned, plan, checked, check, event, step_client, step, is_able}
use Rattle.session_machine.specs.Invariant.{ClientLocks, onto, AtLook, PlanFor}
use Rattle.session_machine.specs.Play.{stale, cost, client_work, total, work}
use Rattle.session_machine.proofs.PrefixLemmas.{log_at_whole}
use Rattle.op_model.proofs.LockLemmas.{locks_listed}

all_rise : (f g : ClientState → ℕ) (rise : ℕ) → ((x : ClientState) → g x ≤ f x + rise) → (ys : List ClientState) → total g ys ≤ total f ys + rise * length ys
unfolding total
all_rise f g rise le [] = omega arith
all_rise f g rise le (y ∷ ys) = omega (arith, all_rise f g rise le ys, le y)

-- the sum, when one client is replaced and each of the others may rise by this much
total_set : (f g : ClientState → ℕ) (rise : ℕ) → ((x : ClientState) → g x ≤ f x + rise) → (clients : List ClientState) (k : ℕ) (s t : ClientState) → slice_get clients k ≡ Some s
    → total g (slice_set clients k t) + f s ≤ total f clients + rise * length clients + g t
unfolding total
total_set f g rise le [] k s t q = cc
total_set f g rise le (x ∷ xs) zero s t q =
    let e : x ≡ s = cc in
    let h : f x ≡ f s = ap f e in
    omega (arith, all_rise f g rise le xs)
total_set f g rise le (x ∷ xs) (suc k) s t q = omega (arith, total_set f g rise le xs k s t q, le x)

ascend_length : (n x : ℕ) (xs : List ℕ) → IsAscending (x ∷ xs) → AllByRecursion (λ y. y < n) (x ∷ xs) → length (x ∷ xs) + x ≤ n
ascend_length n x [] up all = omega (arith, all.0)
ascend_length n x (y ∷ ys) up all = omega (arith, ascend_length n y ys up.1 all.1, up.0)

locks_short : (d : Dataset) (rs : List ℕ) → length (locks_of d.layout rs) ≤ 64
locks_short d rs = go (locks_of d.layout rs) (locks_listed d.layout rs).0 (locks_listed d.layout rs).1
  where
    go : (xs : List ℕ) → IsAscending xs → AllByRecursion (λ y. y < 64) xs → length xs ≤ 64
    go [] up all = omega arith
    go (x ∷ xs) up all = omega (arith, ascend_length 64 x xs up all)

onto_all : (P : ℕ → Type 0) (ms ns : List ℕ) → ((x : ℕ) → has ms x ≡ true → P x) → AllByRecursion P ns → AllByRecursion P (onto ms ns)
onto_all P [] ns f a = a
onto_all P (m ∷ ms) ns f a = onto_all P ms (m ∷ ns) (λ x h. f x (has_tail m ms x h)) (f m (has_head m ms), a)

none_any : (t : ℕ → Bool) (xs : List ℕ) → AllByRecursion (λ x. t x ≡ false) xs → list_any t xs ≡ false
none_any t [] a = refl
none_any t (x ∷ xs) a = let e : t x ≡ false = a.0 in let h : list_any t xs ≡ false = none_any t xs a.1 in rw (e, h) refl

pub holds_own : (held : List ℕ) → holds_all held (onto held []) ≡ true
unfolding holds_all
holds_own held = ap not (none_any (λ n. not (has held n)) (onto held []) (onto_all (λ x. not (has held x) ≡ false) held [] (λ x h. ap not h) tt))

-- what a step of one client leaves for it to do, where the others' work may rise
abbrev rise : Phase → ℕ
rise (Committing edit shown e) = 140
rise p = 0

abbrev left : ℕ → ℕ → ClientState → Phase → ℕ
left z n s p = length s.lines * (140 + 140 * z) + cost (140 * z) n s p

abbrev Less : ℕ → Shared → ClientState → Phase → Shared × ClientState → Type 0
Less z sh s p m = left z (length m.0.log) m.1 m.1.phase + rise p * z < left z (length sh.log) s p

fresh : (n : ℕ) (s : ClientState) → s.seen ≡ n → stale n s ≡ 0
unfolding stale
fresh n s e = let h : ltb s.seen n ≡ false = le-ltb s.seen n (omega arith) in rw h refl

old : (n : ℕ) (s : ClientState) → s.seen < n → stale n s ≡ 140
unfolding stale
old n s l = let h : ltb s.seen n ≡ true = lt-ltb s.seen n l in rw h refl

lock_cost : (m n : ℕ) (s : ClientState) (edit : Edit) (ns : List ℕ) → cost m n s (locking edit ns) ≤ 10 + length s.held + 2 * length ns + m + stale n s
unfolding cost
lock_cost m n s edit [] = omega arith
lock_cost m n s edit (x ∷ xs) = omega arith

module _ (d : Dataset) (b : Base) where
  looked_cost : (m : ℕ) (sh : Shared) (s : ClientState) (edit : Edit) (r : Option Refusal) → s.held ≡ []
      → cost m (length sh.log) (looked d b sh s edit r) (looked d b sh s edit r).phase + length (looked d b sh s edit r).lines * (140 + m) ≤ 138 + m + length s.lines * (140 + m)
  unfolding cost
  looked_cost m sh s edit (Some r) h = omega arith
  looked_cost m sh s edit None h =
      let locks : List ℕ = locks_of d.layout (touched d b sh.log edit) in
      let t : ClientState = record s { seen = length sh.log; phase = locking edit locks } in
      no_memory m (length sh.log) t edit locks (length s.lines * (140 + m)) h (fresh (length sh.log) t refl) (locks_short d (touched d b sh.log edit))
    where
      no_memory : (m n : ℕ) (t : ClientState) (edit : Edit) (locks : List ℕ) (x : ℕ) → t.held ≡ [] → stale n t ≡ 0 → length locks ≤ 64 → cost m n t (locking edit locks) + x ≤ 138 + m + x
      no_memory m n t edit [] x h f l = let q : length t.held ≡ 0 = ap length h in omega (arith, q, f)
      no_memory m n t edit (y ∷ ys) x h f l = let q : length t.held ≡ 0 = ap length h in omega (arith, q, f, l)

  look_cost : (m : ℕ) (c : Choice) (sh : Shared) (s : ClientState) (edit : Edit) → s.held ≡ []
      → cost m (length sh.log) (look d b c sh s edit) (look d b c sh s edit).phase + length (look d b c sh s edit).lines * (140 + m) ≤ 138 + m + length s.lines * (140 + m)
  unfolding cost
  look_cost m c sh s edit h = go c.no_memory
    where
      P : ClientState → Type 0
      P t = cost m (length sh.log) t t.phase + length t.lines * (140 + m) ≤ 138 + m + length s.lines * (140 + m)

      go : (t : Bool) → P (cond t (record s { seen = length sh.log; phase = Replying reply.NoMemory }) (looked d b sh s edit (refuse_early d b sh.log edit)))
      go true = omega arith
      go false = looked_cost m sh s edit (refuse_early d b sh.log edit) h

  read_line_cost : (m : ℕ) (sh : Shared) (s : ClientState) (l : Line) → s.held ≡ []
      → cost m (length sh.log) (read_line d b sh s l) (read_line d b sh s l).phase + length (read_line d b sh s l).lines * (140 + m) ≤ 138 + m + length s.lines * (140 + m)
  unfolding cost
  read_line_cost m sh s (Faulty error) h = omega arith
  read_line_cost m sh s (Asks (request.Read r)) h = omega arith
  read_line_cost m sh s (Asks (request.Edit edit)) h = looked_cost m sh s edit (refuse_early d b sh.log edit) h

  take_less : (z : ℕ) (c : Choice) (sh : Shared) (s : ClientState) (ls : List Line) → ls ≡ s.lines → s.held ≡ [] → is_able sh s Ready ≡ true → Less z sh s Ready (sh, take_line d b c sh s ls)
  unfolding cost
  take_less z c sh s [] q h a = go s.faulty (subst (λ xs. cond (eqb (length xs) 0) s.faulty true ≡ true) (sym q) a)
    where
      go : (t : Bool) → t ≡ true → Less z sh s Ready (sh, cond t (record s { phase = Ended }) s)
      go true e = omega arith
      go false e = absurd (false≢true e)
  take_less z c sh s (l ∷ lines) q h a = go c.no_memory
    where
      t : ClientState
      t = record s { lines = lines; asked = l ∷ s.asked }

      e : suc (length lines) ≡ length s.lines
      e = ap length q

      go : (x : Bool) → Less z sh s Ready (sh, cond x (record t { seen = length sh.log; phase = Replying reply.NoMemory }) (read_line d b sh t l))
      go true = omega (arith, ap (λ n. n * (140 + 140 * z)) e)
      go false = omega (arith, ap (λ n. n * (140 + 140 * z)) e, read_line_cost (140 * z) sh t l h)

  lock_less : (z : ℕ) (c : Choice) (i : ℕ) (sh : Shared) (s : ClientState) (edit : Edit) (n : ℕ) (ns : List ℕ) → eqb (get_or sh.locks n 0) 0 ≡ true → Less z sh s (Locking edit n ns) (event d b c i sh s (Locking edit n ns))
  unfolding cost stale
  lock_less z c i sh s edit n ns a = go (eqb (get_or sh.locks n 0) 0) a
    where
      go : (t : Bool) → t ≡ true → Less z sh s (Locking edit n ns) (cond t (record sh { locks = slice_set sh.locks n i }, record s { held = n ∷ s.held; phase = locking edit ns }) (sh, s))
      go true e = omega (arith, lock_cost (140 * z) (length sh.log) (record s { held = n ∷ s.held; phase = locking edit ns }) edit ns)
      go false e = absurd (false≢true e)

  pin_less : (z : ℕ) (sh : Shared) (s : ClientState) (edit : Edit) (r : Option Refusal) (all : Bool) → (r ≡ None → all ≡ false → s.seen < length sh.log) → Less z sh s (Pinning edit) (sh, pinned_at d b sh s edit r all)
  unfolding cost
  pin_less z sh s edit (Some r) all f = omega arith
  pin_less z sh s edit None true f = omega arith
  pin_less z sh s edit None false f = omega (arith, old (length sh.log) s (f refl refl))

  plan_less : (z : ℕ) (c : Choice) (sh : Shared) (s : ClientState) (edit : Edit) → Less z sh s (Planning edit) (sh, plan d b c sh s edit)
  unfolding cost
  plan_less z c sh s edit = go c.no_memory (refuse_cut d b (log_at d b sh.log s.seen) edit)
    where
      go : (t : Bool) (r : Option Refusal) → Less z sh s (Planning edit) (sh, cond t (record s { phase = Releasing (Answer reply.NoMemory) }) (planned d b c sh s edit r))
      go true r = omega arith
      go false (Some r) = omega arith
      go false None = omega arith

  turn_less : (z : ℕ) (c : Choice) (i : ℕ) (sh : Shared) (s : ClientState) (edit : Edit) (changed : List Changed) (shown : Option Shown) → eqb sh.turn 0 ≡ true → Less z sh s (Waiting edit changed shown) (event d b c i sh s (Waiting edit changed shown))
  unfolding cost
  turn_less z c i sh s edit changed shown a = go (eqb sh.turn 0) a
    where
      go : (t : Bool) → t ≡ true → Less z sh s (Waiting edit changed shown) (cond t (record sh { turn = i }, record s { phase = Checking edit changed shown }) (sh, s))
      go true e = omega arith
      go false e = absurd (false≢true e)

  check_less : (z : ℕ) (c : Choice) (i : ℕ) (sh : Shared) (s : ClientState) (edit : Edit) (changed : List Changed) (shown : Option Shown) → Less z sh s (Checking edit changed shown) (sh, check d b c i sh s edit changed shown)
  unfolding cost
  check_less z c i sh s edit changed shown = go c.no_memory (refuse_late d b sh.log edit)
    where
      go : (t : Bool) (r : Option Refusal) → Less z sh s (Checking edit changed shown) (sh, cond t (record s { seen = length sh.log; phase = Yielding reply.NoMemory }) (checked d b c i sh s edit changed shown r))
      go true r = omega arith
      go false (Some r) = omega arith
      go false None = omega arith

  give_less : (z : ℕ) (sh : Shared) (s : ClientState) (a : After) (hs : List ℕ) → hs ≡ s.held → Less z sh s (Releasing a) (give_back sh s a hs)
  unfolding cost
  give_less z sh s (Answer r) [] q = omega arith
  give_less z sh s (Restart edit) [] q = omega arith
  give_less z sh s (Answer r) (n ∷ []) q = omega arith
  give_less z sh s (Restart edit) (n ∷ []) q = let e : 1 ≡ length s.held = ap length q in omega arith
  give_less z sh s (Answer r) (n ∷ m ∷ ms) q = let e : suc (suc (length ms)) ≡ length s.held = ap length q in omega arith
  give_less z sh s (Restart edit) (n ∷ m ∷ ms) q = let e : suc (suc (length ms)) ≡ length s.held = ap length q in omega arith

  reply_less : (z : ℕ) (c : Choice) (i : ℕ) (sh : Shared) (s : ClientState) (r : Reply) → Less z sh s (Replying r) (event d b c i sh s (Replying r))
  unfolding cost
  reply_less z c i sh s r = go c.write_fails
    where
      go : (t : Bool) → Less z sh s (Replying r) (sh, record s { replies = r ∷ s.replies; phase = cond t Ended Ready })
      go true = omega arith
      go false = omega arith

  -- a client begins its edit again only if the log grew since its look
  pub grew : (log : List Entry) (s : ClientState) (edit : Edit) → AtLook d b log s.seen edit (onto s.held []) → s.seen ≤ length log → holds_all s.held (locks_of d.layout (touched d b log edit)) ≡ false → s.seen < length log
  grew log s edit a l h = below (λ q. contra (holds_all s.held (locks_of d.layout (touched d b log edit))) (subst (λ x. holds_all s.held x ≡ true) (same q) (holds_own s.held)) h)
    where
      same : s.seen ≡ length log → onto s.held [] ≡ locks_of d.layout (touched d b log edit)
      same q = a.1 ∙ ap (λ x. locks_of d.layout (touched d b x edit)) (ap (log_at d b log) q ∙ log_at_whole d b log)

      below : (s.seen ≡ length log → ⊥) → s.seen < length log
      below k = grind arith

  own_less : (z : ℕ) (c : Choice) (i : ℕ) (sh : Shared) (s : ClientState) (p : Phase) → is_able sh s p ≡ true → ClientLocks sh i s p → PlanFor d b sh.log i s p → s.seen ≤ length sh.log → Less z sh s p (event d b c i sh s p)
  unfolding cost
  own_less z c i sh s Ready a l o seen = take_less z c sh s s.lines refl l.holds a
  own_less z c i sh s (Again edit) a l o seen = omega (arith, look_cost (140 * z) c sh s edit l.holds)
  own_less z c i sh s (Locking edit n ns) a l o seen = lock_less z c i sh s edit n ns a
  own_less z c i sh s (Pinning edit) a l o seen =
      pin_less z sh s edit (refuse_early d b sh.log edit) (holds_all s.held (locks_of d.layout (touched d b sh.log edit))) (λ e h. grew sh.log s edit o seen h)
  own_less z c i sh s (Planning edit) a l o seen = plan_less z c sh s edit
  own_less z c i sh s (Waiting edit changed shown) a l o seen = turn_less z c i sh s edit changed shown a
  own_less z c i sh s (Checking edit changed shown) a l o seen = check_less z c i sh s edit changed shown
  own_less z c i sh s (Committing edit shown e) a l o seen = omega arith
  own_less z c i sh s (Yielding r) a l o seen = omega arith
  own_less z c i sh s (Releasing x) a l o seen = give_less z sh s x s.held refl
  own_less z c i sh s (Replying r) a l o seen = reply_less z c i sh s r
  own_less z c i sh s Ended a l o seen = absurd (false≢true a)

-- the length of the log after an event
grown : (d : Dataset) (b : Base) (c : Choice) (i : ℕ) (sh : Shared) (s : ClientState) (p : Phase)
    → (length (event d b c i sh s p).0.log ≡ length sh.log) ⊎ ((length (event d b c i sh s p).0.log ≡ suc (length sh.log)) × (rise p ≡ 140))
grown d b c i sh s Ready = inl refl
grown d b c i sh s (Again edit) = inl refl
grown d b c i sh s (Locking edit n ns) = go (eqb (get_or sh.locks n 0) 0)
  where
    go : (t : Bool) → (length (cond {A = Shared × ClientState} t (record sh { locks = slice_set sh.locks n i }, record s { held = n ∷ s.held; phase = locking edit ns }) (sh, s)).0.log ≡ length sh.log)
        ⊎ ((length (cond {A = Shared × ClientState} t (record sh { locks = slice_set sh.locks n i }, record s { held = n ∷ s.held; phase = locking edit ns }) (sh, s)).0.log ≡ suc (length sh.log)) × (◌≡◌ {A = ℕ} 0 140))
    go true = inl refl
    go false = inl refl
grown d b c i sh s (Pinning edit) = inl refl
grown d b c i sh s (Planning edit) = inl refl
grown d b c i sh s (Waiting edit changed shown) = go (eqb sh.turn 0)
  where
    go : (t : Bool) → (length (cond {A = Shared × ClientState} t (record sh { turn = i }, record s { phase = Checking edit changed shown }) (sh, s)).0.log ≡ length sh.log)
        ⊎ ((length (cond {A = Shared × ClientState} t (record sh { turn = i }, record s { phase = Checking edit changed shown }) (sh, s)).0.log ≡ suc (length sh.log)) × (◌≡◌ {A = ℕ} 0 140))
    go true = inl refl
    go false = inl refl
grown d b c i sh s (Checking edit changed shown) = inl refl
grown d b c i sh s (Committing edit shown e) = inr (refl, refl)
grown d b c i sh s (Yielding r) = inl refl
grown d b c i sh s (Releasing a) = go s.held
  where
    go : (hs : List ℕ) → (length (give_back sh s a hs).0.log ≡ length sh.log) ⊎ ((length (give_back sh s a hs).0.log ≡ suc (length sh.log)) × (◌≡◌ {A = ℕ} 0 140))
    go [] = inl refl
    go (n ∷ ns) = inl refl
grown d b c i sh s (Replying r) = inl refl
grown d b c i sh s Ended = inl refl

stale_most : (n : ℕ) (s : ClientState) → stale n s ≤ 140
unfolding stale
stale_most n s = cond_both (ltb s.seen n) 140 0 (λ x. x ≤ 140) (λ e. omega arith) (λ e. omega arith)

cost_rises : (m n : ℕ) (s : ClientState) (p : Phase) → cost m (suc n) s p ≤ cost m n s p + 140
unfolding cost
cost_rises m n s Ready = omega arith
cost_rises m n s (Again edit) = omega arith
cost_rises m n s (Locking edit k ks) = omega (arith, stale_most (suc n) s)
cost_rises m n s (Pinning edit) = omega (arith, stale_most (suc n) s)
cost_rises m n s (Planning edit) = omega arith
cost_rises m n s (Waiting edit changed shown) = omega arith
cost_rises m n s (Checking edit changed shown) = omega arith
cost_rises m n s (Committing edit shown e) = omega arith
cost_rises m n s (Yielding r) = omega arith
cost_rises m n s (Releasing (Answer r)) = omega arith
cost_rises m n s (Releasing (Restart edit)) = omega arith
cost_rises m n s (Replying r) = omega arith
cost_rises m n s Ended = omega arith

client_rises : (m n : ℕ) (s : ClientState) → client_work m (suc n) s ≤ client_work m n s + 140
unfolding client_work
client_rises m n s = omega (arith, cost_rises m n s s.phase)

-- the sum falls, if one client's part falls by more than what the others' may rise
falls : (f g : ClientState → ℕ) (up : ℕ) → ((x : ClientState) → g x ≤ f x + up) → (clients : List ClientState) (k : ℕ) (s t : ClientState) → slice_get clients k ≡ Some s → g t + up * length clients < f s → total g (slice_set clients k t) < total f clients
falls f g up le clients k s t q l = omega (arith, total_set f g up le clients k s t q)

event_falls : (m n p : ℕ) (up : ℕ) → (p ≡ n) ⊎ ((p ≡ suc n) × (up ≡ 140)) → (x : ClientState) → client_work m p x ≤ client_work m n x + up
event_falls m n p up (inl e) x = subst (λ y. client_work m y x ≤ client_work m n x + up) (sym e) (omega arith)
event_falls m n p up (inr e) x = subst (λ y. client_work m y x ≤ client_work m n x + up) (sym e.0) (subst (λ u. client_work m (suc n) x ≤ client_work m n x + u) (sym e.1) (client_rises m n x))

module _ (d : Dataset) (b : Base) where
  pub work_falls : (c : Choice) (k : ℕ) (w : State) (s : ClientState) → slice_get w.clients k ≡ Some s → is_able w.shared s s.phase ≡ true → ClientLocks w.shared (suc k) s s.phase
      → PlanFor d b w.shared.log (suc k) s s.phase → s.seen ≤ length w.shared.log → work (step d b c k w) < work w
  unfolding work client_work
  work_falls c k w s q a l o seen = subst (λ m. work (step_client d b c k w m) < work w) (sym q) now
    where
      own_part : Less (length w.clients) w.shared s s.phase (event d b c (suc k) w.shared s s.phase)
          → client_work (140 * length w.clients) (length (event d b c (suc k) w.shared s s.phase).0.log) (event d b c (suc k) w.shared s s.phase).1 + rise s.phase * length w.clients < client_work (140 * length w.clients) (length w.shared.log) s
      own_part h = h

      now : work (step_client d b c k w (Some s)) < work w
      now =
          let m : Shared × ClientState = event d b c (suc k) w.shared s s.phase in
          let z : ℕ = length w.clients in
          subst (λ n. total (client_work (140 * n) (length m.0.log)) (slice_set w.clients k m.1) < total (client_work (140 * z) (length w.shared.log)) w.clients) (sym (length-set w.clients k m.1))
          (falls (client_work (140 * z) (length w.shared.log)) (client_work (140 * z) (length m.0.log)) (rise s.phase)
          (event_falls (140 * z) (length w.shared.log) (length m.0.log) (rise s.phase) (grown d b c (suc k) w.shared s s.phase)) w.clients k s m.1 q
          (own_part (own_less d b z c (suc k) w.shared s s.phase a l o seen)))
