-- Runs of the core.
use Rattle.std.proofs.Common.{◌≡◌, ℕ, zero, suc, pred, ◌+◌, ◌<◌, ◌≤◌, ◌-◌, Bool, true, false, cond, List, [], ◌∷◌, ◌++◌, length, take, get_or, refl, sym, ◌∙◌, ap, subst, inl, inr, ◌⊎◌, arith, Option, Some, None}
use Rattle.std.specs.Prelude.{slice_get, IfSome, IfNone}
use Rattle.std.specs.Option.{option_map}
use Rattle.op_model.specs.declared.base.Dataset.{Dataset}
use Rattle.op_model.specs.declared.base.Base.{Base}
use Rattle.op_model.specs.declared.entry.Entry.{Entry}
use Rattle.op_model.specs.declared.reply.Reply.{Reply}
use Rattle.op_model.specs.Transcript.{Line}
use Rattle.session_machine.specs.Machine as machine
use Rattle.session_machine.specs.Play.{first_able, work, AllEnded}
use Rattle.session_machine.proofs.FinishLemmas.{none_first, some_first, all_ended}
use Rattle.client_events.specs.declared.clients.Client.{Client}
use Rattle.client_events.specs.declared.clients.Table.{Table}
use Rattle.pcg_base.specs.declared.clock.Ticks.{Ticks}
use Rattle.core_steps.specs.declared.stepping.Step.{Step}
use Rattle.core_steps.specs.declared.stepping.Step.TheVariants as step
use Rattle.pcg_base.specs.Causes.{Rose}
use Rattle.core_steps.specs.Places.{CoreIs, IsGood}
use Rattle.core_steps.specs.CoreSteps.{StepIs, Puts}
use Rattle.client_events.specs.Phases.{phase_of}
use Rattle.client_events.specs.Steps.{TableIs}
use Rattle.core_steps.specs.Ways.{Opens, Stays}
use Rattle.core_steps.specs.Runs.{Turns, Runs, Finishes, Leads, time_at}
use Rattle.std.proofs.lemmas.Option.{slice_get_within}
use Rattle.core_steps.proofs.SteppingLemmas.{lines_left}
use Rattle.core_steps.proofs.CoreLemmas.{placed}

module _ {W : Type 0} (faults : W → ℕ) (puts misses : W → ℕ → Reply → W → Type 0) (d : Dataset) (b : Base) (ticks : Ticks) where
  pub runs_more : (ns : List ℕ) (n : ℕ) (w v u : machine.State) (old mid new : W) → Runs faults puts misses d b ticks ns w old v mid → Turns faults puts misses d b ticks n v mid u new
      → Runs faults puts misses d b ticks (ns ++ n ∷ []) w old u new
  runs_more [] n w v u old mid new r t =
      (u, new, subst (λ x. Turns faults puts misses d b ticks n x old u new) r.0 (subst (λ x. Turns faults puts misses d b ticks n v x u new) r.1 t), (refl, refl))
  runs_more (m ∷ ms) n w v u old mid new r t = (r.0, r.1, r.2, runs_more ms n r.0 v u r.1 mid new r.3 t)

  pub finishes_more : (ns : List ℕ) (n : ℕ) (w v u : machine.State) (old mid new : W) → Finishes faults puts misses d b ticks ns w old v mid → first_able v.shared v.clients ≡ Some (pred n) → Turns faults puts misses d b ticks n v mid u new
      → Finishes faults puts misses d b ticks (ns ++ n ∷ []) w old u new
  finishes_more [] n w v u old mid new r f t = (
    subst (λ x. first_able x.shared x.clients ≡ Some (pred n)) r.0 f,
    u,
    new,
    subst (λ x. Turns faults puts misses d b ticks n x old u new) r.0 (subst (λ x. Turns faults puts misses d b ticks n v x u new) r.1 t),
    (refl, refl),
  )
  finishes_more (m ∷ ms) n w v u old mid new r f t = (r.0, r.1, r.2, r.3, finishes_more ms n r.1 v u r.2 mid new r.4 f t)

  -- a step of the core is a turn of a client
  pub turn_of : {V : Type 0} (asked : List ℕ → Line) (stands : V → Dataset → Base → List Entry → Type 0) (drafts : V → Dataset → Base → List Entry → Entry → Type 0) (old new : W) (rows rows2 : V) (t u : Table) (clients others : List Client)
      (w : machine.State) (n : ℕ) (r : Step) → IsGood d b w → CoreIs asked (stands rows) (drafts rows) d b t clients w
      → StepIs asked stands drafts puts misses (Rose (faults old) (faults new)) old new rows rows2 d b t u clients others w n (time_at ticks w) r
      → (v : machine.State) × IsGood d b v × CoreIs asked (stands rows2) (drafts rows2) d b u others v × Turns faults puts misses d b ticks n w old v new
  turn_of asked stands drafts old new rows rows2 t u clients others w n (step.Moved act) g o x =
      (machine.step d b x.3 (pred n) w, x.7, x.6, (x.0, x.1, inl (x.2, x.3, x.4, x.5, refl, x.9)))
  turn_of asked stands drafts old new rows rows2 t u clients others w n (step.Blocked lock) g o x =
      (w, g, same_core asked stands drafts rows rows2 t u clients others w x.4 x.5 x.6 o, (x.0, x.1, inr (x.2, refl, x.7)))
    where
      same_core : {V : Type 0} (asked : List ℕ → Line) (stands : V → Dataset → Base → List Entry → Type 0) (drafts : V → Dataset → Base → List Entry → Entry → Type 0) (rows rows2 : V) (t u : Table) (clients others : List Client)
          (w : machine.State) → rows2 ≡ rows → u ≡ t → others ≡ clients → CoreIs asked (stands rows) (drafts rows) d b t clients w → CoreIs asked (stands rows2) (drafts rows2) d b u others w
      same_core asked stands drafts rows rows2 t u clients others w e f h o =
          subst (λ x. CoreIs asked (stands x) (drafts x) d b u others w) (sym e) (subst (λ x. CoreIs asked (stands rows) (drafts rows) d b x others w) (sym f) (subst (λ x. CoreIs asked (stands rows) (drafts rows) d b t x w) (sym h) o))
  turn_of asked stands drafts old new rows rows2 t u clients others w n step.Ended g o x =
      (w, g, same_core2 asked stands drafts rows rows2 t u clients others w x.4 x.5 x.6 o, (x.0, x.1, inr (x.2, refl, x.7)))
    where
      same_core2 : {V : Type 0} (asked : List ℕ → Line) (stands : V → Dataset → Base → List Entry → Type 0) (drafts : V → Dataset → Base → List Entry → Entry → Type 0) (rows rows2 : V) (t u : Table) (clients others : List Client)
          (w : machine.State) → rows2 ≡ rows → u ≡ t → others ≡ clients → CoreIs asked (stands rows) (drafts rows) d b t clients w → CoreIs asked (stands rows2) (drafts rows2) d b u others w
      same_core2 asked stands drafts rows rows2 t u clients others w e f h o =
          subst (λ x. CoreIs asked (stands x) (drafts x) d b u others w) (sym e) (subst (λ x. CoreIs asked (stands rows) (drafts rows) d b x others w) (sym f) (subst (λ x. CoreIs asked (stands rows) (drafts rows) d b t x w) (sym h) o))

  -- a step of a client that may go on leaves less to do
  pub turn_falls : {V : Type 0} (asked : List ℕ → Line) (stands : V → Dataset → Base → List Entry → Type 0) (drafts : V → Dataset → Base → List Entry → Entry → Type 0) (old new : W) (rows rows2 : V) (t u : Table) (clients others : List Client)
      (w : machine.State) (n : ℕ) (r : Step) → (s : machine.ClientState) → slice_get w.clients (pred n) ≡ Some s → machine.is_able w.shared s s.phase ≡ true
      → StepIs asked stands drafts puts misses (Rose (faults old) (faults new)) old new rows rows2 d b t u clients others w n (time_at ticks w) r
      → (v : machine.State) × IsGood d b v × CoreIs asked (stands rows2) (drafts rows2) d b u others v × Turns faults puts misses d b ticks n w old v new × (work v < work w)
  turn_falls asked stands drafts old new rows rows2 t u clients others w n (step.Moved act) s q able x =
      (machine.step d b x.3 (pred n) w, x.7, x.6, (x.0, x.1, inl (x.2, x.3, x.4, x.5, refl, x.9)), x.8)
  turn_falls asked stands drafts old new rows rows2 t u clients others w n (step.Blocked lock) s q able x =
      let e : Some x.0 ≡ Some s = sym x.1 ∙ q in
      let h : x.0 ≡ s = cc in
      absurd (clash (machine.is_able w.shared s s.phase) able (subst (λ y. machine.is_able w.shared y y.phase ≡ false) h x.2))
    where
      clash : (t : Bool) → t ≡ true → t ≡ false → ⊥
      clash t e f = let g : true ≡ false = sym e ∙ f in cc
  turn_falls asked stands drafts old new rows rows2 t u clients others w n step.Ended s q able x =
      let e : Some x.0 ≡ Some s = sym x.1 ∙ q in
      let h : x.0 ≡ s = cc in
      absurd (clash (machine.is_able w.shared s s.phase) able (subst (λ y. machine.is_able w.shared y y.phase ≡ false) h x.2))
    where
      clash : (t : Bool) → t ≡ true → t ≡ false → ⊥
      clash t e f = let g : true ≡ false = sym e ∙ f in cc

-- The least client that may go on.

pub first_is : (sh : machine.Shared) (ss : List machine.ClientState) (j : ℕ) (s : machine.ClientState) → slice_get ss j ≡ Some s → machine.is_able sh s s.phase ≡ true
    → ((k : ℕ) (u : machine.ClientState) → k < j → slice_get ss k ≡ Some u → machine.is_able sh u u.phase ≡ false) → first_able sh ss ≡ Some j
unfolding first_able
first_is sh [] j s q a f = cc
first_is sh (x ∷ xs) zero s q a f =
    let e : x ≡ s = cc in
    ap (λ t. cond t (Some 0) (option_map suc (first_able sh xs))) (subst (λ y. machine.is_able sh y y.phase ≡ true) (sym e) a)
first_is sh (x ∷ xs) (suc j) s q a f =
    ap (λ t. cond t (Some 0) (option_map suc (first_able sh xs))) (f 0 x (omega arith) refl)
    ∙ ap (option_map suc) (first_is sh xs j s q a (λ k u l r. f (suc k) u (omega arith) r))

pub first_not : (sh : machine.Shared) (ss : List machine.ClientState) → ((k : ℕ) (u : machine.ClientState) → slice_get ss k ≡ Some u → machine.is_able sh u u.phase ≡ false) → first_able sh ss ≡ None
unfolding first_able
first_not sh [] f = refl
first_not sh (x ∷ xs) f =
    ap (λ t. cond t (Some 0) (option_map suc (first_able sh xs))) (f 0 x refl) ∙ ap (option_map suc) (first_not sh xs (λ k u r. f (suc k) u r))

there_is : {X : Type 0} (xs : List X) (n : ℕ) → n < length xs → (x : X) × (slice_get xs n ≡ Some x)
there_is [] n l = absurd (omega arith)
there_is (x ∷ xs) zero l = (x, refl)
there_is (x ∷ xs) (suc n) l = there_is xs n (omega arith)

module _ {V : Type 0} (asked : List ℕ → Line) (stands : V → Dataset → Base → List Entry → Type 0) (drafts : V → Dataset → Base → List Entry → Entry → Type 0) (d : Dataset) (b : Base) (rows : V) (t : Table) (clients : List Client) (w : machine.State)
    (g : IsGood d b w) (o : CoreIs asked (stands rows) (drafts rows) d b t clients w) where
  -- whether a client may go on is what the code finds of its client
  able_as : (x : Bool) (k : ℕ) (me : Client) (q : slice_get clients k ≡ Some me)
      → ((sh : machine.Shared) (s : machine.ClientState) (client line : ℕ) → TableIs t sh → length s.lines ≡ length me.lines.items - me.taken → s.faulty ≡ me.fault → machine.is_able sh s (phase_of client line me.phase) ≡ x)
      → machine.is_able w.shared (o.clients_are k me q).0 (o.clients_are k me q).0.phase ≡ x
  able_as x k me q f =
      let client = o.clients_are k me q in
      let p = placed asked stands drafts d b rows t clients w k me g o q in
      ap (machine.is_able w.shared client.0) client.2.phase ∙ f w.shared client.0 (suc k) me.taken o.table (lines_left p) client.2.rest.faulty

  client_stays : (k : ℕ) (u : machine.ClientState) → slice_get w.clients k ≡ Some u → ((me : Client) → slice_get clients k ≡ Some me → Stays t me) → machine.is_able w.shared u u.phase ≡ false
  client_stays k u q f =
      let l : k < length w.clients = slice_get_within w.clients k u q in
      let there = there_is clients k (omega (arith, o.count)) in
      let client = o.clients_are k there.0 there.1 in
      let e : Some client.0 ≡ Some u = sym client.1 ∙ q in
      let h : client.0 ≡ u = cc in
      subst (λ y. machine.is_able w.shared y y.phase ≡ false) h (able_as false k there.0 there.1 (f there.0 there.1))

  pub open_some : (n : ℕ) → 0 < n → n ≤ length clients → ((me : Client) → slice_get clients (n - 1) ≡ Some me → Opens t me) → ((k : ℕ) (me : Client) → k < n - 1 → slice_get clients k ≡ Some me → Stays t me)
      → Some n ≡ option_map suc (first_able w.shared w.clients)
  open_some n p l f h =
      let there = there_is clients (n - 1) (omega (arith, p, l)) in
      let client = o.clients_are (n - 1) there.0 there.1 in
      let first = first_is w.shared w.clients (n - 1) client.0 client.1 (able_as true (n - 1) there.0 there.1 (f there.0 there.1)) (λ k u m q. client_stays k u q (λ me r. h k me m r)) in
      let e : n ≡ suc (n - 1) = omega (arith, p) in
      ap Some e ∙ sym (ap (option_map suc) first)

  pub open_none : ((k : ℕ) (me : Client) → slice_get clients k ≡ Some me → Stays t me) → None ≡ option_map suc (first_able w.shared w.clients)
  open_none f = sym (ap (option_map suc) (first_not w.shared w.clients (λ k u q. client_stays k u q (f k))))

-- when no client may go on, all have ended
pub none_open : (d : Dataset) (b : Base) (w : machine.State) → IsGood d b w → None ≡ option_map suc (first_able w.shared w.clients) → AllEnded w
none_open d b w g e = go (first_able w.shared w.clients) refl e
  where
    clash : (t : Bool) → t ≡ true → t ≡ false → ⊥
    clash t e f = let h : true ≡ false = sym e ∙ f in cc

    go : (x : Option ℕ) → first_able w.shared w.clients ≡ x → None ≡ option_map suc x → AllEnded w
    go None q e = all_ended d b w g.locks_agree (λ x. clash (machine.is_able w.shared x.1 x.1.phase) x.3 (none_first w.shared w.clients q x.0 x.1 x.2))
    go (Some k) q e = cc

-- the least client that may go on is one
pub some_open : (w : machine.State) (n : ℕ) → Some n ≡ option_map suc (first_able w.shared w.clients)
    → (first_able w.shared w.clients ≡ Some (pred n)) × ((s : machine.ClientState) × (slice_get w.clients (pred n) ≡ Some s) × (machine.is_able w.shared s s.phase ≡ true))
some_open w n e = go (first_able w.shared w.clients) refl e
  where
    go : (x : Option ℕ) → first_able w.shared w.clients ≡ x → Some n ≡ option_map suc x → (first_able w.shared w.clients ≡ Some (pred n)) × ((s : machine.ClientState) × (slice_get w.clients (pred n) ≡ Some s) × (machine.is_able w.shared s s.phase ≡ true))
    go None q e = cc
    go (Some k) q e =
        let h : n ≡ suc k = cc in
        let f : first_able w.shared w.clients ≡ Some (pred n) = q ∙ ap (λ m. Some (pred m)) (sym h) in
        (f, some_first w.shared w.clients (pred n) f)

pub take_snoc : (xs : List ℕ) (k : ℕ) → k < length xs → take (k + 1) xs ≡ take k xs ++ get_or xs k 0 ∷ []
take_snoc [] k l = absurd (omega arith)
take_snoc (x ∷ xs) zero l = refl
take_snoc (x ∷ xs) (suc k) l = let e : suc k + 1 ≡ suc (k + 1) = omega arith in ap (λ n. take n (x ∷ xs)) e ∙ ap (λ ys. x ∷ ys) (take_snoc xs k (omega arith))

pub take_whole : (xs : List ℕ) (k : ℕ) → length xs ≤ k → take k xs ≡ xs
take_whole [] zero l = refl
take_whole [] (suc k) l = refl
take_whole (x ∷ xs) zero l = absurd (omega arith)
take_whole (x ∷ xs) (suc k) l = ap (λ ys. x ∷ ys) (take_whole xs k (omega arith))

-- what the code finds is what the machine has
pub found_open : {V : Type 0} (asked : List ℕ → Line) (stands : V → Dataset → Base → List Entry → Type 0) (drafts : V → Dataset → Base → List Entry → Entry → Type 0) (d : Dataset) (b : Base) (rows : V) (t : Table) (clients : List Client) (w : machine.State)
    → IsGood d b w → CoreIs asked (stands rows) (drafts rows) d b t clients w → (r : Option ℕ)
    → IfSome r (λ n. (0 < n) × (n ≤ length clients) × ((me : Client) → slice_get clients (n - 1) ≡ Some me → Opens t me) × ((k : ℕ) (me : Client) → k < n - 1 → slice_get clients k ≡ Some me → Stays t me))
    → IfNone r ((k : ℕ) (me : Client) → slice_get clients k ≡ Some me → Stays t me) → r ≡ option_map suc (first_able w.shared w.clients)
found_open asked stands drafts d b rows t clients w g o None f h = open_none asked stands drafts d b rows t clients w g o h
found_open asked stands drafts d b rows t clients w g o (Some n) f h = open_some asked stands drafts d b rows t clients w g o n f.0 f.1 f.2 f.3

-- a run of the machine leads there, by choices that are allowed
pub runs_lead : {W : Type 0} (faults : W → ℕ) (puts misses : W → ℕ → Reply → W → Type 0) (d : Dataset) (b : Base) (ticks : Ticks) (ns : List ℕ) (w v : machine.State) (old new : W)
    → Runs faults puts misses d b ticks ns w old v new → Leads d b w v
runs_lead faults puts misses d b ticks [] w v old new r = ([], tt, sym r.0)
runs_lead faults puts misses d b ticks (n ∷ ns) w v old new r = go r.2.2 (runs_lead faults puts misses d b ticks ns r.0 v r.1 new r.3)
  where
    go : ((machine.is_able w.shared r.2.0 r.2.0.phase ≡ true) × (c : machine.Choice) × (c.clock ≡ time_at ticks w) × machine.IsAllowedAt d b c w.shared (slice_get w.clients (pred n))
        × (r.0 ≡ machine.step d b c (pred n) w) × Puts puts misses (Rose (faults old) (faults r.1)) old r.1 n r.2.0.phase c.write_fails)
        ⊎ ((machine.is_able w.shared r.2.0 r.2.0.phase ≡ false) × (r.0 ≡ w) × (r.1 ≡ old)) → Leads d b r.0 v → Leads d b w v
    go (inl x) l = ((x.1, pred n) ∷ l.0, (x.3, subst (machine.IsRun d b l.0) x.4 l.1), ap (machine.run d b l.0) (sym x.4) ∙ l.2)
    go (inr x) l = subst (λ y. Leads d b y v) x.1 l

pub finishes_lead : {W : Type 0} (faults : W → ℕ) (puts misses : W → ℕ → Reply → W → Type 0) (d : Dataset) (b : Base) (ticks : Ticks) (ns : List ℕ) (w v : machine.State) (old new : W)
    → Finishes faults puts misses d b ticks ns w old v new → Runs faults puts misses d b ticks ns w old v new
finishes_lead faults puts misses d b ticks [] w v old new r = r
finishes_lead faults puts misses d b ticks (n ∷ ns) w v old new r = (r.1, r.2, r.3, finishes_lead faults puts misses d b ticks ns r.1 v r.2 new r.4)
