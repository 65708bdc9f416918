-- One event of one client: what the calls of each phase come to.
use Rattle.std.proofs.Common.{◌≡◌, ℕ, zero, suc, ◌+◌, ◌≤◌, Bool, true, false, cond, eqb, List, [], ◌∷◌, length, map, drop, get_or, set, refl, sym, ◌∙◌, ap, subst, arith, Option, Some, None}
use Rattle.std.specs.Prelude.{slice_get}
use Rattle.std.proofs.lemmas.Bool.{false≢true}
use Rattle.op_model.specs.declared.base.Dataset.{Dataset}
use Rattle.op_model.specs.declared.base.Base.{Base}
use Rattle.op_model.specs.declared.request.Edit.{Edit}
use Rattle.op_model.specs.declared.entry.Changed.{Changed}
use Rattle.op_model.specs.declared.entry.Shown.{Shown}
use Rattle.op_model.specs.declared.entry.Plan.{Plan}
use Rattle.op_model.specs.declared.entry.Entry.{Entry}
use Rattle.op_model.specs.declared.reply.Refusal.{Refusal}
use Rattle.op_model.specs.declared.reply.Reply.{Reply}
use Rattle.op_model.specs.declared.reply.Reply.TheVariants as reply
use Rattle.op_model.specs.declared.request.Request.TheVariants as request
use Rattle.op_model.specs.Operations.{touched}
use Rattle.op_model.specs.Refusals.{refuse_early, refuse_cut, refuse_late}
use Rattle.op_model.specs.Transcript.{Line, Asks, Faulty, log_at}
use Rattle.graph_model.specs.Lists.{has}
use Rattle.op_model.specs.Locks.{locks_of}
use Rattle.session_machine.specs.Machine as machine
use Rattle.client_events.specs.declared.lines.LineText.{LineText}
use Rattle.client_events.specs.declared.rows.Stamp.{Stamp}
use Rattle.client_events.specs.declared.rows.Remade.{Remade}
use Rattle.client_events.specs.declared.phases.Looked.{Looked}
use Rattle.client_events.specs.declared.phases.Phase.{Phase}
use Rattle.client_events.specs.declared.phases.Phase.TheVariants as phase
use Rattle.client_events.specs.declared.phases.After.{After}
use Rattle.client_events.specs.declared.phases.After.TheVariants as after
use Rattle.client_events.specs.declared.clients.Client.{Client}
use Rattle.client_events.specs.declared.clients.Table.{Table}
use Rattle.client_events.specs.declared.events.Act.{Act}
use Rattle.client_events.specs.declared.events.Act.TheVariants as act
use Rattle.client_events.specs.declared.events.Stepped.{Stepped}
use Rattle.client_events.specs.Masks.{numbers}
use Rattle.client_events.specs.Phases.{after_of, entry_drafted, line_of, phase_of}
use Rattle.client_events.specs.Events.{Checks, Drafted, Holds, Plans, Released, Same, Written, choice}
use Rattle.client_events.specs.Steps.{Fits, Goes, Known, RestIs, TableIs, Takes, act_named, act_of, act_of_put}

-- whether an entry waits to be published
abbrev pub is_commit : machine.Phase → Bool
is_commit (machine.Committing edit shown e) = true
is_commit p = false

-- without one there is no draft to speak of
pub no_draft : (drafts : Dataset → Base → List Entry → Entry → Type 0) (d : Dataset) (b : Base) (log : List Entry) (i line : ℕ) (p : Phase) → is_commit (phase_of i line p) ≡ false → Drafted drafts d b log i line p
no_draft drafts d b log i line (phase.Committing plan remade) e = absurd (false≢true (sym e))
no_draft drafts d b log i line phase.Ready e = tt
no_draft drafts d b log i line (phase.Again edit) e = tt
no_draft drafts d b log i line (phase.Locking edit wanted next) e = tt
no_draft drafts d b log i line (phase.Pinning edit) e = tt
no_draft drafts d b log i line (phase.Planning edit) e = tt
no_draft drafts d b log i line (phase.Waiting plan) e = tt
no_draft drafts d b log i line (phase.Checking plan) e = tt
no_draft drafts d b log i line (phase.Yielding r) e = tt
no_draft drafts d b log i line (phase.Releasing a) e = tt
no_draft drafts d b log i line (phase.Replying r) e = tt
no_draft drafts d b log i line phase.Ended e = tt

calm_locking : (edit : Edit) (ns : List ℕ) → is_commit (machine.locking edit ns) ≡ false
calm_locking edit [] = refl
calm_locking edit (n ∷ ns) = refl

calm_after : (a : machine.After) → is_commit (machine.after a) ≡ false
calm_after (machine.Answer r) = refl
calm_after (machine.Restart edit) = refl

calm_releasing : (a : machine.After) (ns : List ℕ) → is_commit (machine.releasing a ns) ≡ false
calm_releasing a [] = calm_after a
calm_releasing a (n ∷ ns) = refl

calm_give : (sh : machine.Shared) (s : machine.ClientState) (a : machine.After) (ns : List ℕ) → is_commit (machine.give_back sh s a ns).1.phase ≡ false
calm_give sh s a [] = calm_after a
calm_give sh s a (n ∷ ns) = calm_releasing a ns

drop_some : (xs : List LineText) (n : ℕ) (x : LineText) → slice_get xs n ≡ Some x → drop n xs ≡ x ∷ drop (n + 1) xs
drop_some [] n x e = cc
drop_some (y ∷ ys) zero x e = let q : y ≡ x = cc in ap (λ z. z ∷ ys) q
drop_some (y ∷ ys) (suc n) x e = let q : suc n + 1 ≡ suc (n + 1) = omega arith in drop_some ys n x e ∙ ap (λ m. x ∷ drop m (y ∷ ys)) (sym q)

some_within : (xs : List LineText) (n : ℕ) (x : LineText) → slice_get xs n ≡ Some x → n + 1 ≤ length xs
some_within [] n x e = cc
some_within (y ∷ ys) zero x e = omega arith
some_within (y ∷ ys) (suc n) x e = let l = some_within ys n x e in omega arith

drop_none : (xs : List LineText) (n : ℕ) → slice_get xs n ≡ None → drop n xs ≡ []
drop_none [] zero e = refl
drop_none [] (suc n) e = refl
drop_none (y ∷ ys) zero e = cc
drop_none (y ∷ ys) (suc n) e = drop_none ys n e

module _ (d : Dataset) (b : Base) (sh : machine.Shared) (s : machine.ClientState) where
  calm_looked : (edit : Edit) (r : Option Refusal) → is_commit (machine.looked d b sh s edit r).phase ≡ false
  calm_looked edit None = calm_locking edit (locks_of d.layout (touched d b sh.log edit))
  calm_looked edit (Some r) = refl

  calm_heard : (l : Line) → is_commit (machine.read_line d b sh s l).phase ≡ false
  calm_heard (Faulty error) = refl
  calm_heard (Asks (request.Read q)) = refl
  calm_heard (Asks (request.Edit edit)) = calm_looked edit (refuse_early d b sh.log edit)

  calm_pinned : (edit : Edit) (r : Option Refusal) (all : Bool) → is_commit (machine.pinned_at d b sh s edit r all).phase ≡ false
  calm_pinned edit (Some r) all = refl
  calm_pinned edit None true = refl
  calm_pinned edit None false = refl

  calm_planned : (c : machine.Choice) (edit : Edit) (r : Option Refusal) → is_commit (machine.planned d b c sh s edit r).phase ≡ false
  calm_planned c edit (Some r) = refl
  calm_planned c edit None = refl

  calm_plan : (c : machine.Choice) (edit : Edit) → is_commit (machine.plan d b c sh s edit).phase ≡ false
  calm_plan c edit = go c.no_memory (refuse_cut d b (log_at d b sh.log s.seen) edit)
    where
      go : (t : Bool) (r : Option Refusal) → is_commit (cond t (record s { phase = machine.Releasing (machine.Answer reply.NoMemory) }) (machine.planned d b c sh s edit r)).phase ≡ false
      go true r = refl
      go false r = calm_planned c edit r

  -- what begins a line is a look
  named_locking : (edit : Edit) (ns : List ℕ) → act_named machine.Ready (machine.locking edit ns) ≡ act.Look
  named_locking edit [] = refl
  named_locking edit (n ∷ ns) = refl

  named_looked : (edit : Edit) (r : Option Refusal) → act_named machine.Ready (machine.looked d b sh s edit r).phase ≡ act.Look
  named_looked edit None = named_locking edit (locks_of d.layout (touched d b sh.log edit))
  named_looked edit (Some r) = refl

  named_heard : (l : Line) → act_named machine.Ready (machine.read_line d b sh s l).phase ≡ act.Look
  named_heard (Faulty error) = refl
  named_heard (Asks (request.Read q)) = refl
  named_heard (Asks (request.Edit edit)) = named_looked edit (refuse_early d b sh.log edit)

  pub named_taken : (no_memory : Bool) (l : Line) → act_named machine.Ready (cond no_memory (record s { seen = length sh.log; phase = machine.Replying reply.NoMemory }) (machine.read_line d b sh s l)).phase ≡ act.Look
  named_taken true l = refl
  named_taken false l = named_heard l

  -- what looks and plans leave alone
  abbrev Keeps : machine.ClientState → Type 0
  Keeps t = (t.lines ≡ s.lines) × (t.asked ≡ s.asked) × (t.faulty ≡ s.faulty)

  keeps_looked : (edit : Edit) (r : Option Refusal) → Keeps (machine.looked d b sh s edit r)
  keeps_looked edit None = (refl, refl, refl)
  keeps_looked edit (Some r) = (refl, refl, refl)

  keeps_heard : (l : Line) → Keeps (machine.read_line d b sh s l)
  keeps_heard (Faulty error) = (refl, refl, refl)
  keeps_heard (Asks (request.Read q)) = (refl, refl, refl)
  keeps_heard (Asks (request.Edit edit)) = keeps_looked edit (refuse_early d b sh.log edit)

  keeps_pinned : (edit : Edit) (r : Option Refusal) (all : Bool) → Keeps (machine.pinned_at d b sh s edit r all)
  keeps_pinned edit (Some r) all = (refl, refl, refl)
  keeps_pinned edit None true = (refl, refl, refl)
  keeps_pinned edit None false = (refl, refl, refl)

  keeps_plan : (c : machine.Choice) (edit : Edit) → Keeps (machine.plan d b c sh s edit) × ((machine.plan d b c sh s edit).seen ≡ s.seen)
  keeps_plan c edit = go c.no_memory (refuse_cut d b (log_at d b sh.log s.seen) edit)
    where
      go : (t : Bool) (r : Option Refusal) → Keeps (cond t (record s { phase = machine.Releasing (machine.Answer reply.NoMemory) }) (machine.planned d b c sh s edit r))
          × ((cond t (record s { phase = machine.Releasing (machine.Answer reply.NoMemory) }) (machine.planned d b c sh s edit r)).seen ≡ s.seen)
      go true r = ((refl, refl, refl), refl)
      go false (Some r) = ((refl, refl, refl), refl)
      go false None = ((refl, refl, refl), refl)

  keeps_check : (c : machine.Choice) (i : ℕ) (edit : Edit) (changed : List Changed) (shown : Option Shown) → Keeps (machine.check d b c i sh s edit changed shown)
  keeps_check c i edit changed shown = go c.no_memory (refuse_late d b sh.log edit)
    where
      go : (t : Bool) (r : Option Refusal) → Keeps (cond t (record s { seen = length sh.log; phase = machine.Yielding reply.NoMemory }) (machine.checked d b c i sh s edit changed shown r))
      go true r = (refl, refl, refl)
      go false (Some r) = (refl, refl, refl)
      go false None = (refl, refl, refl)

keeps_give : (sh : machine.Shared) (s : machine.ClientState) (a : machine.After) (ns : List ℕ)
    → ((machine.give_back sh s a ns).1.lines ≡ s.lines) × ((machine.give_back sh s a ns).1.asked ≡ s.asked) × ((machine.give_back sh s a ns).1.faulty ≡ s.faulty)
    × ((machine.give_back sh s a ns).1.seen ≡ s.seen) × ((machine.give_back sh s a ns).0.log ≡ sh.log) × ((machine.give_back sh s a ns).0.turn ≡ sh.turn)
keeps_give sh s a [] = (refl, refl, refl, refl, refl, refl)
keeps_give sh s a (n ∷ ns) = (refl, refl, refl, refl, refl, refl)

module _ (asked : List ℕ → Line) (d : Dataset) (b : Base) (sh : machine.Shared) (s : machine.ClientState) (t : Table) (me : Client) (i clock : ℕ)
    (stands : Dataset → Base → List Entry → Type 0) (drafts : Dataset → Base → List Entry → Entry → Type 0) {W : Type 0} (puts misses : W → ℕ → Reply → W → Type 0) (rose : Type 0) (old new : W) where
  -- what is known of the client lasts where these parts of it do
  rest_keeps : (u : machine.ClientState) (seen : ℕ) → RestIs asked me.lines.items me.taken me.fault me.seen s → (u.lines ≡ s.lines) × (u.asked ≡ s.asked) × (u.faulty ≡ s.faulty) → u.seen ≡ seen → RestIs asked me.lines.items me.taken me.fault seen u
  rest_keeps u seen k q e = record { lines = q.0 ∙ k.lines; line = ap length q.1 ∙ k.line; faulty = q.2 ∙ k.faulty; seen = e; within = k.within }

  abbrev Gone : Table → Phase → Stepped → Type 0
  Gone u p r = Goes asked stands drafts puts misses rose old new d b sh s u me i clock p r

  abbrev Knows : Phase → Type 0
  Knows p = Known asked stands drafts d b sh s t me i p

  -- events that change nothing that is shared
  calm_fits : (u : machine.ClientState) (p : Phase) (seen : ℕ) (x : Act) → RestIs asked me.lines.items me.taken me.fault me.seen s → TableIs t sh → stands d b sh.log
      → (u.lines ≡ s.lines) × (u.asked ≡ s.asked) × (u.faulty ≡ s.faulty) → Same i me.taken (record { phase = p; seen = seen }) u → is_commit u.phase ≡ false
      → Fits asked stands drafts d b (sh, u) t me i (record { phase = p; seen = seen; taken = false; act = x })
  calm_fits u p seen x rest table rows keeps same calm =
      record { table = table; rows = rows; draft = no_draft drafts d b sh.log i me.taken p (ap is_commit same.0 ∙ calm); rest = rest_keeps u seen rest keeps (sym same.1); phase = sym same.0 }

  pub go_again : (edit : Edit) (l : Looked) → Knows (phase.Again edit) → new ≡ old → Same i me.taken l (machine.looked d b sh s edit (refuse_early d b sh.log edit))
      → Gone t (phase.Again edit) (record { phase = l.phase; seen = l.seen; taken = false; act = act.Look })
  go_again edit l k o e = (
    choice false false None clock,
    refl,
    tt,
    calm_fits (machine.looked d b sh s edit (refuse_early d b sh.log edit)) l.phase l.seen act.Look k.rest k.table k.rows (keeps_looked d b sh s edit _) e (calm_looked d b sh s edit _),
    o,
    refl,
  )

  pub go_pinning : (edit : Edit) (l : Looked) → Knows (phase.Pinning edit) → new ≡ old → Same i me.taken l (machine.pin d b sh s edit)
      → Gone t (phase.Pinning edit) (record { phase = l.phase; seen = l.seen; taken = false; act = act.Pin })
  go_pinning edit l k o e = (
    choice false false None clock,
    refl,
    tt,
    calm_fits (machine.pin d b sh s edit) l.phase l.seen act.Pin k.rest k.table k.rows (keeps_pinned d b sh s edit _ _) e (calm_pinned d b sh s edit _ _),
    o,
    refl,
  )

  pub go_planning : (edit : Edit) (q : Phase) → Knows (phase.Planning edit) → new ≡ old → Plans d b sh s i me.taken edit q
      → Gone t (phase.Planning edit) (record { phase = q; seen = me.seen; taken = false; act = act.Plan })
  go_planning edit q k o p =
      let c : machine.Choice = choice false p.0 p.1 clock in
      let a = p.2 false clock in
      let keeps = keeps_plan d b sh s c edit in
      (c, refl, a.0, calm_fits (machine.plan d b c sh s edit) q me.seen act.Plan k.rest k.table k.rows keeps.0 (a.1, sym (keeps.1 ∙ k.rest.seen)) (calm_plan d b sh s c edit), o, refl)

  pub go_ready : (r : Stepped) → Knows phase.Ready → new ≡ old → ((u : machine.ClientState) → u.seen ≡ me.seen → Takes asked d b sh u i (me.taken + 1) me.seen (slice_get me.lines.items me.taken) r)
      → Gone t phase.Ready r
  go_ready r k o f = go (slice_get me.lines.items me.taken) refl f
    where
      go : (x : Option LineText) → slice_get me.lines.items me.taken ≡ x → ((u : machine.ClientState) → u.seen ≡ me.seen → Takes asked d b sh u i (me.taken + 1) me.seen x r) → Gone t phase.Ready r
      go None e f =
          let empty : s.lines ≡ [] = k.rest.lines ∙ ap (map (line_of asked)) (drop_none me.lines.items me.taken e) in
          let faulty : s.faulty ≡ true = subst (λ ls. cond (eqb (length ls) 0) s.faulty true ≡ true) empty k.able in
          let ended : Stepped = record { phase = phase.Ended; seen = me.seen; taken = false; act = act.Fault } in
          let fit : Fits asked stands drafts d b (sh, record s { phase = machine.Ended }) t me i ended =
          calm_fits (record s { phase = machine.Ended }) phase.Ended me.seen act.Fault k.rest k.table k.rows (refl, refl, refl) (refl, sym k.rest.seen) refl in
          let c : machine.Choice = choice false false None clock in
          let fit2 : Fits asked stands drafts d b (sh, machine.take_line d b c sh s s.lines) t me i ended =
          subst (λ ls. Fits asked stands drafts d b (sh, machine.take_line d b c sh s ls) t me i ended) (sym empty)
          (subst (λ x. Fits asked stands drafts d b (sh, cond x (record s { phase = machine.Ended }) s) t me i ended) (sym faulty) fit) in (
            c,
            refl,
            tt,
            subst (Fits asked stands drafts d b (sh, machine.take_line d b c sh s s.lines) t me i) (sym (f s k.rest.seen)) fit2,
            o,
            ap (λ (y : Stepped). y.act) (f s k.rest.seen)
                ∙ sym (subst (λ ls. act_named machine.Ready (machine.take_line d b c sh s ls).phase ≡ act.Fault) (sym empty)
                (subst (λ x. act_named machine.Ready (cond x (record s { phase = machine.Ended }) s).phase ≡ act.Fault) (sym faulty) refl)),
          )
      go (Some text) e f =
          let rest : List Line = map (line_of asked) (drop (me.taken + 1) me.lines.items) in
          let l : Line = line_of asked text in
          let full : s.lines ≡ l ∷ rest = k.rest.lines ∙ ap (map (line_of asked)) (drop_some me.lines.items me.taken text e) in
          let u : machine.ClientState = record s { lines = rest; asked = l ∷ s.asked } in
          let h = f u k.rest.seen in
          let c : machine.Choice = choice false h.2.0 None clock in (
            c,
            refl,
            tt,
            subst (λ ls. Fits asked stands drafts d b (sh, machine.take_line d b c sh s ls) t me i r) (sym full) (taken e h.0 h.2.0 h.2.1),
            o,
            h.1 ∙ sym (subst (λ ls. act_named machine.Ready (machine.take_line d b c sh s ls).phase ≡ act.Look) (sym full) (named_taken d b sh u h.2.0 l)),
          )
        where
          taken : slice_get me.lines.items me.taken ≡ Some text → r.taken ≡ true → (no_memory : Bool)
              → Same i (me.taken + 1) (record { phase = r.phase; seen = r.seen })
              (cond no_memory (record s { lines = map (line_of asked) (drop (me.taken + 1) me.lines.items); asked = line_of asked text ∷ s.asked; seen = length sh.log; phase = machine.Replying reply.NoMemory })
              (machine.read_line d b sh (record s { lines = map (line_of asked) (drop (me.taken + 1) me.lines.items); asked = line_of asked text ∷ s.asked }) (line_of asked text)))
              → Fits asked stands drafts d b (sh, machine.take_line d b (choice false no_memory None clock) sh s (line_of asked text ∷ map (line_of asked) (drop (me.taken + 1) me.lines.items))) t me i r
          taken e0 e no_memory x = at no_memory x
            where
              u : machine.ClientState
              u = record s { lines = map (line_of asked) (drop (me.taken + 1) me.lines.items); asked = line_of asked text ∷ s.asked }

              after : cond r.taken (me.taken + 1) me.taken ≡ me.taken + 1
              after = ap (λ y. cond y (me.taken + 1) me.taken) e

              fit : (v : machine.ClientState) → (v.lines ≡ u.lines) × (v.asked ≡ u.asked) × (v.faulty ≡ u.faulty) → is_commit v.phase ≡ false → Same i (me.taken + 1) (record { phase = r.phase; seen = r.seen }) v
                  → Fits asked stands drafts d b (sh, v) t me i r
              fit v q calm x =
                  record {
                    table = k.table;
                    rows = k.rows;
                    draft = subst (λ n. Drafted drafts d b sh.log i n r.phase) (sym after) (no_draft drafts d b sh.log i (me.taken + 1) r.phase (ap is_commit x.0 ∙ calm));
                    rest = subst (λ n. RestIs asked me.lines.items n me.fault r.seen v) (sym after)
                        (record { lines = q.0; line = ap length q.1 ∙ (let j : length s.asked ≡ me.taken = k.rest.line in omega arith); faulty = q.2 ∙ k.rest.faulty; seen = sym x.1; within = some_within me.lines.items me.taken text e0 });
                    phase = subst (λ n. v.phase ≡ phase_of i n r.phase) (sym after) (sym x.0);
                  }

              at : (no_memory : Bool) → Same i (me.taken + 1) (record { phase = r.phase; seen = r.seen }) (cond no_memory (record u { seen = length sh.log; phase = machine.Replying reply.NoMemory }) (machine.read_line d b sh u (line_of asked text)))
                  → Fits asked stands drafts d b (sh, cond no_memory (record u { seen = length sh.log; phase = machine.Replying reply.NoMemory }) (machine.read_line d b sh u (line_of asked text))) t me i r
              at true x = fit (record u { seen = length sh.log; phase = machine.Replying reply.NoMemory }) (refl, refl, refl) refl x
              at false x = fit (machine.read_line d b sh u (line_of asked text)) (keeps_heard d b sh u (line_of asked text)) (calm_heard d b sh u (line_of asked text)) x

  pub go_locking : (edit : Edit) (wanted next : ℕ) (u : Table) (q : Phase) → Knows (phase.Locking edit wanted next) → new ≡ old → u.locks ≡ set t.locks next i → u.turn ≡ t.turn
      → phase_of i me.taken q ≡ machine.locking edit (numbers wanted (next + 1)) → Gone u (phase.Locking edit wanted next) (record { phase = q; seen = me.seen; taken = false; act = act.Lock })
  go_locking edit wanted next u q k o locks turn e =
      let ns : List ℕ = numbers wanted (next + 1) in
      let r : Stepped = record { phase = q; seen = me.seen; taken = false; act = act.Lock } in
      let m : machine.Shared × machine.ClientState = (record sh { locks = set sh.locks next i }, record s { held = next ∷ s.held; phase = machine.locking edit ns }) in
      let fit : Fits asked stands drafts d b m u me i r =
      record {
        table = record { locks = ap (λ xs. set xs next i) k.table.locks ∙ sym locks; turn = k.table.turn ∙ sym turn };
        rows = k.rows;
        draft = no_draft drafts d b sh.log i me.taken q (ap is_commit e ∙ calm_locking edit ns);
        rest = rest_keeps m.1 me.seen k.rest (refl, refl, refl) k.rest.seen;
        phase = sym e;
      } in
      (choice false false None clock, refl, tt, subst (λ x. Fits asked stands drafts d b (cond x m (sh, s)) u me i r) (sym k.able) fit, o, refl)

  pub go_waiting : (plan : Plan) (u : Table) → Knows (phase.Waiting plan) → new ≡ old → u.locks ≡ t.locks → u.turn ≡ i
      → Gone u (phase.Waiting plan) (record { phase = phase.Checking plan; seen = me.seen; taken = false; act = act.Turn })
  go_waiting plan u k o locks turn =
      let r : Stepped = record { phase = phase.Checking plan; seen = me.seen; taken = false; act = act.Turn } in
      let m : machine.Shared × machine.ClientState = (record sh { turn = i }, record s { phase = machine.Checking plan.edit plan.changed plan.shown }) in
      let fit : Fits asked stands drafts d b m u me i r =
      record {
        table = record { locks = k.table.locks ∙ sym locks; turn = sym turn };
        rows = k.rows;
        draft = tt;
        rest = rest_keeps m.1 me.seen k.rest (refl, refl, refl) k.rest.seen;
        phase = refl;
      } in
      (choice false false None clock, refl, tt, subst (λ x. Fits asked stands drafts d b (cond x m (sh, s)) u me i r) (sym k.able) fit, o, refl)

  pub go_yielding : (a : Reply) (u : Table) → Knows (phase.Yielding a) → new ≡ old → u.locks ≡ t.locks → u.turn ≡ 0
      → Gone u (phase.Yielding a) (record { phase = phase.Releasing (after.Answer a); seen = me.seen; taken = false; act = act.Yield })
  go_yielding a u k o locks turn = (
    choice false false None clock,
    refl,
    tt,
    record {
      table = record { locks = k.table.locks ∙ sym locks; turn = sym turn };
      rows = k.rows;
      draft = tt;
      rest = rest_keeps (record s { phase = machine.Releasing (machine.Answer a) }) me.seen k.rest (refl, refl, refl) k.rest.seen;
      phase = refl;
    },
    o,
    refl,
  )

  pub go_releasing : (a : After) (u : Table) (q : Phase) → Knows (phase.Releasing a) → new ≡ old → Released t.locks i a u.locks q → u.turn ≡ t.turn
      → Gone u (phase.Releasing a) (record { phase = q; seen = me.seen; taken = false; act = act.Release })
  go_releasing a u q k o f turn =
      let x = f sh s me.taken k.table.locks (record { mine = λ n. subst (λ xs. eqb (get_or xs n 0) i ≡ has s.held n) k.table.locks (k.holds.mine n); order = k.holds.order }) in
      let keeps = keeps_give sh s (after_of a) s.held in (
        choice false false None clock,
        refl,
        tt,
        record {
          table = record { locks = sym x.0; turn = keeps.5 ∙ (k.table.turn ∙ sym turn) };
          rows = subst (stands d b) (sym keeps.4) k.rows;
          draft = no_draft drafts d b _ i me.taken q (ap is_commit x.1 ∙ calm_give sh s (after_of a) s.held);
          rest = rest_keeps (machine.give_back sh s (after_of a) s.held).1 me.seen k.rest (keeps.0, keeps.1, keeps.2) (keeps.3 ∙ k.rest.seen);
          phase = sym x.1;
        },
        o,
        refl,
      )

  pub go_replying : (a : Reply) (q : Phase) → Knows (phase.Replying a) → Written (puts old i a new) (misses old i a new × rose) q
      → Gone t (phase.Replying a) (record { phase = q; seen = me.seen; taken = false; act = act_of_put q })
  go_replying a phase.Ready k o = (
    choice false false None clock,
    refl,
    tt,
    record { table = k.table; rows = k.rows; draft = tt; rest = record { lines = k.rest.lines; line = k.rest.line; faulty = k.rest.faulty; seen = k.rest.seen; within = k.rest.within }; phase = refl },
    o,
    refl,
  )
  go_replying a phase.Ended k o = (
    choice true false None clock,
    refl,
    tt,
    record { table = k.table; rows = k.rows; draft = tt; rest = record { lines = k.rest.lines; line = k.rest.line; faulty = k.rest.faulty; seen = k.rest.seen; within = k.rest.within }; phase = refl },
    o,
    refl,
  )
  go_replying a (phase.Again edit) k o = absurd o
  go_replying a (phase.Locking edit wanted next) k o = absurd o
  go_replying a (phase.Pinning edit) k o = absurd o
  go_replying a (phase.Planning edit) k o = absurd o
  go_replying a (phase.Waiting plan) k o = absurd o
  go_replying a (phase.Checking plan) k o = absurd o
  go_replying a (phase.Committing plan remade) k o = absurd o
  go_replying a (phase.Yielding r) k o = absurd o
  go_replying a (phase.Releasing x) k o = absurd o
  go_replying a (phase.Replying r) k o = absurd o

  pub go_ended : (r : Stepped) → Knows phase.Ended → Gone t phase.Ended r
  go_ended r k = absurd (false≢true k.able)

-- The rows change in the turn.
module _ (asked : List ℕ → Line) (d : Dataset) (b : Base) (sh : machine.Shared) (s : machine.ClientState) (t : Table) (me : Client) (i clock : ℕ)
    (stands stands2 : Dataset → Base → List Entry → Type 0) (drafts drafts2 : Dataset → Base → List Entry → Entry → Type 0) {W : Type 0} (puts misses : W → ℕ → Reply → W → Type 0) (rose : Type 0) (old new : W) where
  pub go_checking : (plan : Plan) (st : Stamp) (l : Looked) → Known asked stands drafts d b sh s t me i (phase.Checking plan) → new ≡ old → stands2 d b sh.log → st.client ≡ i → st.line ≡ me.taken → st.now ≡ clock
      → Checks drafts2 d b sh s st plan.edit plan.changed plan.shown l
      → Goes asked stands2 drafts2 puts misses rose old new d b sh s t me i clock (phase.Checking plan) (record { phase = l.phase; seen = l.seen; taken = false; act = act.Check })
  go_checking plan st l k o rows client line now x =
      let c : machine.Choice = choice false x.0 None clock in
      let same : Same i me.taken l (machine.check d b c i sh s plan.edit plan.changed plan.shown) =
      subst (λ n. Same n me.taken l (machine.check d b c n sh s plan.edit plan.changed plan.shown)) client
      (subst (λ n. Same st.client n l (machine.check d b c st.client sh s plan.edit plan.changed plan.shown)) line
      (subst (λ n. Same st.client st.line l (machine.check d b (choice false x.0 None n) st.client sh s plan.edit plan.changed plan.shown)) now (x.1 false None))) in
      let draft : Drafted drafts2 d b sh.log i me.taken l.phase =
      subst (λ n. Drafted drafts2 d b sh.log n me.taken l.phase) client (subst (λ n. Drafted drafts2 d b sh.log st.client n l.phase) line x.2) in
      let keeps = keeps_check d b sh s c i plan.edit plan.changed plan.shown in (
        c,
        refl,
        tt,
        record {
          table = k.table;
          rows = rows;
          draft = draft;
          rest = record { lines = keeps.0 ∙ k.rest.lines; line = ap length keeps.1 ∙ k.rest.line; faulty = keeps.2 ∙ k.rest.faulty; seen = sym same.1; within = k.rest.within };
          phase = sym same.0;
        },
        o,
        refl,
      )

  pub go_committing : (plan : Plan) (remade : Remade) (l : Looked) → Known asked stands drafts d b sh s t me i (phase.Committing plan remade) → new ≡ old
      → stands2 d b (entry_drafted i me.taken plan remade ∷ sh.log)
      → (phase_of i me.taken l.phase ≡ machine.Yielding (reply.Edited remade.op remade.at remade.retired remade.made plan.shown (suc (length sh.log)))) → l.seen ≡ suc (length sh.log)
      → Goes asked stands2 drafts2 puts misses rose old new d b sh s t me i clock (phase.Committing plan remade) (record { phase = l.phase; seen = l.seen; taken = false; act = act.Commit })
  go_committing plan remade l k o rows e n = (
    choice false false None clock,
    refl,
    tt,
    record {
      table = record { locks = k.table.locks; turn = k.table.turn };
      rows = rows;
      draft = no_draft drafts2 d b _ i me.taken l.phase (ap is_commit e);
      rest = record { lines = k.rest.lines; line = k.rest.line; faulty = k.rest.faulty; seen = sym n; within = k.rest.within };
      phase = sym e;
    },
    o,
    refl,
  )

-- what is made of a phase, of the rows and of the step lasts where they are history by another name
pub carried : {V W : Type 0} (stands : V → Dataset → Base → List Entry → Type 0) (drafts : V → Dataset → Base → List Entry → Entry → Type 0) (asked : List ℕ → Line)
    (puts misses : W → ℕ → Reply → W → Type 0) (rose : Type 0) (old new : W) (d : Dataset) (b : Base) (sh : machine.Shared) (s : machine.ClientState) (t u : Table) (me : Client) (i clock : ℕ)
    (p p2 : Phase) (rows0 rows rows2 : V) (r r2 : Stepped) → p ≡ p2 → rows ≡ rows2 → r ≡ r2
    → (Known asked (stands rows0) (drafts rows0) d b sh s t me i p2 → Goes asked (stands rows2) (drafts rows2) puts misses rose old new d b sh s u me i clock p2 r2)
    → Known asked (stands rows0) (drafts rows0) d b sh s t me i p → Goes asked (stands rows) (drafts rows) puts misses rose old new d b sh s u me i clock p r
carried stands drafts asked puts misses rose old new d b sh s t u me i clock p p2 rows0 rows rows2 r r2 e f h g k =
    subst (λ x. Goes asked (stands rows) (drafts rows) puts misses rose old new d b sh s u me i clock x r) (sym e)
    (subst (λ x. Goes asked (stands x) (drafts x) puts misses rose old new d b sh s u me i clock p2 r) (sym f)
    (subst (Goes asked (stands rows2) (drafts rows2) puts misses rose old new d b sh s u me i clock p2) (sym h) (g (subst (Known asked (stands rows0) (drafts rows0) d b sh s t me i) e k))))

-- the event of a client that takes a line
pub act_ready : (asked : List ℕ → Line) (d : Dataset) (b : Base) (sh : machine.Shared) (s : machine.ClientState) (client line seen : ℕ) (x : Option LineText) (r : Stepped) → Takes asked d b sh s client line seen x r
    → r.act ≡ act_of phase.Ready r.taken r.phase
act_ready asked d b sh s client line seen None r e = subst (λ y. y.act ≡ act_of phase.Ready y.taken y.phase) (sym e) refl
act_ready asked d b sh s client line seen (Some text) r h = h.1 ∙ ap (λ x. act_of phase.Ready x r.phase) (sym h.0)

-- what the table says of a client's locks
pub holds_of : {asked : List ℕ → Line} {stands : Dataset → Base → List Entry → Type 0} {drafts : Dataset → Base → List Entry → Entry → Type 0} {d : Dataset} {b : Base} {sh : machine.Shared} {s : machine.ClientState} {t : Table} {me : Client} {i : ℕ} {p : Phase}
    → Known asked stands drafts d b sh s t me i p → Holds t.locks i s.held
holds_of {s = s} {i = i} k = record { mine = λ n. subst (λ xs. eqb (get_or xs n 0) i ≡ has s.held n) k.table.locks (k.holds.mine n); order = k.holds.order }
