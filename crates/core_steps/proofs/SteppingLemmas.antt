-- One step of one client.
use Rattle.std.proofs.Common.{◌≡◌, ℕ, ◌-◌, true, List, length, map, drop, refl, ◌∙◌, ap, subst}
use Rattle.std.proofs.lemmas.List.{length-drop, length-map}
use Rattle.op_model.specs.declared.base.Dataset.{Dataset}
use Rattle.op_model.specs.declared.base.Base.{Base}
use Rattle.op_model.specs.declared.entry.Entry.{Entry}
use Rattle.op_model.specs.Transcript.{Line}
use Rattle.session_machine.specs.Machine as machine
use Rattle.session_machine.specs.Invariant.{ClientLocks, ClientHistory, HoldsFor}
use Rattle.client_events.specs.declared.phases.Phase.{Phase}
use Rattle.client_events.specs.declared.phases.Phase.TheVariants as phase
use Rattle.client_events.specs.declared.clients.Client.{Client}
use Rattle.client_events.specs.declared.clients.Table.{Table}
use Rattle.client_events.specs.Phases.{line_of, phase_of}
use Rattle.client_events.specs.Steps.{Known}
use Rattle.core_steps.specs.Ways.{NextBelow}
use Rattle.core_steps.specs.Stepping.{Placed}

-- a lock that is waited for is one of the table
next_of : (held : List ℕ) (i line : ℕ) (p : Phase) → HoldsFor held (phase_of i line p) → NextBelow p
next_of held i line (phase.Locking edit wanted next) h = h.2.0
next_of held i line phase.Ready h = tt
next_of held i line (phase.Again edit) h = tt
next_of held i line (phase.Pinning edit) h = tt
next_of held i line (phase.Planning edit) h = tt
next_of held i line (phase.Waiting plan) h = tt
next_of held i line (phase.Checking plan) h = tt
next_of held i line (phase.Committing plan remade) h = tt
next_of held i line (phase.Yielding r) h = tt
next_of held i line (phase.Releasing a) h = tt
next_of held i line (phase.Replying r) h = tt
next_of held i line phase.Ended h = tt

map_length : {X Y : Type 0} (f : X → Y) (xs : List X) → length (map f xs) ≡ length xs
map_length f xs = simp length-map refl

module _ {asked : List ℕ → Line} {stands : Dataset → Base → List Entry → Type 0} {drafts : Dataset → Base → List Entry → Entry → Type 0} {d : Dataset} {b : Base} {sh : machine.Shared} {s : machine.ClientState} {t : Table} {me : Client} {i : ℕ} where
  pub next_below : Placed asked stands drafts d b sh s t me i → NextBelow me.phase
  next_below k = next_of s.held i me.taken me.phase (subst (HoldsFor s.held) k.client.phase k.holds.holds)

  pub lines_left : Placed asked stands drafts d b sh s t me i → length s.lines ≡ length me.lines.items - me.taken
  lines_left k = ap length k.client.rest.lines ∙ (map_length (line_of asked) (drop me.taken me.lines.items) ∙ length-drop me.taken me.lines.items)

  pub known_of : Placed asked stands drafts d b sh s t me i → machine.is_able sh s (phase_of i me.taken me.phase) ≡ true → Known asked stands drafts d b sh s t me i me.phase
  known_of k able =
      record {
        dataset = k.dataset;
        legal = k.legal;
        holds = subst (ClientLocks sh i s) k.client.phase k.holds;
        history = subst (ClientHistory d b sh.log i s) k.client.phase k.history;
        table = k.table;
        locks = k.locks;
        rows = k.rows;
        draft = k.client.draft;
        rest = k.client.rest;
        able = able;
      }
