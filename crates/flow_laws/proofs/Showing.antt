-- What shows an edit that isn't refused, and the choice that has it.
use Rattle.std.proofs.Common.{◌≡◌, ℕ, zero, suc, ◌+◌, ◌-◌, ◌<◌, ◌≤◌, List, [], ◌∷◌, length, drop, refl, sym, ◌∙◌, arith, Option, Some, None}
use Rattle.std.specs.Option.{option_map_or}
use Rattle.op_model.specs.declared.base.Dataset.{Dataset}
use Rattle.op_model.specs.declared.base.Base.{Base}
use Rattle.op_model.specs.declared.base.Edge.{Edge}
use Rattle.op_model.specs.declared.request.Edit.{Edit}
use Rattle.op_model.specs.declared.request.Edit.TheVariants.{Merge, Split, Undo, Redo}
use Rattle.op_model.specs.declared.entry.Entry.{Entry}
use Rattle.op_model.specs.declared.entry.Shown.{Shown}
use Rattle.op_model.specs.declared.reply.Refusal.TheVariants.{Glued}
use Rattle.graph_model.specs.Wires.{Wire, EndsBelow}
use Rattle.graph_model.specs.Cuts.{Separates, is_affinity, first_open}
use Rattle.graph_model.proofs.FirstOpen.{some_none, glue_separates}
use Rattle.op_model.specs.Cuts.{part, links_of, least_cut, cut_weight, IsShown, Shows}
use Rattle.op_model.specs.Refusals.{refuse_cut}
use Rattle.op_model.specs.Legal.{Legal}
use Rattle.op_model.specs.Valid.{IsBase}
use Rattle.op_model.specs.Transcript.{log_at}
use Rattle.op_model.proofs.LegalLemmas.{first_none}
use Rattle.op_model.proofs.OrderLemmas.{part_ascends}
use Rattle.op_model.proofs.ShownLemmas.{flow_shows}
use Rattle.session_machine.specs.Machine.{Choice, ClientState, State, Phase, Ready, Again, Locking, Pinning, Planning, Waiting, Checking, Committing, Yielding, Releasing, Replying, Ended, IsAllowed, IsAllowedAt}
use Rattle.session_machine.specs.Invariant.{LogAgrees}
use Rattle.std.specs.Prelude.{slice_get}
use Rattle.flow_laws.proofs.Greatest.{exists}

-- a number above all ends
above : List Wire → ℕ
above [] = 0
above (w ∷ ws) = suc (w.a + w.b) + above ws

ends_below : (ws : List Wire) → EndsBelow (above ws) ws
unfolding above
ends_below [] k l = absurd (omega arith)
ends_below (w ∷ ws) zero l = (omega arith, omega arith)
ends_below (w ∷ ws) (suc k) l = let h = ends_below ws k (omega arith) in (omega arith, omega arith)

module _ (d : Dataset) (b : Base) (base : IsBase d b) where
  -- where no glue joins the marks, the affinities of the part separate them
  glue_apart : (log : List Entry) (sources sinks : List ℕ) → refuse_cut d b log (Split sources sinks) ≡ None
      → Separates (links_of (part d b log sources)) sources sinks (is_affinity (links_of (part d b log sources)))
  unfolding refuse_cut
  glue_apart log sources sinks h = glue_separates links sources sinks (none (first_open links (is_affinity links) sources sinks) (first_none _ _ (first_none _ _ h).1).0)
    where
      links : List Wire
      links = links_of (part d b log sources)

      none : (o : Option (ℕ × ℕ)) → option_map_or (λ m. Some (Glued m.0 m.1)) o None ≡ None → o ≡ None
      none None e = refl
      none (Some m) e = cc

  split_shown : (log : List Entry) (sources sinks : List ℕ) → Legal d b log → refuse_cut d b log (Split sources sinks) ≡ None
      → (s : Shown) × IsShown (part d b log sources) sources sinks s
  unfolding cut_weight least_cut
  split_shown log sources sinks legal h =
      let p : List Edge = part d b log sources in
      let ws : List Wire = links_of p in
      let (fs, len, flow, equal) = exists (above ws) ws sources sinks (is_affinity ws) (ends_below ws) (glue_apart log sources sinks h) in
      let up = part_ascends d b base log sources legal in
      (_, flow_shows (above ws) p sources sinks fs up.0 up.1 (ends_below ws) flow equal)

  pub edit_shown : (log : List Entry) (edit : Edit) → Legal d b log → refuse_cut d b log edit ≡ None → (shown : Option Shown) × Shows d b log edit shown
  edit_shown log (Merge pairs) legal h = (None, refl)
  edit_shown log (Undo n) legal h = (None, refl)
  edit_shown log (Redo n) legal h = (None, refl)
  edit_shown log (Split sources sinks) legal h = let (s, i) = split_shown log sources sinks legal h in (Some s, i)

  older_legal : (log : List Entry) (i : ℕ) → Legal d b log → i < length log → Legal d b (drop i log)
  older_legal [] i g l = absurd g
  older_legal (e ∷ log) zero g l = g
  older_legal (e ∷ []) (suc i) g l = absurd (omega arith)
  older_legal (e ∷ f ∷ log) (suc i) g l = older_legal (f ∷ log) i g.1 (omega arith)

  at_legal : (log : List Entry) (k : ℕ) → Legal d b log → 1 ≤ k → k ≤ length log → Legal d b (log_at d b log k)
  unfolding log_at
  at_legal log k legal l m = older_legal log (length log - k) legal (omega arith)

  pub choice_exists : (w : State) → LogAgrees d b w → (k : ℕ) (c : Choice) → (shown : Option Shown) × IsAllowedAt d b (record c { shown = shown }) w.shared (slice_get w.clients k)
  choice_exists w o k c = go (slice_get w.clients k) refl
    where
      at : (s : ClientState) (p : Phase) → 1 ≤ s.seen → s.seen ≤ length w.shared.log → (shown : Option Shown) × IsAllowed d b (record c { shown = shown }) w.shared s p
      at s (Planning edit) l m = planned (refuse_cut d b (log_at d b w.shared.log s.seen) edit) refl
        where
          planned : (r : Option _) → refuse_cut d b (log_at d b w.shared.log s.seen) edit ≡ r → (shown : Option Shown) × IsAllowed d b (record c { shown = shown }) w.shared s (Planning edit)
          planned None e = let (x, i) = edit_shown (log_at d b w.shared.log s.seen) edit (at_legal w.shared.log s.seen o.legal l m) e in (x, λ q g. i)
          planned (Some r) e = (None, λ q g. absurd (some_none (sym e ∙ g)))
      at s Ready l m = (None, tt)
      at s (Again edit) l m = (None, tt)
      at s (Locking edit n ns) l m = (None, tt)
      at s (Pinning edit) l m = (None, tt)
      at s (Waiting edit changed shown) l m = (None, tt)
      at s (Checking edit changed shown) l m = (None, tt)
      at s (Committing edit shown e) l m = (None, tt)
      at s (Yielding r) l m = (None, tt)
      at s (Releasing a) l m = (None, tt)
      at s (Replying r) l m = (None, tt)
      at s Ended l m = (None, tt)

      go : (s : Option ClientState) → slice_get w.clients k ≡ s → (shown : Option Shown) × IsAllowedAt d b (record c { shown = shown }) w.shared s
      go None e = (None, tt)
      go (Some s) e = let h = o.clients k s e in at s s.phase h.seen.0 h.seen.1
