-- What looks come to.
use Rattle.std.specs.List.{list_all, list_any}
use Rattle.std.proofs.Common.{◌≡◌, ℕ, Bool, true, false, not, ◌&&◌, ◌||◌, eqb, get_or, List, [], ◌∷◌, length, refl, sym, ◌∙◌, ap, subst, Some, None}
use Rattle.op_model.specs.declared.base.Dataset.{Dataset}
use Rattle.op_model.specs.declared.base.Base.{Base}
use Rattle.op_model.specs.declared.request.Edit.{Edit}
use Rattle.op_model.specs.declared.reply.Refusal.{Refusal}
use Rattle.op_model.specs.declared.reply.Reply.TheVariants as reply
use Rattle.op_model.specs.Operations.{touched}
use Rattle.op_model.specs.Refusals.{refuse_early}
use Rattle.op_model.specs.Locks.{locks_of}
use Rattle.session_machine.specs.Machine as machine
use Rattle.client_events.specs.declared.phases.Phase.{Phase}
use Rattle.client_events.specs.declared.phases.Phase.TheVariants as phase
use Rattle.graph_model.specs.Lists.{has}
use Rattle.op_model.specs.Transcript.{Line}
use Rattle.client_events.specs.declared.phases.Looked.{Looked}
use Rattle.client_events.specs.declared.phases.After.TheVariants as after
use Rattle.client_events.specs.Masks.{numbers, are_held}
use Rattle.client_events.specs.Phases.{phase_of}
use Rattle.client_events.specs.Events.{Same, LineRead, Holds, pinned_phase}

-- an edit that isn't refused goes on to its locks
pub looked_locks : (d : Dataset) (b : Base) (sh : machine.Shared) (s : machine.ClientState) (edit : Edit) (mask seen client line : ℕ) (p : Phase)
    → refuse_early d b sh.log edit ≡ None → locks_of d.layout (touched d b sh.log edit) ≡ numbers mask 0 → seen ≡ length sh.log
    → phase_of client line p ≡ machine.locking edit (numbers mask 0)
    → Same client line (record { phase = p; seen = seen }) (machine.looked d b sh s edit (refuse_early d b sh.log edit))
looked_locks d b sh s edit mask seen client line p e l n q =
    subst (λ r. Same client line (record { phase = p; seen = seen }) (machine.looked d b sh s edit r)) (sym e)
    (q ∙ ap (machine.locking edit) (sym l), n)

-- one that is refused is answered so
pub looked_refused : (d : Dataset) (b : Base) (sh : machine.Shared) (s : machine.ClientState) (edit : Edit) (r : Refusal) (seen client line : ℕ)
    → refuse_early d b sh.log edit ≡ Some r → seen ≡ length sh.log
    → Same client line (record { phase = phase.Replying (reply.Refused r seen); seen = seen }) (machine.looked d b sh s edit (refuse_early d b sh.log edit))
looked_refused d b sh s edit r seen client line e n =
    subst (λ x. Same client line (record { phase = phase.Replying (reply.Refused r seen); seen = seen }) (machine.looked d b sh s edit x)) (sym e)
    (ap (λ k. machine.Replying (reply.Refused r k)) n, n)

-- a look at a line is one at what the line asks
pub line_read : (d : Dataset) (b : Base) (sh : machine.Shared) (s : machine.ClientState) (client line : ℕ) (a c : Line) (l : Looked) → a ≡ c → LineRead d b sh s client line c l → LineRead d b sh s client line a l
line_read d b sh s client line a c l e h = subst (λ x. LineRead d b sh s client line x l) (sym e) h

-- what the table says of these locks is what the client holds of them
held_same : (locks : List ℕ) (client : ℕ) (held ns : List ℕ) → Holds locks client held → are_held locks client ns ≡ machine.holds_all held ns
unfolding are_held machine.holds_all
held_same locks client held [] o = refl
held_same locks client held (n ∷ ns) o = go (has held n) (o.mine n) (held_same locks client held ns o)
  where
    go : (t : Bool) → eqb (get_or locks n 0) client ≡ t → list_all (λ m. eqb (get_or locks m 0) client) ns ≡ not (list_any (λ m. not (has held m)) ns)
        → (eqb (get_or locks n 0) client && list_all (λ m. eqb (get_or locks m 0) client) ns) ≡ not (not t || list_any (λ m. not (has held m)) ns)
    go true e ih = rw e ih
    go false e ih = rw e refl

-- an edit that isn't refused is pinned where the client holds its locks
pub pin_locks : (d : Dataset) (b : Base) (sh : machine.Shared) (s : machine.ClientState) (edit : Edit) (locks : List ℕ) (mask seen client line : ℕ) (p : Phase)
    → refuse_early d b sh.log edit ≡ None → locks_of d.layout (touched d b sh.log edit) ≡ numbers mask 0 → seen ≡ length sh.log → Holds locks client s.held
    → phase_of client line p ≡ pinned_phase edit (are_held locks client (numbers mask 0))
    → Same client line (record { phase = p; seen = seen }) (machine.pin d b sh s edit)
pin_locks d b sh s edit locks mask seen client line p e l n o q =
    subst (λ r. Same client line (record { phase = p; seen = seen }) (machine.pinned_at d b sh s edit r (machine.holds_all s.held (locks_of d.layout (touched d b sh.log edit))))) (sym e)
    (go (machine.holds_all s.held (locks_of d.layout (touched d b sh.log edit))) (q ∙ ap (pinned_phase edit) (held_same locks client s.held (numbers mask 0) o ∙ ap (machine.holds_all s.held) (sym l))))
  where
    go : (t : Bool) → phase_of client line p ≡ pinned_phase edit t → Same client line (record { phase = p; seen = seen }) (machine.pinned_at d b sh s edit None t)
    go true k = (k, n)
    go false k = (k, n)

-- one that is refused is answered so
pub pin_refused : (d : Dataset) (b : Base) (sh : machine.Shared) (s : machine.ClientState) (edit : Edit) (r : Refusal) (seen client line : ℕ)
    → refuse_early d b sh.log edit ≡ Some r → seen ≡ length sh.log
    → Same client line (record { phase = phase.Releasing (after.Answer (reply.Refused r seen)); seen = seen }) (machine.pin d b sh s edit)
pin_refused d b sh s edit r seen client line e n =
    subst (λ x. Same client line (record { phase = phase.Releasing (after.Answer (reply.Refused r seen)); seen = seen }) (machine.pinned_at d b sh s edit x (machine.holds_all s.held (locks_of d.layout (touched d b sh.log edit))))) (sym e)
    (ap (λ k. machine.Releasing (machine.Answer (reply.Refused r k))) n, n)
