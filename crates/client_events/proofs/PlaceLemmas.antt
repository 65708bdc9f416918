-- One event of one client, in its place.
use Rattle.std.proofs.Common.{ℕ, List}
use Rattle.op_model.specs.declared.base.Dataset.{Dataset}
use Rattle.op_model.specs.declared.base.Base.{Base}
use Rattle.op_model.specs.declared.entry.Entry.{Entry}
use Rattle.op_model.specs.declared.reply.Reply.{Reply}
use Rattle.op_model.specs.Transcript.{Line}
use Rattle.session_machine.specs.Machine as machine
use Rattle.client_events.specs.declared.phases.Phase.{Phase}
use Rattle.client_events.specs.declared.clients.Client.{Client}
use Rattle.client_events.specs.declared.clients.Table.{Table}
use Rattle.client_events.specs.declared.events.Stepped.{Stepped}
use Rattle.client_events.specs.Steps.{Goes, Known, taken_after}
use Rattle.client_events.specs.Acts.{Acts}

-- what is known of a client doesn't look at the phase that stands in its place
pub known_replaced : {asked : List ℕ → Line} {stands : Dataset → Base → List Entry → Type 0} {drafts : Dataset → Base → List Entry → Entry → Type 0} {d : Dataset} {b : Base} {sh : machine.Shared} {s : machine.ClientState} {t : Table} {i : ℕ} {p : Phase}
    → (me : Client) (q : Phase) → Known asked stands drafts d b sh s t me i p → Known asked stands drafts d b sh s t (record me { phase = q }) i p
known_replaced me q k = record { dataset = k.dataset; legal = k.legal; holds = k.holds; history = k.history; table = k.table; locks = k.locks; rows = k.rows; draft = k.draft; rest = k.rest; able = k.able }

-- what an event came to is put into the client's place
pub settled : {W : Type 0} (asked : List ℕ → Line) (stands : Dataset → Base → List Entry → Type 0) (drafts : Dataset → Base → List Entry → Entry → Type 0)
    (puts misses : W → ℕ → Reply → W → Type 0) (rose : Type 0) (old new : W) (d : Dataset) (b : Base) (sh : machine.Shared) (s : machine.ClientState) (t : Table) (i clock : ℕ)
    (me : Client) (q : Phase) (r : Stepped) → Goes asked stands drafts puts misses rose old new d b sh s t (record me { phase = q }) i clock me.phase r
    → Acts asked stands drafts puts misses rose old new d b sh s t me (record me { taken = taken_after me r; phase = r.phase; seen = r.seen }) i clock r.act
settled asked stands drafts puts misses rose old new d b sh s t i clock me q r g =
    (g.0, g.1, g.2, (g.3.table, g.3.rows, record { rest = g.3.rest; phase = g.3.phase; draft = g.3.draft }), g.4, g.5)
