-- What goes on at a seat, by what its client knows.
use Rattle.std.proofs.Common.{◌≡◌, ℕ, ◌<◌, List, ◌++◌, length, length-append, ap, arith}
use Rattle.op_model.specs.declared.base.Dataset.{Dataset}
use Rattle.op_model.specs.declared.entry.Entry.{Entry}
use Rattle.op_model.specs.declared.reply.Reply.{Reply}
use Rattle.op_model.specs.declared.reply.Reply.TheVariants as reply
use Rattle.op_model.specs.declared.request.Edit.{Edit}
use Rattle.op_model.specs.declared.request.Read.{Read}
use Rattle.shared_rows.specs.declared.view.View.{View}
use Rattle.shared_rows.specs.Known.{Known, Place}
use Rattle.shared_rows.specs.Logs.{Extends}
use Rattle.edit_desk.specs.Desk.{Edits as EditsAt, IsReady, Reads as ReadsAt, Stays, Went}
use Rattle.desks.specs.Desks.{Edits, Goes, Keeps, Reads}
use Rattle.desks.specs.Seats.{IsOpen, known_by}

-- a log that grew has an entry
still_some : (log seen : List Entry) → Extends log seen → 0 < length seen → 0 < length log
still_some log seen e s =
    let n : length log ≡ length (e.newer ++ seen) = ap length e.is in
    let m = length-append e.newer seen in
    omega (arith, n, m, s)

pub goes : (v w : View) → 0 < length v.log → Went v w → Goes (known_by v) (known_by w)
goes v w s f = record { client_is = f.number_is; dataset_is = f.dataset_is; base_is = f.base_is; seen = f.seen; some = still_some w.log v.log f.seen s }

keeps : (v w : View) → 0 < length v.log → Stays v w → Keeps (known_by v) (known_by w)
keeps v w s f = record { goes = goes v w s f.went; own_is = f.own_is }

pub reads : (v w : View) (q : Read) (r : Reply) → 0 < length v.log → ReadsAt v q r w → Reads (known_by v) q r (known_by w)
reads v w q r s f = (keeps v w s f.0, f.2)

pub edits : (v w : View) (edit : Edit) (line : ℕ) (r : Reply) → 0 < length v.log → EditsAt v edit line r w → Edits (known_by v) edit line r (known_by w)
edits v w edit line (reply.Edited op at retired made shown seen) s h = (
  goes v w s h.0,
  (let p = h.1 in record {
    log = p.log;
    clock = p.clock;
    grown = p.grown;
    allowed = p.allowed;
    at_is = p.at_is;
    log_is = p.log_is;
    own_is = p.own_is;
    op_is = p.op_is;
    retired_is = p.retired_is;
    made_is = p.made_is;
    shows = p.shows;
    seen_is = p.seen_is;
  }),
)
edits v w edit line (reply.Refused r seen) s h = (keeps v w s h.0, h.1, h.2)
edits v w edit line reply.NoMemory s h = keeps v w s h
edits v w edit line (reply.Root root seen) s h = absurd h
edits v w edit line (reply.Path nodes seen) s h = absurd h
edits v w edit line (reply.Leaves leaves seen) s h = absurd h
edits v w edit line (reply.Changes ops seen) s h = absurd h
edits v w edit line (reply.BadLine error) s h = absurd h

-- it may ask again
pub open_still : (shared : Place) (d : Dataset) (p q : Known) → IsOpen shared d p → IsReady shared d q → Went p.view q.view → IsOpen shared d q
open_still shared d p q o r w = record { ready = r; some = still_some q.view.log p.view.log w.seen o.some }
