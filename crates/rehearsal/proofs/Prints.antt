-- What is printed, piece by piece.
use Rattle.std.proofs.Common.{◌≡◌, ◌≤◌, ℕ, ◌-◌, List, [], ◌∷◌, ◌++◌, length, Option, Some, None, sym, ◌∙◌, ap, subst, arith, inl, inr, append_assoc}
use Rattle.std.specs.Io.KnownBytes.{Appends}
use Rattle.std.proofs.KnownBytes.{Appends-trans}
use Rattle.op_model.specs.declared.base.Dataset.{Dataset}
use Rattle.op_model.specs.declared.base.Base.{Base}
use Rattle.op_model.specs.declared.entry.Entry.{Entry}
use Rattle.op_model.specs.Legal.{Legal}
use Rattle.op_model.specs.Records.{records}
use Rattle.histories.specs.Histories.{live_roots}
use Rattle.pcg_base.specs.Causes.{Rose}
use Rattle.pcg_base.specs.States.{SinkState}
use Rattle.pcg_base.specs.Told.{AppendsFront}
use Rattle.log_lines.specs.declared.writing.LogCounts.{LogCounts}
use Rattle.log_lines.specs.LogTexts.{Counts, log_text}
use Rattle.call_lines.specs.declared.status.Status.{Status}
use Rattle.call_lines.specs.declared.status.Status.TheVariants as statuses
use Rattle.call_lines.specs.Statuses.{code}
use Rattle.call_lines.specs.declared.summary.ClientFault.{ClientFault}
use Rattle.call_lines.specs.declared.summary.Summary.{Summary}
use Rattle.call_lines.specs.Texts.{summary_line, summary_text}
use Rattle.session_results.specs.Results.{status_for}
use Rattle.rehearsal.specs.Outcomes.{Printed, at_fault}
use Rattle.rehearsal.specs.Printing.{Sums, whole_text}

pub never_zero : {A : Type 0} (ended : Status) → at_fault ended ≡ statuses.Done → A
unfolding at_fault
never_zero statuses.Done e = absurd cc
never_zero statuses.BadWords e = absurd cc
never_zero statuses.ReadFault e = absurd cc
never_zero statuses.BadInput e = absurd cc
never_zero statuses.WriteFault e = absurd cc
never_zero statuses.NoMemory e = absurd cc
never_zero statuses.Full e = absurd cc
never_zero statuses.TooLong e = absurd cc

-- a front of a text behind another one
pub front_then : (a b c : Option (List ℕ)) (xs ys : List ℕ) → Appends a b xs → AppendsFront b c ys → AppendsFront a c (xs ++ ys)
front_then None b c xs ys p q = tt
front_then (Some x) None c xs ys p q = absurd p
front_then (Some x) (Some y) None xs ys p q = absurd q
front_then (Some x) (Some y) (Some z) xs ys p q =
    (xs ++ q.0, q.1, ap (λ t. xs ++ t) q.2 ∙ sym (append_assoc xs q.0 q.1), q.3 ∙ ap (λ t. t ++ q.0) p ∙ append_assoc x xs q.0)

-- and one of the other one
pub front_of : (a c : Option (List ℕ)) (xs ys : List ℕ) → AppendsFront a c xs → AppendsFront a c (xs ++ ys)
front_of None c xs ys q = tt
front_of (Some x) None xs ys q = absurd q
front_of (Some x) (Some z) xs ys q = (q.0, q.1 ++ ys, ap (λ t. t ++ ys) q.2 ∙ append_assoc q.0 q.1 ys, q.3)

-- a summary's text
summed : (d : Dataset) (b : Base) (log : List Entry) (clients : ℕ) (counts : LogCounts) (faults : List ClientFault) (lines refused : ℕ) (s : Summary) → Counts d b log counts → Sums clients counts faults lines refused s
    → summary_text s ≡ summary_line (length log - 1) clients (length log) faults lines (records d b log) refused (length (live_roots log)) (code (status_for faults))
summed d b log clients counts faults lines refused s c h =
    ap (λ n. summary_line n s.clients s.entries s.faults.items s.lines s.records s.refused s.roots (code s.status)) (h.accepted ∙ ap (λ n. n - 1) c.entries)
    ∙ ap (λ n. summary_line (length log - 1) n s.entries s.faults.items s.lines s.records s.refused s.roots (code s.status)) h.clients_so
    ∙ ap (λ n. summary_line (length log - 1) clients n s.faults.items s.lines s.records s.refused s.roots (code s.status)) (h.entries ∙ c.entries)
    ∙ ap (λ fs. summary_line (length log - 1) clients (length log) fs s.lines s.records s.refused s.roots (code s.status)) h.faults_so
    ∙ ap (λ n. summary_line (length log - 1) clients (length log) faults n s.records s.refused s.roots (code s.status)) h.lines_so
    ∙ ap (λ n. summary_line (length log - 1) clients (length log) faults lines n s.refused s.roots (code s.status)) (h.records ∙ c.records)
    ∙ ap (λ n. summary_line (length log - 1) clients (length log) faults lines (records d b log) n s.roots (code s.status)) h.refused_so
    ∙ ap (λ n. summary_line (length log - 1) clients (length log) faults lines (records d b log) refused n (code s.status)) (h.roots ∙ c.roots)
    ∙ ap (λ n. summary_line (length log - 1) clients (length log) faults lines (records d b log) refused (length (live_roots log)) (code n)) h.status

-- a text behind one that was printed
behind : (a b c : SinkState) (xs ys : List ℕ) (ended status : Status) → Appends a.held b.held xs → b.faults ≡ a.faults → Printed b c ys ended status → Printed a c (xs ++ ys) ended status
behind a b c xs ys ended status p e (inl h) = inl (Appends-trans a.held b.held c.held xs ys p h.0, h.1 ∙ e, h.2)
behind a b c xs ys ended status p e (inr (inl h)) = inr (inl (front_then a.held b.held c.held xs ys p h.0, subst (λ n. Rose n c.faults) e h.1, h.2))
behind a b c xs ys ended status p e (inr (inr h)) = inr (inr (front_then a.held b.held c.held xs ys p h.0, h.1 ∙ e, h.2))

pub all_printed : (d : Dataset) (b : Base) (log : List Entry) (clients : ℕ) (counts : LogCounts) (faults : List ClientFault) (lines refused : ℕ) (s : Summary) (old mid new : SinkState) (status : Status)
    → Counts d b log counts → Sums clients counts faults lines refused s → Appends old.held mid.held (log_text log) → mid.faults ≡ old.faults → Printed mid new (summary_text s) s.status status
    → Printed old new (whole_text d b log clients faults lines refused) (status_for faults) status
all_printed d b log clients counts faults lines refused s old mid new status c h p e q =
    let text = summary_line (length log - 1) clients (length log) faults lines (records d b log) refused (length (live_roots log)) (code (status_for faults)) in
    let t : summary_text s ≡ text = summed d b log clients counts faults lines refused s c h in
    let q2 : Printed mid new text s.status status = subst (λ x. Printed mid new x s.status status) t q in
    behind old mid new (log_text log) text (status_for faults) status p e (subst (λ n. Printed mid new text n status) h.status q2)

-- an entry at least
pub some_entry : (d : Dataset) (b : Base) (log : List Entry) (counts : LogCounts) → Legal d b log → Counts d b log counts → 1 ≤ counts.entries
some_entry d b [] counts l c = absurd l
some_entry d b (e ∷ log) counts l c = omega (arith, c.entries)
