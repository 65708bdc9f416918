-- A core before its first step.
use Rattle.std.proofs.Common.{◌≡◌, ℕ, ◌^◌, ◌<◌, ◌≤◌, List, [], ◌∷◌, length, map, sym, ◌∙◌, ap, subst, arith}
use Rattle.std.specs.List.{AllByRecursion}
use Rattle.std.proofs.lemmas.List.{length-map}
use Rattle.op_model.specs.declared.base.Dataset.{Dataset}
use Rattle.op_model.specs.declared.base.Base.{Base}
use Rattle.session_machine.specs.Machine as machine
use Rattle.pcg_base.specs.declared.reading.StreamEnd.{StreamEnd}
use Rattle.core_steps.specs.declared.cores.Core.{Core}
use Rattle.core_steps.specs.declared.starting.ClientLines.{ClientLines}
use Rattle.core_steps.specs.Starts.{lines_of}
use Rattle.stored_log.specs.declared.logs.StoredLog.{StoredLog}
use Rattle.stored_log.specs.Stored.{asked_line}
use Rattle.stream_lines.specs.declared.reading.StreamLines.{StreamLines}
use Rattle.session_results.specs.Begun.{IsAt, asked_of, client_lines}
use Rattle.session_results.proofs.LineFacts.{clients_asked}

few_lines : (read : List StreamLines) → AllByRecursion (λ r. length r.lines.items < 2 ^ 32) read → AllByRecursion (λ l. length l.lines.items < 2 ^ 32) (map client_lines read)
few_lines [] few = tt
few_lines (r ∷ rs) few = (few.0, few_lines rs few.1)

-- the lines of streams are few, as those of clients
pub lines_few : (read : List StreamLines) (lines : List ClientLines) → lines ≡ map client_lines read → AllByRecursion (λ r. length r.lines.items < 2 ^ 32) read → AllByRecursion (λ l. length l.lines.items < 2 ^ 32) lines
lines_few read lines e few = subst (λ ls. AllByRecursion (λ l. length l.lines.items < 2 ^ 32) ls) (sym e) (few_lines read few)

pub clients_few : (read : List StreamLines) (lines : List ClientLines) → lines ≡ map client_lines read → length read ≤ 64 → length lines ≤ 64
clients_few read lines e few =
    let n = length-map read client_lines in
    subst (λ ls. length ls ≤ 64) (sym e) (omega (arith, n, few))

-- the core is at the start of what the streams ask
pub starts : (d : Dataset) (b : Base) (at : ℕ) (core : Core StoredLog) (read : List StreamLines) (lines : List ClientLines) → lines ≡ map client_lines read → IsAt d b core (machine.start d b at (map (lines_of asked_line) lines))
    → IsAt d b core (machine.start d b at (map asked_of read))
starts d b at core read lines e is =
    subst (λ cs. IsAt d b core (machine.start d b at cs)) (clients_asked read) (subst (λ ls. IsAt d b core (machine.start d b at (map (lines_of asked_line) ls))) e is)

-- it has as many clients as there are streams
pub core_count : (d : Dataset) (b : Base) (at : ℕ) (core : Core StoredLog) (read : List StreamLines) → IsAt d b core (machine.start d b at (map asked_of read)) → length core.clients.items ≡ length read
core_count d b at core read is = sym is.1.count ∙ (length-map (map asked_of read) machine.new_client ∙ length-map read asked_of)

pub ends_count : (read : List StreamLines) (ends : List StreamEnd) → ends ≡ map (λ r. r.end) read → length ends ≡ length read
ends_count read ends e = ap length e ∙ length-map read (λ r. r.end)
