use Rattle.std.proofs.Common.{◌≡◌, IfOk, ap, sym, ◌∙◌, subst}
use Rattle.memory_devices.specs.Kept.{fails_of, fails_at}
use Rattle.memory_devices.specs.Sinks as sinks
use Rattle.memory_devices.proofs.Entries.{entry_at}
use Rattle.memory_devices.proofs.mem_place.sink_at.Goals as goal

pub returns-clause-fails : goal.returns-clause-fails
returns-clause-fails c =
    let at = entry_at c.args.name.now c.args.kept.now c.in-Some.i c.index-kept-i.result c.in-Some.ensures.found in
    let same : c.in-Ok.fails.items ≡ (fails_at c.args.name.now c.args.kept.now).writes = c.in-Ok.ensures.items ∙ c.as_slice.ensures.value ∙ sym (ap (λ o. (fails_of o).writes) at.0) in
    subst (λ xs. IfOk c.with_flush_fails.result (λ k. sinks.fails_of k ≡ xs)) same c.with_flush_fails.ensures.fails

pub returns-clause-flush_fails : goal.returns-clause-flush_fails
returns-clause-flush_fails c =
    let at = entry_at c.args.name.now c.args.kept.now c.in-Some.i c.index-kept-i.result c.in-Some.ensures.found in
    let same : c.in-Ok-from_slice.flush_fails.items ≡ (fails_at c.args.name.now c.args.kept.now).flushes = c.in-Ok-from_slice.ensures.items ∙ c.as_slice-2.ensures.value ∙ sym (ap (λ o. (fails_of o).flushes) at.0) in
    subst (λ xs. IfOk c.with_flush_fails.result (λ k. sinks.flush_fails_of k ≡ xs)) same c.with_flush_fails.ensures.flush_fails
