use Rattle.std.proofs.Common.{◌≡◌, rules, None, ap, sym, ◌∙◌}
use Rattle.memory_devices.specs.Kept.{sink_faults_of, entry_of}
use Rattle.memory_devices.proofs.Entries.{entry_at}
use Rattle.memory_devices.proofs.mem_place.MemPlace.sink_faults_at.Goals as goal

pub returns-in_default : goal.returns-in_default
returns-in_default c =
    let none : entry_of c.args.name.now c.args.self.now.kept.items ≡ None = search rules in
    sym (ap sink_faults_of none)

pub returns : goal.returns
returns c =
    let at = entry_at c.args.name.now c.args.self.now.kept.items c.in-Some.i c.index.result.now (search rules) in
    ap (λ k. k.sink_faults) c.index.ensures ∙ sym (ap sink_faults_of at.0)
