use Rattle.std.proofs.Common.{◌≡◌, rules, Some, None, ap, sym, ◌∙◌}
use Rattle.memory_devices.specs.Kept.{bytes_of, entry_of}
use Rattle.memory_devices.proofs.Entries.{entry_at}
use Rattle.memory_devices.proofs.Maps.{got}
use Rattle.memory_devices.proofs.mem_place.MemPlace.bytes_at.Goals as goal

pub returns-in_default : goal.returns-in_default
returns-in_default c =
    let none : entry_of c.args.name.now c.args.self.now.kept.items ≡ None = search rules in
    sym (got c.args.name.now c.args.self.now.kept.items ∙ ap bytes_of none)

pub returns : goal.returns
returns c =
    let at = entry_at c.args.name.now c.args.self.now.kept.items c.in-Some.i c.index.result.now (search rules) in
    ap Some c.as_slice.ensures.value ∙ ap (λ k. Some k.file.bytes.items) c.index.ensures ∙ sym (got c.args.name.now c.args.self.now.kept.items ∙ ap bytes_of at.0)
