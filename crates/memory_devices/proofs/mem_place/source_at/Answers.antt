use Rattle.std.proofs.Common.{Some, ap, sym, ◌∙◌}
use Rattle.memory_devices.specs.Kept.{bytes_of, fails_of}
use Rattle.memory_devices.proofs.Entries.{entry_at}
use Rattle.memory_devices.proofs.Maps.{got}
use Rattle.memory_devices.proofs.mem_place.source_at.Goals as goal

pub returns-clause-left : goal.returns-clause-left
returns-clause-left c =
    let at = entry_at c.args.name.now c.args.kept.now c.args.i c.index-kept-i.result c.requires.first in
    got c.args.name.now c.args.kept.now ∙ ap bytes_of at.0
    ∙ ap Some (sym (c.new.ensures.left ∙ c.in-Ok.ensures.items ∙ c.as_slice.ensures.value))

pub returns-clause-fails : goal.returns-clause-fails
returns-clause-fails c =
    let at = entry_at c.args.name.now c.args.kept.now c.args.i c.index-kept-i.result c.requires.first in
    c.new.ensures.fails ∙ c.in-Ok-from_slice.ensures.items ∙ c.as_slice-2.ensures.value
    ∙ sym (ap (λ o. (fails_of o).reads) at.0)
