use Rattle.std.proofs.Common.{◌≡◌, List, [], ◌∷◌, ◌++◌, rules, subst, sym}
use Rattle.memory_devices.specs.declared.kept.Kept.{Kept}
use Rattle.memory_devices.specs.Kept.{Changes}
use Rattle.memory_devices.proofs.Entries.{push_new}
use Rattle.memory_devices.proofs.kept.push_entry.Goals as goal

pub returns-clause-changes : goal.returns-clause-changes
returns-clause-changes c =
    let pushed : c.push.new.self.items ≡ c.args.kept.now.items ++ c.args.entry ∷ [] = search rules in
    let P : List Kept → Type 0 = λ ks. Changes c.args.name.now c.args.entry c.args.kept.now.items ks in
    subst P (sym pushed) (push_new c.args.name.now c.args.kept.now.items c.args.entry c.requires.none c.requires.named)
