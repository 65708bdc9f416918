use Rattle.std.proofs.Common.{rules, ◌≡◌, ◌++◌, ◌∷◌, [], string_bytes}
use Rattle.memory_devices.proofs.Entries.{missed_here, missed_elsewhere}
use Rattle.memory_devices.proofs.mem_place.MemPlace.miss.Goals as goal

pub returns-clause-here : goal.returns-clause-here
returns-clause-here c is =
    let named : string_bytes c.in-Ok.text ≡ c.args.name.now = search rules in
    let more : c.push.new.self.items ≡ c.args.self.now.missed.items ++ c.in-Ok.text ∷ [] = search rules in
    missed_here c.args.name.now c.args.self.now.missed.items c.push.new.self.items c.in-Ok.text more named

pub returns-clause-elsewhere : goal.returns-clause-elsewhere
returns-clause-elsewhere c n apart =
    let named : string_bytes c.in-Ok.text ≡ c.args.name.now = search rules in
    let more : c.push.new.self.items ≡ c.args.self.now.missed.items ++ c.in-Ok.text ∷ [] = search rules in
    missed_elsewhere n c.args.name.now c.args.self.now.missed.items c.push.new.self.items c.in-Ok.text more named apart
