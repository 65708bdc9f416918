use Rattle.std.proofs.Common.{◌≡◌, ℕ, List, None, rules, ap, ◌∙◌}
use Rattle.memory_devices.specs.declared.kept.Kept.{Kept}
use Rattle.pcg_base.specs.Told.{Counts}
use Rattle.memory_devices.specs.Kept.{bytes_of, entry_of, faults_in, faults_out, times}
use Rattle.memory_devices.proofs.Maps.{got}
use Rattle.memory_devices.proofs.mem_place.MemPlacePlace.source_of.Goals as goal

pub returns-in_default-clause-only_here : goal.returns-in_default-clause-only_here
returns-in_default-clause-only_here c n apart =
    let shown : ℕ → List Kept → Counts = λ m ks. record { source_openings = m; sink_openings = 0; source_faults = faults_in n ks; sink_faults = faults_out n ks } in
    ap (λ m. shown m c.miss.new.self.kept.items) (c.miss.ensures.elsewhere n apart)
    ∙ ap (λ kept. shown (times n c.args.self.now.missed.items) kept.items) c.miss.ensures.kept

pub returns-in_default-clause-missing : goal.returns-in_default-clause-missing
returns-in_default-clause-missing c is =
    let none : entry_of c.args.name.now c.args.self.now.kept.items ≡ None = search rules in
    got c.args.name.now c.args.self.now.kept.items ∙ ap bytes_of none
