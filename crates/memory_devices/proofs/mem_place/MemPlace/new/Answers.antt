use Rattle.std.proofs.Common.{ℕ, map, refl, ap, ◌∙◌}
use Rattle.pcg_base.specs.Told.{Counts}
use Rattle.memory_devices.specs.Kept.{files_in, source_faults_of, sink_faults_of, opened_in_of, opened_out_of, faults_in, faults_out, was_in, was_out, times}
use Rattle.memory_devices.proofs.Entries.{fresh, files_back}
use Rattle.memory_devices.proofs.mem_place.MemPlace.new.Goals as goal

pub returns-clause-files : goal.returns-clause-files
returns-clause-files c = ap (λ ks. files_in (map (λ k. k.file) ks)) c.in_ok-kept.ensures ∙ ap files_in (files_back c.args.files.items)

pub returns-clause-opened_in : goal.returns-clause-opened_in
returns-clause-opened_in c n = ap (was_in n) c.in_ok-kept.ensures ∙ fresh opened_in_of (λ f. refl) n c.args.files.items

pub returns-clause-opened_out : goal.returns-clause-opened_out
returns-clause-opened_out c n = ap (was_out n) c.in_ok-kept.ensures ∙ fresh opened_out_of (λ f. refl) n c.args.files.items

pub returns-clause-counts : goal.returns-clause-counts
returns-clause-counts c n =
    let shown : ℕ → ℕ → ℕ → Counts = λ m a b. record { source_openings = m; sink_openings = 0; source_faults = a; sink_faults = b } in
    let a = ap (faults_in n) c.in_ok-kept.ensures ∙ fresh source_faults_of (λ f. refl) n c.args.files.items in
    let b = ap (faults_out n) c.in_ok-kept.ensures ∙ fresh sink_faults_of (λ f. refl) n c.args.files.items in
    ap (λ ms. shown (times n ms) (faults_in n c.in_ok-kept.kept.items) (faults_out n c.in_ok-kept.kept.items)) c.new.ensures.items
    ∙ ap (λ x. shown 0 x (faults_out n c.in_ok-kept.kept.items)) a ∙ ap (shown 0 0) b
