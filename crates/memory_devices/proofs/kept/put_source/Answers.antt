use Rattle.std.proofs.Common.{◌<◌, ◌≤◌, ◌^◌, arith, refl, ap, sym, ◌∙◌, ◌≡◌, Some, rules}
use Rattle.memory_devices.specs.declared.kept.Kept.{Kept}
use Rattle.memory_devices.specs.Kept.{bytes_of, left_of, source_faults_of, sink_faults_of, opened_in_of, opened_out_of, fails_of}
use Rattle.pcg_base.specs.Causes.{added}
use Rattle.memory_devices.proofs.Entries.{written, view_kept, changed_here, changed_elsewhere}
use Rattle.memory_devices.proofs.Maps.{same_files}
use Rattle.memory_devices.proofs.kept.put_source.Goals as goal

pub returns-clause-files : goal.returns-clause-files
returns-clause-files c =
    let l : Kept = c.index_mut-entry.result.now in
    let k : Kept = record l { source_faults = c.saturating_add-entry.result; left = Some c.args.source } in
    let w = written c.args.name.now c.args.kept.now.items c.args.i l k c.requires.first c.index_mut-entry.ensures.value refl in
    same_files c.args.kept.now.items _ (λ n. view_kept bytes_of c.args.name.now n c.args.kept.now.items _ k (Some l) w.0 w.1 refl)

pub returns-clause-left : goal.returns-clause-left
returns-clause-left c =
    let l : Kept = c.index_mut-entry.result.now in
    let k : Kept = record l { source_faults = c.saturating_add-entry.result; left = Some c.args.source } in
    let w = written c.args.name.now c.args.kept.now.items c.args.i l k c.requires.first c.index_mut-entry.ensures.value refl in
    ap left_of (changed_here c.args.name.now c.args.kept.now.items _ k w.0)

pub returns-clause-only_left : goal.returns-clause-only_left
returns-clause-only_left c n apart =
    let l : Kept = c.index_mut-entry.result.now in
    let k : Kept = record l { source_faults = c.saturating_add-entry.result; left = Some c.args.source } in
    let w = written c.args.name.now c.args.kept.now.items c.args.i l k c.requires.first c.index_mut-entry.ensures.value refl in
    ap left_of (changed_elsewhere c.args.name.now n c.args.kept.now.items _ k w.0 apart)

pub returns-clause-here : goal.returns-clause-here
returns-clause-here c =
    let l : Kept = c.index_mut-entry.result.now in
    let k : Kept = record l { source_faults = c.saturating_add-entry.result; left = Some c.args.source } in
    let w = written c.args.name.now c.args.kept.now.items c.args.i l k c.requires.first c.index_mut-entry.ensures.value refl in
    let sum : c.saturating_add-entry.result ≡ added l.source_faults c.args.source.faults = search rules in
    ap source_faults_of (changed_here c.args.name.now c.args.kept.now.items _ k w.0) ∙ sum ∙ ap (λ x. added (source_faults_of x) c.args.source.faults) (sym w.1)

pub returns-clause-elsewhere : goal.returns-clause-elsewhere
returns-clause-elsewhere c n apart =
    let l : Kept = c.index_mut-entry.result.now in
    let k : Kept = record l { source_faults = c.saturating_add-entry.result; left = Some c.args.source } in
    let w = written c.args.name.now c.args.kept.now.items c.args.i l k c.requires.first c.index_mut-entry.ensures.value refl in
    ap source_faults_of (changed_elsewhere c.args.name.now n c.args.kept.now.items _ k w.0 apart)

pub returns-clause-sink_faults : goal.returns-clause-sink_faults
returns-clause-sink_faults c n =
    let l : Kept = c.index_mut-entry.result.now in
    let k : Kept = record l { source_faults = c.saturating_add-entry.result; left = Some c.args.source } in
    let w = written c.args.name.now c.args.kept.now.items c.args.i l k c.requires.first c.index_mut-entry.ensures.value refl in
    view_kept sink_faults_of c.args.name.now n c.args.kept.now.items _ k (Some l) w.0 w.1 refl

pub returns-clause-stays_in : goal.returns-clause-stays_in
returns-clause-stays_in c n =
    let l : Kept = c.index_mut-entry.result.now in
    let k : Kept = record l { source_faults = c.saturating_add-entry.result; left = Some c.args.source } in
    let w = written c.args.name.now c.args.kept.now.items c.args.i l k c.requires.first c.index_mut-entry.ensures.value refl in
    view_kept opened_in_of c.args.name.now n c.args.kept.now.items _ k (Some l) w.0 w.1 refl

pub returns-clause-stays_out : goal.returns-clause-stays_out
returns-clause-stays_out c n =
    let l : Kept = c.index_mut-entry.result.now in
    let k : Kept = record l { source_faults = c.saturating_add-entry.result; left = Some c.args.source } in
    let w = written c.args.name.now c.args.kept.now.items c.args.i l k c.requires.first c.index_mut-entry.ensures.value refl in
    view_kept opened_out_of c.args.name.now n c.args.kept.now.items _ k (Some l) w.0 w.1 refl

pub returns-clause-later : goal.returns-clause-later
returns-clause-later c =
    let l : Kept = c.index_mut-entry.result.now in
    let k : Kept = record l { source_faults = c.saturating_add-entry.result; left = Some c.args.source } in
    let w = written c.args.name.now c.args.kept.now.items c.args.i l k c.requires.first c.index_mut-entry.ensures.value refl in
    let sum : c.saturating_add-entry.result ≡ added l.source_faults c.args.source.faults = search rules in
    let fits : l.source_faults < 2 ^ 64 = search rules in
    let more : l.source_faults ≤ c.saturating_add-entry.result = omega (arith, sum, fits) in
    let was = ap source_faults_of w.1 in
    let is = ap source_faults_of (changed_here c.args.name.now c.args.kept.now.items _ k w.0) in
    omega (arith, was, is, more)

pub returns-clause-fails : goal.returns-clause-fails
returns-clause-fails c n =
    let l : Kept = c.index_mut-entry.result.now in
    let k : Kept = record l { source_faults = c.saturating_add-entry.result; left = Some c.args.source } in
    let w = written c.args.name.now c.args.kept.now.items c.args.i l k c.requires.first c.index_mut-entry.ensures.value refl in
    view_kept fails_of c.args.name.now n c.args.kept.now.items _ k (Some l) w.0 w.1 refl
