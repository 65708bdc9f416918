use Rattle.std.proofs.Common.{◌<◌, ◌≤◌, ◌^◌, arith, refl, ap, sym, ◌∙◌, ◌≡◌, Some, rules}
use Rattle.memory_devices.specs.declared.kept.Kept.{Kept}
use Rattle.memory_devices.specs.Kept.{left_of, source_faults_of, sink_faults_of, opened_in_of, opened_out_of, fails_of}
use Rattle.pcg_base.specs.Causes.{added}
use Rattle.memory_devices.proofs.Entries.{written, view_kept, changed_here, changed_elsewhere}
use Rattle.memory_devices.proofs.Maps.{files_put}
use Rattle.memory_devices.proofs.kept.put_sink.Goals as goal

pub returns-clause-files : goal.returns-clause-files
returns-clause-files c =
    let l : Kept = c.index_mut-entry.result.now in
    let k : Kept = record l { sink_faults = c.saturating_add-entry.result; file = record l.file { bytes = c.args.bytes } } in
    let w = written c.args.name.now c.args.kept.now.items c.args.i l k c.requires.first c.index_mut-entry.ensures.value refl in
    files_put c.args.name.now c.args.kept.now.items _ k c.args.bytes.items w.0 refl

pub returns-clause-left : goal.returns-clause-left
returns-clause-left c n =
    let l : Kept = c.index_mut-entry.result.now in
    let k : Kept = record l { sink_faults = c.saturating_add-entry.result; file = record l.file { bytes = c.args.bytes } } in
    let w = written c.args.name.now c.args.kept.now.items c.args.i l k c.requires.first c.index_mut-entry.ensures.value refl in
    view_kept left_of c.args.name.now n c.args.kept.now.items _ k (Some l) w.0 w.1 refl

pub returns-clause-here : goal.returns-clause-here
returns-clause-here c =
    let l : Kept = c.index_mut-entry.result.now in
    let k : Kept = record l { sink_faults = c.saturating_add-entry.result; file = record l.file { bytes = c.args.bytes } } in
    let w = written c.args.name.now c.args.kept.now.items c.args.i l k c.requires.first c.index_mut-entry.ensures.value refl in
    let sum : c.saturating_add-entry.result ≡ added l.sink_faults c.args.faults = search rules in
    ap sink_faults_of (changed_here c.args.name.now c.args.kept.now.items _ k w.0) ∙ sum ∙ ap (λ x. added (sink_faults_of x) c.args.faults) (sym w.1)

pub returns-clause-elsewhere : goal.returns-clause-elsewhere
returns-clause-elsewhere c n apart =
    let l : Kept = c.index_mut-entry.result.now in
    let k : Kept = record l { sink_faults = c.saturating_add-entry.result; file = record l.file { bytes = c.args.bytes } } in
    let w = written c.args.name.now c.args.kept.now.items c.args.i l k c.requires.first c.index_mut-entry.ensures.value refl in
    ap sink_faults_of (changed_elsewhere c.args.name.now n c.args.kept.now.items _ k w.0 apart)

pub returns-clause-source_faults : goal.returns-clause-source_faults
returns-clause-source_faults c n =
    let l : Kept = c.index_mut-entry.result.now in
    let k : Kept = record l { sink_faults = c.saturating_add-entry.result; file = record l.file { bytes = c.args.bytes } } in
    let w = written c.args.name.now c.args.kept.now.items c.args.i l k c.requires.first c.index_mut-entry.ensures.value refl in
    view_kept source_faults_of c.args.name.now n c.args.kept.now.items _ k (Some l) w.0 w.1 refl

pub returns-clause-stays_in : goal.returns-clause-stays_in
returns-clause-stays_in c n =
    let l : Kept = c.index_mut-entry.result.now in
    let k : Kept = record l { sink_faults = c.saturating_add-entry.result; file = record l.file { bytes = c.args.bytes } } in
    let w = written c.args.name.now c.args.kept.now.items c.args.i l k c.requires.first c.index_mut-entry.ensures.value refl in
    view_kept opened_in_of c.args.name.now n c.args.kept.now.items _ k (Some l) w.0 w.1 refl

pub returns-clause-stays_out : goal.returns-clause-stays_out
returns-clause-stays_out c n =
    let l : Kept = c.index_mut-entry.result.now in
    let k : Kept = record l { sink_faults = c.saturating_add-entry.result; file = record l.file { bytes = c.args.bytes } } in
    let w = written c.args.name.now c.args.kept.now.items c.args.i l k c.requires.first c.index_mut-entry.ensures.value refl in
    view_kept opened_out_of c.args.name.now n c.args.kept.now.items _ k (Some l) w.0 w.1 refl

pub returns-clause-later : goal.returns-clause-later
returns-clause-later c =
    let l : Kept = c.index_mut-entry.result.now in
    let k : Kept = record l { sink_faults = c.saturating_add-entry.result; file = record l.file { bytes = c.args.bytes } } in
    let w = written c.args.name.now c.args.kept.now.items c.args.i l k c.requires.first c.index_mut-entry.ensures.value refl in
    let sum : c.saturating_add-entry.result ≡ added l.sink_faults c.args.faults = search rules in
    let fits : l.sink_faults < 2 ^ 64 = search rules in
    let more : l.sink_faults ≤ c.saturating_add-entry.result = omega (arith, sum, fits) in
    let was = ap sink_faults_of w.1 in
    let is = ap sink_faults_of (changed_here c.args.name.now c.args.kept.now.items _ k w.0) in
    omega (arith, was, is, more)

pub returns-clause-fails : goal.returns-clause-fails
returns-clause-fails c n =
    let l : Kept = c.index_mut-entry.result.now in
    let k : Kept = record l { sink_faults = c.saturating_add-entry.result; file = record l.file { bytes = c.args.bytes } } in
    let w = written c.args.name.now c.args.kept.now.items c.args.i l k c.requires.first c.index_mut-entry.ensures.value refl in
    view_kept fails_of c.args.name.now n c.args.kept.now.items _ k (Some l) w.0 w.1 refl
