use Rattle.std.proofs.Common.{[], true, refl, ap, Some}
use Rattle.memory_devices.specs.declared.kept.Kept.{Kept}
use Rattle.memory_devices.specs.Kept.{left_of, source_faults_of, sink_faults_of, opened_in_of, opened_out_of, fails_of}
use Rattle.memory_devices.proofs.Entries.{written, view_kept, changed_here, flag_stays}
use Rattle.memory_devices.proofs.Maps.{files_put}
use Rattle.memory_devices.proofs.kept.open_out.Goals as goal

pub returns-clause-files : goal.returns-clause-files
returns-clause-files c =
    let l : Kept = c.index_mut-entry.result.now in
    let k : Kept = record l { file = record l.file { bytes = c.clear.new.self }; opened_out = true } in
    let w = written c.args.name.now c.args.kept.now.items c.args.i l k c.requires.first c.index_mut-entry.ensures.value refl in
    files_put c.args.name.now c.args.kept.now.items _ k [] w.0 c.clear.ensures.items

pub returns-clause-left : goal.returns-clause-left
returns-clause-left c n =
    let l : Kept = c.index_mut-entry.result.now in
    let k : Kept = record l { file = record l.file { bytes = c.clear.new.self }; opened_out = true } in
    let w = written c.args.name.now c.args.kept.now.items c.args.i l k c.requires.first c.index_mut-entry.ensures.value refl in
    view_kept left_of c.args.name.now n c.args.kept.now.items _ k (Some l) w.0 w.1 refl

pub returns-clause-source_faults : goal.returns-clause-source_faults
returns-clause-source_faults c n =
    let l : Kept = c.index_mut-entry.result.now in
    let k : Kept = record l { file = record l.file { bytes = c.clear.new.self }; opened_out = true } in
    let w = written c.args.name.now c.args.kept.now.items c.args.i l k c.requires.first c.index_mut-entry.ensures.value refl in
    view_kept source_faults_of c.args.name.now n c.args.kept.now.items _ k (Some l) w.0 w.1 refl

pub returns-clause-sink_faults : goal.returns-clause-sink_faults
returns-clause-sink_faults c n =
    let l : Kept = c.index_mut-entry.result.now in
    let k : Kept = record l { file = record l.file { bytes = c.clear.new.self }; opened_out = true } in
    let w = written c.args.name.now c.args.kept.now.items c.args.i l k c.requires.first c.index_mut-entry.ensures.value refl in
    view_kept sink_faults_of c.args.name.now n c.args.kept.now.items _ k (Some l) w.0 w.1 refl

pub returns-clause-opened : goal.returns-clause-opened
returns-clause-opened c =
    let l : Kept = c.index_mut-entry.result.now in
    let k : Kept = record l { file = record l.file { bytes = c.clear.new.self }; opened_out = true } in
    let w = written c.args.name.now c.args.kept.now.items c.args.i l k c.requires.first c.index_mut-entry.ensures.value refl in
    ap opened_out_of (changed_here c.args.name.now c.args.kept.now.items _ k w.0)

pub returns-clause-stays_in : goal.returns-clause-stays_in
returns-clause-stays_in c n =
    let l : Kept = c.index_mut-entry.result.now in
    let k : Kept = record l { file = record l.file { bytes = c.clear.new.self }; opened_out = true } in
    let w = written c.args.name.now c.args.kept.now.items c.args.i l k c.requires.first c.index_mut-entry.ensures.value refl in
    view_kept opened_in_of c.args.name.now n c.args.kept.now.items _ k (Some l) w.0 w.1 refl

pub returns-clause-stays_out : goal.returns-clause-stays_out
returns-clause-stays_out c n =
    let l : Kept = c.index_mut-entry.result.now in
    let k : Kept = record l { file = record l.file { bytes = c.clear.new.self }; opened_out = true } in
    let w = written c.args.name.now c.args.kept.now.items c.args.i l k c.requires.first c.index_mut-entry.ensures.value refl in
    flag_stays opened_out_of c.args.name.now n c.args.kept.now.items _ k w.0 refl

pub returns-clause-fails : goal.returns-clause-fails
returns-clause-fails c n =
    let l : Kept = c.index_mut-entry.result.now in
    let k : Kept = record l { file = record l.file { bytes = c.clear.new.self }; opened_out = true } in
    let w = written c.args.name.now c.args.kept.now.items c.args.i l k c.requires.first c.index_mut-entry.ensures.value refl in
    view_kept fails_of c.args.name.now n c.args.kept.now.items _ k (Some l) w.0 w.1 refl
