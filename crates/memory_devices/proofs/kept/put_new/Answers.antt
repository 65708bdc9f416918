use Rattle.std.proofs.Common.{[], ap, ◌∙◌, None}
use Rattle.memory_devices.specs.declared.kept.Kept.{Kept}
use Rattle.memory_devices.specs.Kept.{left_of, left_from, source_faults_of, sink_faults_of, opened_in_of, opened_out_of, fails_of}
use Rattle.memory_devices.proofs.Entries.{view_kept, changed_here, flag_stays}
use Rattle.memory_devices.proofs.Maps.{files_put}
use Rattle.memory_devices.proofs.kept.put_new.Goals as goal

pub returns-clause-files : goal.returns-clause-files
returns-clause-files c =
    let k : Kept = c.in_ok-entry.entry in
    let w = c.in_ok-push_entry.ensures.changes in
    files_put c.args.name.now c.args.kept.now.items _ k [] w c.in_ok-entry.ensures.bytes

pub returns-clause-left : goal.returns-clause-left
returns-clause-left c n =
    let k : Kept = c.in_ok-entry.entry in
    let w = c.in_ok-push_entry.ensures.changes in
    view_kept left_of c.args.name.now n c.args.kept.now.items _ k None w c.requires (ap left_from c.in_ok-entry.ensures.left)

pub returns-clause-source_faults : goal.returns-clause-source_faults
returns-clause-source_faults c n =
    let k : Kept = c.in_ok-entry.entry in
    let w = c.in_ok-push_entry.ensures.changes in
    view_kept source_faults_of c.args.name.now n c.args.kept.now.items _ k None w c.requires (c.in_ok-entry.ensures.source_faults)

pub returns-clause-sink_faults : goal.returns-clause-sink_faults
returns-clause-sink_faults c n =
    let k : Kept = c.in_ok-entry.entry in
    let w = c.in_ok-push_entry.ensures.changes in
    view_kept sink_faults_of c.args.name.now n c.args.kept.now.items _ k None w c.requires (c.in_ok-entry.ensures.sink_faults)

pub returns-clause-stays_in : goal.returns-clause-stays_in
returns-clause-stays_in c n =
    let k : Kept = c.in_ok-entry.entry in
    let w = c.in_ok-push_entry.ensures.changes in
    view_kept opened_in_of c.args.name.now n c.args.kept.now.items _ k None w c.requires (c.in_ok-entry.ensures.opened_in)

pub returns-clause-opened : goal.returns-clause-opened
returns-clause-opened c =
    let k : Kept = c.in_ok-entry.entry in
    let w = c.in_ok-push_entry.ensures.changes in
    ap opened_out_of (changed_here c.args.name.now c.args.kept.now.items _ k w) ∙ c.in_ok-entry.ensures.opened_out

pub returns-clause-stays_out : goal.returns-clause-stays_out
returns-clause-stays_out c n =
    let k : Kept = c.in_ok-entry.entry in
    let w = c.in_ok-push_entry.ensures.changes in
    flag_stays opened_out_of c.args.name.now n c.args.kept.now.items _ k w c.in_ok-entry.ensures.opened_out

pub returns-clause-fails : goal.returns-clause-fails
returns-clause-fails c n =
    let k : Kept = c.in_ok-entry.entry in
    let w = c.in_ok-push_entry.ensures.changes in
    view_kept fails_of c.args.name.now n c.args.kept.now.items _ k None w c.requires c.in_ok-entry.ensures.fails
