use Rattle.std.proofs.Common.{◌∙◌, List, length, sym, ap, subst, arith}
use Rattle.op_model.specs.declared.entry.Entry.{Entry}
use Rattle.op_model.specs.Labels.{edges}
use Rattle.record_rows.specs.Readings.{Image}
use Rattle.record_rows.proofs.ImageFacts.{parent_image}
use Rattle.component_reader.specs.Among.{IsLarge, active_among}
use Rattle.root_masks.proofs.Asked.{some_entries, whole_log}
use Rattle.edit_split.proofs.cutting.part_of.Goals as goal

pub edges_among-requires-clause-image : goal.edges_among-requires-clause-image
edges_among-requires-clause-image g c =
    let (d, b, log, i, k) = c.requires.known in
    (d, b, log, subst (λ w. Image d b log (g.W.Words.words w)) (sym c.length-count.ensures.same) i, k)

pub edges_among-requires-clause-prefix : goal.edges_among-requires-clause-prefix
edges_among-requires-clause-prefix g c =
    let (d, b, log, i, k) = c.requires.known in
    let n = c.length-count.ensures.is d b log (parent_image d b log _ i) in
    let m = some_entries d b log i.legal in
    omega (arith, n, m)

pub returns-in-Ok-clause-is : goal.returns-in-Ok-clause-is
returns-in-Ok-clause-is g c d b log i k =
    let n = c.length-count.ensures.is d b log (parent_image d b log _ i) in
    let is = c.in-Ok.ensures.is d b log (subst (λ w. Image d b log (g.W.Words.words w)) (sym c.length-count.ensures.same) i) k in
    (is.0 ∙ ap (λ (l : List Entry). active_among (edges d b l) c.args.all.now) (whole_log d b log c.length-count.result n), is.1)

pub returns-in-Err-clause-is : goal.returns-in-Err-clause-is
returns-in-Err-clause-is g c d b log i k =
    let n = c.length-count.ensures.is d b log (parent_image d b log _ i) in
    let is = c.in-Err.ensures.is d b log (subst (λ w. Image d b log (g.W.Words.words w)) (sym c.length-count.ensures.same) i) k in
    c.refusal_for.ensures _ (subst (λ (l : List Entry). IsLarge (length (active_among (edges d b l) c.args.all.now)) 500000 c.in-Err.error) (whole_log d b log c.length-count.result n) is)

pub length-count-requires : goal.length-count-requires
length-count-requires g c = let (d, b, log, i, k) = c.requires.known in record { image = (d, b, log, parent_image d b log _ i) }
