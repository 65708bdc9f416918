use Rattle.std.proofs.Common.{rules, ◌≡◌, ◌∙◌, ◌+◌, ◌++◌, [], ◌∷◌, ap, sym, refl, codes, arith}
use Rattle.made_input.specs.Rows.{record_text, table_text}
use Rattle.made_input.specs.Texts.{id_text}
use Rattle.made_input.proofs.Lines.{all_lines, first_line, next_line, rows_below}
use Rattle.request_lines.proofs.Putting.{puts_both, puts_same}
use Rattle.made_files.proofs.Fronts.{front_rows}
use Rattle.made_files.proofs.Written.{on_err}
use Rattle.made_files.proofs.tables.put_supervoxels.Goals as goal

pub loop-k-init : goal.loop-k-init
loop-k-init g c = puts_same (sym (first_line c.args.wish.now [] (codes "supervoxel\n") refl refl)) c.put.ensures

pub loop-k-preserved : goal.loop-k-preserved
loop-k-preserved g c =
    let w = c.args.wish.now in
    let k = c.loop-k.k in
    let piece : c.as_slice.result.now ≡ record_text (id_text w k ∷ []) = search rules in
    puts_both (table_text (rows_below w (k + 1))) (next_line w k ∙ ap (λ t. table_text (rows_below w k) ++ t) (sym piece)) c.loop-k.invariant c.put-in-loop-k.ensures

pub returns-in_err-put_supervoxel-clause-front : goal.returns-in_err-put_supervoxel-clause-front
returns-in_err-put_supervoxel-clause-front g c =
    let front = front_rows c.args.wish.now c.loop-k.k (omega (arith, c.loop-k-test.true)) in
    on_err c.from_residual.result (table_text (rows_below c.args.wish.now c.loop-k.k), front.0, front.1, c.loop-k.invariant)

pub returns-clause-text : goal.returns-clause-text
returns-clause-text g c =
    let w = c.args.wish.now in
    let all : c.loop-k.k ≡ w.size = omega (arith, c.loop-k.auto.k-end, c.loop-k-test.false) in
    puts_same (all_lines w ∙ sym (ap (λ n. table_text (rows_below w n)) all)) c.loop-k.invariant
