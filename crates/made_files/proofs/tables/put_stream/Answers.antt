use Rattle.std.proofs.Common.{rules, ◌≡◌, ◌∙◌, ◌+◌, ◌++◌, ap, sym, refl, ℕ, arith, [], append-nil}
use Rattle.made_input.specs.Rows.{Text}
use Rattle.made_input.specs.Texts.{line_of, stream_of}
use Rattle.request_lines.proofs.Putting.{puts_both, puts_waiting}
use Rattle.made_files.proofs.Fronts.{front_lines, more_lines}
use Rattle.made_files.proofs.Written.{on_err}
use Rattle.made_files.proofs.tables.put_stream.Goals as goal

pub loop-j-preserved : goal.loop-j-preserved
loop-j-preserved g c =
    let w = c.args.wish.now in
    let s = c.args.from in
    let j = c.loop-j.j in
    let before = c.loop-j.invariant in
    let piece : c.as_slice.result.now ≡ (line_of w (j + 1) (stream_of w s j).1).0 = search rules in
    let behind : c.in_ok-state.state ≡ (line_of w (j + 1) (stream_of w s j).1).1 = search rules in (
      puts_both (stream_of w s (j + 1)).0 (ap (λ (m : Text × ℕ). m.0) (more_lines w s j) ∙ ap (λ t. (stream_of w s j).0 ++ t) (sym piece)) before.0 c.put.ensures,
      behind ∙ sym (ap (λ (m : Text × ℕ). m.1) (more_lines w s j)),
    )

pub returns-in_err-state-clause-front : goal.returns-in_err-state-clause-front
returns-in_err-state-clause-front g c =
    let front = front_lines c.args.wish.now c.args.from c.loop-j.j (omega (arith, c.loop-j-test.true)) in
    on_err c.from_residual.result ((stream_of c.args.wish.now c.args.from c.loop-j.j).0, front.0, front.1, c.loop-j.invariant.0)

pub loop-j-init : goal.loop-j-init
unfolding stream_of
loop-j-init g c = (puts_waiting (g.K.Sink.state c.args.out.now) c.args.page.now c.args.page.now [] (sym (append-nil _)) refl, refl)
