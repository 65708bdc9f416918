use Rattle.std.proofs.Common.{◌<◌, sym, refl, subst, ◌∙◌, ap, length, length-set, arith}
use Rattle.record_rows.specs.Readings.{ParentImage}
use Rattle.record_rows.proofs.ImageFacts.{within}
use Rattle.record_rows.proofs.Untold.{word_cleared}
use Rattle.row_tests.proofs.emptying.clear.Goals as goal

pub loop-k-init : goal.loop-k-init
loop-k-init c = (λ d b log row i h u. i, refl)

pub set-requires : goal.set-requires
set-requires c =
    let r = c.requires.untold in
    let n = within r.d r.b r.log _ r.image c.args.place r.row r.stands in
    let s = c.loop-k.invariant.1 in
    let k : c.loop-k.k < 8 = c.loop-k-test.true in
    omega (arith, n, k, s)

pub loop-k-preserved : goal.loop-k-preserved
loop-k-preserved c = (
  λ d b log row i h u. subst (λ s. ParentImage d b log s.words) (sym c.set.ensures)
      (word_cleared d b log _ c.args.place c.loop-k.k row (c.loop-k.invariant.0 d b log row i h u) h u c.loop-k-test.true),
  ap (λ s. length s.words) c.set.ensures ∙ (length-set _ _ _ ∙ c.loop-k.invariant.1),
)
