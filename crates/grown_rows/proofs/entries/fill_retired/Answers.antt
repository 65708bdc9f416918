use Rattle.std.proofs.Common.{arith, sym, ◌∙◌, ap, subst, refl, take_all}
use Rattle.grown_rows.specs.Aimed.{tails_at}
use Rattle.grown_rows.specs.Growths.{filled_by, with_pointer, IsWithin}
use Rattle.grown_rows.proofs.FillLemmas.{filled_none, filled_more}
use Rattle.grown_rows.proofs.entries.fill_retired.Goals as goal

pub fill-requires-clause-within : goal.fill-requires-clause-within
fill-requires-clause-within c =
    let w : IsWithin c.args.growth.now c.spot-item.result = subst (IsWithin c.args.growth.now) (sym c.spot-item.is) (c.requires.within c.loop-spot.spot-index c.spot-item.result c.loop-spot-test.true) in
    let t = c.loop-spot.invariant.1 in
    let n = c.loop-spot.invariant.2 in
    omega arith

pub loop-spot-init : goal.loop-spot-init
loop-spot-init c = (sym (filled_none c.args.place c.args.growth.now), refl, refl)

pub loop-spot-preserved : goal.loop-spot-preserved
loop-spot-preserved c = (
  c.in_ok-fill.ensures.filled
      ∙ (ap (λ g. with_pointer g c.spot-item.result 6 c.args.place) c.loop-spot.invariant.0
      ∙ filled_more c.args.place c.args.retired.now c.loop-spot.spot-index c.spot-item.result c.spot-item.result c.args.growth.now c.loop-spot-test.true c.spot-item.is),
  c.in_ok-fill.ensures.tail ∙ c.loop-spot.invariant.1,
  c.in_ok-fill.ensures.length ∙ c.loop-spot.invariant.2,
)

pub returns-clause-filled : goal.returns-clause-filled
returns-clause-filled c = c.loop-spot.invariant.0 ∙ ap (λ xs. filled_by c.args.place (tails_at xs) c.args.growth.now) (take_all c.loop-spot.spot-index c.args.retired.now c.loop-spot-test.false)
