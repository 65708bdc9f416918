use Rattle.std.proofs.Common.{◌++◌, ◌∙◌, ap, sym, append-nil}
use Rattle.std.proofs.lemmas.List.{take_all}
use Rattle.touched_paths.proofs.Passing.{one_put}
use Rattle.touched_paths.proofs.paths.put_spots.Goals as goal

pub loop-place-init : goal.loop-place-init
loop-place-init c = sym (append-nil c.args.list.now.items)

pub loop-place-preserved : goal.loop-place-preserved
loop-place-preserved c =
    one_put c.args.list.now.items c.args.more.now c.loop-place.list.items c.put_spot.new.list.items c.loop-place.place c.index-more-place.result c.loop-place-test.true c.index-more-place.is c.loop-place.invariant c.in_ok-put_spot.ensures

pub returns : goal.returns
returns c = c.loop-place.invariant ∙ ap (λ xs. c.args.list.now.items ++ xs) (take_all c.loop-place.place c.args.more.now c.loop-place-test.false)
