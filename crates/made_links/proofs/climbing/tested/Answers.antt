use Rattle.std.proofs.Common.{◌/◌, ◌<◌, length, ◌∙◌, sym, arith}
use Rattle.parent_rows.proofs.ChainWalks.{image_kept}
use Rattle.parent_rows.proofs.RowKinds.{kind_node, place_in}
use Rattle.made_links.proofs.Guessed.{guessed}
use Rattle.made_links.proofs.climbing.tested.Goals as goal

pub is_that-requires-clause-node : goal.is_that-requires-clause-node
is_that-requires-clause-node g c =
    let r = c.requires.image in
    let i = r.3 in
    let far = c.if-guess-len.false in
    let same = c.guess.view_is in
    let count = c.len.ensures in
    let low : c.args.guess < length (g.W.Words.words c.args.w.now) / 8 = omega (arith, far, same, count) in
    let row = place_in r.0 r.1 r.2 _ i c.args.guess low in
    let n = kind_node r.0 r.1 r.2 _ i c.args.guess row.0 row.1 (sym c.kind_of.ensures.is ∙ c.if-kind_of-ne4.false) in
    (r.0, r.1, r.2, n.0, image_kept g.W.Words.words r.0 r.1 r.2 c.kind_of.ensures.same i, n.1)

pub returns-then-is_that-clause-is : goal.returns-then-is_that-clause-is
returns-then-is_that-clause-is g c = λ d b log i.
    let far = c.if-guess-len.false in
    let same = c.guess.view_is in
    let count = c.len.ensures in
    let low : c.args.guess < length (g.W.Words.words c.args.w.now) / 8 = omega (arith, far, same, count) in
    let row = place_in d b log _ i c.args.guess low in
    let n = kind_node d b log _ i c.args.guess row.0 row.1 (sym c.kind_of.ensures.is ∙ c.if-kind_of-ne4.false) in
    let told = c.is_that.ensures.is d b log n.0 (image_kept g.W.Words.words d b log c.kind_of.ensures.same i) n.1 c.if-is_that.true in
    let most = c.if-layer-le2.false in
    let high : 2 < c.args.layer = omega (arith, most) in
    (high, guessed d b log _ i c.args.layer c.args.sv c.args.guess n.0 n.1 told.0 told.1 told.2 high)
