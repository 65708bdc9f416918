use Rattle.std.proofs.Common.{◌≡◌, ◌<◌, ◌∙◌, sym, arith}
use Rattle.op_model.specs.Transcript.{log_at}
use Rattle.parent_rows.proofs.ChainWalks.{image_kept}
use Rattle.change_reader.proofs.MadeRoots.{found_later, found_made, none_found, root_found, root_layer}
use Rattle.timestamp_reader.proofs.Refused.{root_there}
use Rattle.timestamp_reader.proofs.answers.made_below.Goals as goal

pub returns-in_default-clause-is : goal.returns-in_default-clause-is
returns-in_default-clause-is g c d b log r f = none_found d b log _ r.image c.args.root (root_layer d c.args.root f) (sym (c.find.ensures.found d b log r.image) ∙ c.in_default.is) c.args.prefix r.low r.high

pub node-requires : goal.node-requires
node-requires g c =
    let r = c.requires.readable in
    let i = r.3.image in
    let n = root_found r.0 r.1 r.2 _ i c.args.root (root_layer r.0 c.args.root r.4) c.in-Some.spot (sym (c.find.ensures.found r.0 r.1 r.2 i) ∙ c.in-Some.is) in
    record { node = (r.0, r.1, r.2, n.0, image_kept g.W.Words.words r.0 r.1 r.2 c.find.ensures.same i, n.1) }

pub returns-then-node-prefix-clause-is : goal.returns-then-node-prefix-clause-is
returns-then-node-prefix-clause-is g c d b log r f =
    let i = r.image in
    let n = root_found d b log _ i c.args.root (root_layer d c.args.root f) c.in-Some.spot (sym (c.find.ensures.found d b log i) ∙ c.in-Some.is) in
    let made : c.node.result.made ≡ n.0.made = (c.node.ensures.is d b log n.0 (image_kept g.W.Words.words d b log c.find.ensures.same i) n.1).2 in
    let below : c.node.result.made < c.args.prefix = c.if-node-prefix.true in
    let m = found_made d b log _ i c.args.root (root_layer d c.args.root f) c.in-Some.spot n.0 n.1 n.2 c.args.prefix r.high (omega arith) in
    record { unrefused = root_there d b (log_at d b log c.args.prefix) c.args.root f m.0; node = n.0; stands = n.1; shown = m.1 }

pub returns-else-node-prefix-clause-is : goal.returns-else-node-prefix-clause-is
returns-else-node-prefix-clause-is g c d b log r f =
    let i = r.image in
    let n = root_found d b log _ i c.args.root (root_layer d c.args.root f) c.in-Some.spot (sym (c.find.ensures.found d b log i) ∙ c.in-Some.is) in
    let made : c.node.result.made ≡ n.0.made = (c.node.ensures.is d b log n.0 (image_kept g.W.Words.words d b log c.find.ensures.same i) n.1).2 in
    let late = c.if-node-prefix.false in
    found_later d b log _ i c.args.root (root_layer d c.args.root f) c.in-Some.spot n.0 n.1 n.2 c.args.prefix r.low r.high (omega (arith, late, made))
