use Rattle.std.proofs.Common.{◌≡◌, ◌∙◌, ◌∷◌, [], sym, ap}
use Rattle.op_model.specs.Operations.{put_id}
use Rattle.parent_rows.proofs.ChainWalks.{image_kept}
use Rattle.change_reader.specs.Walks.{Waits}
use Rattle.change_reader.proofs.Waiting.{ok_more, waits_ended, waits_made}
use Rattle.change_reader.proofs.makers.own_entries.Goals as goal

pub node-made-requires : goal.node-made-requires
node-made-requires g c =
    let r = c.requires.root in
    let n = c.record_of-spot.ensures.is r.0 r.1 r.2 c.args.prefix r.3 in
    record { node = (r.0, r.1, r.2, n.0, image_kept g.W.Words.words r.0 r.1 r.2 c.record_of-spot.ensures.same r.3.image, n.1) }

pub ended-requires : goal.ended-requires
ended-requires g c =
    let r = c.requires.root in
    let n = c.record_of-spot.ensures.is r.0 r.1 r.2 c.args.prefix r.3 in
    record { node = (r.0, r.1, r.2, n.0, image_kept g.W.Words.words r.0 r.1 r.2 (c.node-made.ensures.same ∙ c.record_of-spot.ensures.same) r.3.image, n.1) }

pub returns-in-Some-clause-is : goal.returns-in-Some-clause-is
returns-in-Some-clause-is g c d b log i =
    let n = c.record_of-spot.ensures.is d b log c.args.prefix i in
    let made : c.node-made.result.made ≡ n.0.made = (c.node-made.ensures.is d b log n.0 (image_kept g.W.Words.words d b log c.record_of-spot.ensures.same i.image) n.1).2 in
    let by = sym c.in-Some.is ∙ c.ended.ensures.is d b log n.0 (image_kept g.W.Words.words d b log (c.node-made.ensures.same ∙ c.record_of-spot.ensures.same) i.image) n.1 in
    ok_more (λ v. v.items ≡ put_id c.in-Some.by (c.node-made.result.made ∷ [])) (λ v. Waits log c.args.prefix (c.args.root ∷ []) v.items)
    (λ v e. waits_ended d b log _ c.args.root c.args.prefix i c.record_of-spot.result n.0 n.1 n.2 c.in-Some.by by (e ∙ ap (λ m. put_id c.in-Some.by (m ∷ [])) made)) c.both.result c.both.ensures

pub returns-in-None-clause-is : goal.returns-in-None-clause-is
returns-in-None-clause-is g c d b log i =
    let n = c.record_of-spot.ensures.is d b log c.args.prefix i in
    let made : c.node-made.result.made ≡ n.0.made = (c.node-made.ensures.is d b log n.0 (image_kept g.W.Words.words d b log c.record_of-spot.ensures.same i.image) n.1).2 in
    let none = sym c.in-None.is ∙ c.ended.ensures.is d b log n.0 (image_kept g.W.Words.words d b log (c.node-made.ensures.same ∙ c.record_of-spot.ensures.same) i.image) n.1 in
    ok_more (λ v. v.items ≡ c.node-made.result.made ∷ []) (λ v. Waits log c.args.prefix (c.args.root ∷ []) v.items)
    (λ v e. waits_made d b log _ c.args.root c.args.prefix i c.record_of-spot.result n.0 n.1 n.2 none (e ∙ ap (λ m. m ∷ []) made)) c.one.result c.one.ensures
