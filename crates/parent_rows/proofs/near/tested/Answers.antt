use Rattle.std.proofs.Common.{◌∙◌, ◌/◌, ◌<◌, subst, arith}
use Rattle.parent_rows.proofs.ChainWalks.{image_kept}
use Rattle.parent_rows.proofs.Told.{chunk_id, chunk_key}
use Rattle.parent_rows.proofs.RowKinds.{place_in, place_few}
use Rattle.parent_rows.proofs.near.tested.Goals as goal

pub overflow_cast-node : goal.overflow_cast-node
overflow_cast-node g c =
    let r = c.requires.chunk in
    let few = (place_few r.0 r.1 r.2 _ r.4 c.args.place (subst (λ n. c.args.place < n / 8) c.len.ensures c.if-place-len.false)).1 in
    omega (arith, few)

pub id_of-key-requires : goal.id_of-key-requires
id_of-key-requires g c =
    let r = c.requires.chunk in
    record { within = (chunk_id r.0 r.1 r.2 _ (image_kept g.W.Words.words r.0 r.1 r.2 c.layout-ids.ensures.same r.4) c.args.chunk r.3 r.5).0 }

pub is_of-requires : goal.is_of-requires
is_of-requires g c =
    let r = c.requires.chunk in
    let row = place_in r.0 r.1 r.2 _ r.4 c.args.place (subst (λ n. c.args.place < n / 8) c.len.ensures c.if-place-len.false) in
    record { «record» = (r.0, r.1, r.2, row.0, image_kept g.W.Words.words r.0 r.1 r.2 (c.id_of-key.ensures.same ∙ c.layout-ids.ensures.same) r.4, row.1) }

pub returns-then-is_of-clause-is : goal.returns-then-is_of-clause-is
returns-then-is_of-clause-is g c = λ d b log x i h.
    let row = place_in d b log _ i c.args.place (subst (λ n. c.args.place < n / 8) c.len.ensures c.if-place-len.false) in
    let i1 = image_kept g.W.Words.words d b log c.layout-ids.ensures.same i in
    let i2 = image_kept g.W.Words.words d b log c.id_of-key.ensures.same i1 in
    let m = c.is_of.ensures.is d b log row.0 i2 row.1 (c.layout-ids.ensures.is d b log i) c.if-is_of.true in
    (m.0, m.1, m.2 ∙ (c.id_of-key.ensures.is ∙ chunk_key d b log _ i1 c.args.chunk x h), m.3)
