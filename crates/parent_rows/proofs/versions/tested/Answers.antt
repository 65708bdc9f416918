use Rattle.std.proofs.Common.{◌∙◌, ◌/◌, ◌<◌, length, sym, ap, subst, arith}
use Rattle.parent_rows.specs.Steps.{IsLinkOf}
use Rattle.parent_rows.proofs.ChainWalks.{image_kept}
use Rattle.parent_rows.proofs.Told.{owner_id}
use Rattle.parent_rows.proofs.RowKinds.{place_in, place_few}
use Rattle.parent_rows.proofs.VersionWalks.{link_told}
use Rattle.parent_rows.proofs.versions.tested.Goals as goal

pub overflow_cast-link : goal.overflow_cast-link
overflow_cast-link g c =
    let r = c.requires.owner in
    let few = (place_few r.0 r.1 r.2 _ r.4 c.args.place (subst (λ n. c.args.place < n / 8) c.len.ensures c.if-place-len.false)).1 in
    omega (arith, few)

pub id_of-id-requires : goal.id_of-id-requires
id_of-id-requires g c = let r = c.requires.owner in record { within = (owner_id r.0 r.1 r.2 _ r.4 c.args.spot r.3 r.5).0 }

pub is_link-requires : goal.is_link-requires
is_link-requires g c =
    let r = c.requires.owner in
    record { within = (place_few r.0 r.1 r.2 _ (image_kept g.W.Words.words r.0 r.1 r.2 c.id_of-id.ensures.same r.4) c.args.place (subst (λ n. c.args.place < n / 8) (c.len.ensures ∙ ap (λ w. length (g.W.Words.words w)) (sym c.id_of-id.ensures.same)) c.if-place-len.false)).0 }

pub returns-then-is_link-clause-is : goal.returns-then-is_link-clause-is
returns-then-is_link-clause-is g c = λ d b log id i h.
    let row = place_in d b log _ i c.args.place (subst (λ n. c.args.place < n / 8) c.len.ensures c.if-place-len.false) in
    let key = c.id_of-id.ensures.is ∙ (owner_id d b log _ i c.args.spot id h).1 in
    let told = c.is_link.ensures.is c.if-is_link.true in
    (row.0, row.1, link_told d b log _ i id c.args.below c.args.place row.0 row.1 (subst (λ w. IsLinkOf (g.W.Words.words w) c.args.place id c.args.below) c.id_of-id.ensures.same (subst (λ k. IsLinkOf (g.W.Words.words c.id_of-id.new.w) c.args.place k c.args.below) key told)))
