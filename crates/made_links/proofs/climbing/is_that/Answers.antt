use Rattle.std.proofs.Common.{◌≡◌, ◌-◌, ◌∙◌, sym, ap, rules}
use Rattle.node_ids.specs.Ids.{parts_of}
use Rattle.parent_rows.proofs.ChainWalks.{image_kept}
use Rattle.made_links.proofs.climbing.is_that.Goals as goal

pub returns-clause-is : goal.returns-clause-is
returns-clause-is g c = λ d b log n i h t.
    let told = c.node-row.ensures.is d b log n i h in
    let least : c.node-row.result.least ≡ c.args.sv = search rules in
    let layer : c.unpack.result.layer ≡ c.args.layer - 1 = search rules in
    let ids = c.layout-ids.ensures.is d b log (image_kept g.W.Words.words d b log c.node-row.ensures.same i) in
    let parts : c.unpack.result ≡ parts_of c.layout-ids.result c.node-row.result.id = search rules in (
      sym told.1 ∙ least,
      sym (ap (λ x. x.layer) parts ∙ (ap (λ l. (parts_of l c.node-row.result.id).layer) ids ∙ ap (λ v. (parts_of d.layout v).layer) told.0)) ∙ layer,
      c.stands.ensures.is d b log n (image_kept g.W.Words.words d b log (c.layout-ids.ensures.same ∙ c.node-row.ensures.same) i) h t,
    )
