use Rattle.std.proofs.Common.{◌≡◌, ◌∙◌, get_or, sym, ap}
use Rattle.graph_model.proofs.ListLemmas.{any_default}
use Rattle.op_model.specs.Labels.{root}
use Rattle.parent_rows.proofs.ChainWalks.{image_kept}
use Rattle.edit_split.specs.Marks.{refuse_other}
use Rattle.edit_split.proofs.Refused.{first_last, first_next, first_some, known_at}
use Rattle.edit_split.proofs.refusing.refusal_of_roots.Goals as goal

pub returns-in-Some-clause-is : goal.returns-in-Some-clause-is
returns-in-Some-clause-is g c d b log i known more =
    let k = known_at b c.args.sources.now 0 c.index-sources-0.result known c.requires.some c.index-sources-0.is in
    let first : c.root_now-first.result ≡ root d b log (get_or c.args.sources.now 0 0) =
    c.root_now-first.ensures.is d b log i k ∙ ap (root d b log) (c.index-sources-0.is ∙ any_default c.args.sources.now 0 c.index-sources-0.result 0 c.requires.some) in
    let is = c.other_root.ensures.is d b log (image_kept g.W.Words.words d b log c.root_now-first.ensures.same i) known in
    first_some _ _ c.in-Some.refusal (ap (λ r. refuse_other d b log r c.args.sources.now) (sym first) ∙ (sym is ∙ c.in-Some.is))

pub returns-clause-is : goal.returns-clause-is
returns-clause-is g c d b log i known more =
    let k = known_at b c.args.sources.now 0 c.index-sources-0.result known c.requires.some c.index-sources-0.is in
    let first : c.root_now-first.result ≡ root d b log (get_or c.args.sources.now 0 0) =
    c.root_now-first.ensures.is d b log i k ∙ ap (root d b log) (c.index-sources-0.is ∙ any_default c.args.sources.now 0 c.index-sources-0.result 0 c.requires.some) in
    let j = image_kept g.W.Words.words d b log c.root_now-first.ensures.same i in
    let is = c.other_root.ensures.is d b log j known in
    let more_is = c.other_root-2.ensures.is d b log (image_kept g.W.Words.words d b log c.other_root.ensures.same j) more in
    first_next _ _ _ (ap (λ r. refuse_other d b log r c.args.sources.now) (sym first) ∙ (sym is ∙ c.in_default.is))
    ((more_is ∙ ap (λ r. refuse_other d b log r c.args.sinks.now) first) ∙ first_last _)
