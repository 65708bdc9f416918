use Rattle.std.proofs.Common.{◌∙◌, [], ◌∷◌, sym, ap}
use Rattle.op_model.specs.Refusals.{first_of}
use Rattle.parent_rows.proofs.ChainWalks.{image_kept}
use Rattle.edit_split.specs.Marks.{refuse_other}
use Rattle.edit_split.proofs.Refused.{all_known, early_is, first_next, first_some, head_is, some_marks}
use Rattle.edit_split.proofs.refusing.refusal_of.Goals as goal

pub returns-in-Some-clause-is : goal.returns-in-Some-clause-is
returns-in-Some-clause-is g c d b log i =
    first_some _ _ c.in-Some.refusal (sym (c.unknown_in.ensures.is d b log i) ∙ c.in-Some.is) ∙ sym (early_is d b log c.args.sources.now c.args.sinks.now)

pub returns-in-Some-unknown_in-clause-is : goal.returns-in-Some-unknown_in-clause-is
returns-in-Some-unknown_in-clause-is g c d b log i =
    let j = image_kept g.W.Words.words d b log c.unknown_in.ensures.same i in
    first_next _ _ _ (sym (c.unknown_in.ensures.is d b log i) ∙ c.in_default.is)
    (first_some _ _ c.in-Some-unknown_in.refusal (sym (c.unknown_in-2.ensures.is d b log j) ∙ c.in-Some-unknown_in.is))
    ∙ sym (early_is d b log c.args.sources.now c.args.sinks.now)

pub returns-in-Some-refusal_of_lists-clause-is : goal.returns-in-Some-refusal_of_lists-clause-is
returns-in-Some-refusal_of_lists-clause-is g c d b log i =
    let j = image_kept g.W.Words.words d b log c.unknown_in.ensures.same i in
    first_next _ _ _ (sym (c.unknown_in.ensures.is d b log i) ∙ c.in_default.is)
    (first_next _ _ _ (sym (c.unknown_in-2.ensures.is d b log j) ∙ c.in_default-unknown_in.is)
    (first_some _ _ c.in-Some-refusal_of_lists.refusal (sym c.refusal_of_lists.ensures ∙ c.in-Some-refusal_of_lists.is)))
    ∙ sym (early_is d b log c.args.sources.now c.args.sinks.now)

pub refusal_of_roots-requires-clause-known : goal.refusal_of_roots-requires-clause-known
refusal_of_roots-requires-clause-known g c =
    let (d, b, log, i) = c.requires.image in
    let j = image_kept g.W.Words.words d b log c.unknown_in.ensures.same i in (
      d,
      b,
      log,
      image_kept g.W.Words.words d b log c.unknown_in-2.ensures.same j,
      (
        all_known d b c.args.sources.now (sym (c.unknown_in.ensures.is d b log i) ∙ c.in_default.is),
        all_known d b c.args.sinks.now (sym (c.unknown_in-2.ensures.is d b log j) ∙ c.in_default-unknown_in.is),
      ),
    )

pub refusal_of_roots-requires-clause-some : goal.refusal_of_roots-requires-clause-some
refusal_of_roots-requires-clause-some g c = (some_marks c.args.sources.now c.args.sinks.now (sym c.refusal_of_lists.ensures ∙ c.in_default-refusal_of_lists.is)).0

pub returns-clause-is : goal.returns-clause-is
returns-clause-is g c d b log i =
    let j = image_kept g.W.Words.words d b log c.unknown_in.ensures.same i in
    let known = all_known d b c.args.sources.now (sym (c.unknown_in.ensures.is d b log i) ∙ c.in_default.is) in
    let more = all_known d b c.args.sinks.now (sym (c.unknown_in-2.ensures.is d b log j) ∙ c.in_default-unknown_in.is) in
    let some = some_marks c.args.sources.now c.args.sinks.now (sym c.refusal_of_lists.ensures ∙ c.in_default-refusal_of_lists.is) in
    let is = c.refusal_of_roots.ensures.is d b log (image_kept g.W.Words.words d b log c.unknown_in-2.ensures.same j) known more in
    first_next _ _ _ (sym (c.unknown_in.ensures.is d b log i) ∙ c.in_default.is)
    (first_next _ _ _ (sym (c.unknown_in-2.ensures.is d b log j) ∙ c.in_default-unknown_in.is)
    (first_next _ _ _ (sym c.refusal_of_lists.ensures ∙ c.in_default-refusal_of_lists.is)
    (is ∙ ap (λ r. first_of (refuse_other d b log r c.args.sources.now ∷ refuse_other d b log r c.args.sinks.now ∷ [])) (sym (head_is d b log c.args.sources.now c.args.sinks.now some.0)))))
    ∙ sym (early_is d b log c.args.sources.now c.args.sinks.now)
