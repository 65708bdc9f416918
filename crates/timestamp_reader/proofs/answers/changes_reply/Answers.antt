use Rattle.std.proofs.Common.{◌≡◌, ◌∙◌, ◌∷◌, [], Some, refl, sym, subst, inl, inr}
use Rattle.std.specs.Prelude.{MatchResult, IfOk}
use Rattle.op_model.specs.declared.request.Read.TheVariants as read
use Rattle.op_model.specs.Answers.{ancestors, changes}
use Rattle.op_model.specs.Refusals.{refuse_read}
use Rattle.op_model.specs.Transcript.{log_at}
use Rattle.record_rows.specs.Readings.{Image}
use Rattle.record_rows.proofs.ImageFacts.{parent_image}
use Rattle.parent_rows.proofs.ChainWalks.{image_kept}
use Rattle.timestamp_reader.specs.Replies.{IsAskedRoot}
use Rattle.timestamp_reader.proofs.Refused.{changes_asked, changes_refused, changes_reply, changes_unrefused}
use Rattle.timestamp_reader.proofs.answers.changes_reply.Goals as goal

pub length-seen-requires : goal.length-seen-requires
length-seen-requires g c = let r = c.requires.image in record { image = (r.0, r.1, r.2, parent_image r.0 r.1 r.2 _ r.3) }

pub asked_root-requires : goal.asked_root-requires
asked_root-requires g c =
    let r = c.requires.image in
    record { image = (r.0, r.1, r.2, image_kept g.W.Words.words r.0 r.1 r.2 c.length-seen.ensures.same (parent_image r.0 r.1 r.2 _ r.3)) }

pub changes-requires : goal.changes-requires
changes-requires g c =
    let r = c.requires.image in
    let j = image_kept g.W.Words.words r.0 r.1 r.2 c.length-seen.ensures.same (parent_image r.0 r.1 r.2 _ r.3) in
    let a = subst (λ x. MatchResult x (λ a. IsAskedRoot r.0 r.1 r.2 c.args.root c.args.at a.spot a.prefix) (λ q. refuse_read r.0 r.1 r.2 (read.Leaves c.args.root c.args.at) ≡ Some q)) c.in-Ok.is (c.asked_root.ensures.is r.0 r.1 r.2 j) in
    let image = subst (λ w. Image r.0 r.1 r.2 (g.W.Words.words w)) (sym (c.asked_root.ensures.same ∙ c.length-seen.ensures.same)) r.3 in
    record { root = (r.0, r.1, r.2, image, changes_asked r.0 r.1 r.2 _ (parent_image r.0 r.1 r.2 _ image) c.args.root c.args.at c.in-Ok.asked.spot c.in-Ok.asked.prefix a) }

pub returns-in-Ok-changes-clause-is : goal.returns-in-Ok-changes-clause-is
returns-in-Ok-changes-clause-is g c d b log i =
    let j = image_kept g.W.Words.words d b log c.length-seen.ensures.same (parent_image d b log _ i) in
    let a = subst (λ r. MatchResult r (λ a. IsAskedRoot d b log c.args.root c.args.at a.spot a.prefix) (λ q. refuse_read d b log (read.Leaves c.args.root c.args.at) ≡ Some q)) c.in-Ok.is (c.asked_root.ensures.is d b log j) in
    let image = subst (λ w. Image d b log (g.W.Words.words w)) (sym (c.asked_root.ensures.same ∙ c.length-seen.ensures.same)) i in
    let ops = c.changes.ensures.is d b log image (changes_asked d b log _ (parent_image d b log _ image) c.args.root c.args.at c.in-Ok.asked.spot c.in-Ok.asked.prefix a) in
    let p = log_at d b log c.in-Ok.asked.prefix in
    inl (changes_reply d b log c.args.root c.args.at c.in-Ok.asked.spot c.in-Ok.asked.prefix c.in-Ok-changes.ops c.length-seen.result a
    (subst (λ r. IfOk r (λ x. x ≡ changes d b p (ancestors d b p (c.args.root ∷ [])))) c.in-Ok-changes.is ops) (c.length-seen.ensures.is d b log (parent_image d b log _ i)))

pub returns-in-Err-changes-clause-is : goal.returns-in-Err-changes-clause-is
returns-in-Err-changes-clause-is g c d b log i =
    let j = image_kept g.W.Words.words d b log c.length-seen.ensures.same (parent_image d b log _ i) in
    let a = subst (λ r. MatchResult r (λ a. IsAskedRoot d b log c.args.root c.args.at a.spot a.prefix) (λ q. refuse_read d b log (read.Leaves c.args.root c.args.at) ≡ Some q)) c.in-Ok.is (c.asked_root.ensures.is d b log j) in
    inr (refl, changes_unrefused d b log c.args.root c.args.at a.unrefused)

pub returns-in-Err-clause-is : goal.returns-in-Err-clause-is
returns-in-Err-clause-is g c d b log i =
    let j = image_kept g.W.Words.words d b log c.length-seen.ensures.same (parent_image d b log _ i) in
    let r = subst (λ r. MatchResult r (λ a. IsAskedRoot d b log c.args.root c.args.at a.spot a.prefix) (λ q. refuse_read d b log (read.Leaves c.args.root c.args.at) ≡ Some q)) c.in-Err.is (c.asked_root.ensures.is d b log j) in
    inl (changes_refused d b log c.args.root c.args.at c.in-Err.refusal c.length-seen.result r (c.length-seen.ensures.is d b log (parent_image d b log _ i)))
