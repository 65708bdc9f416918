use Rattle.std.proofs.Common.{◌≡◌, Some, refl, subst, inl, inr}
use Rattle.std.specs.Prelude.{MatchResult, IfOk}
use Rattle.op_model.specs.declared.request.Read.TheVariants as read
use Rattle.op_model.specs.Refusals.{refuse_read}
use Rattle.parent_rows.proofs.ChainWalks.{image_kept}
use Rattle.timestamp_reader.specs.Replies.{IsAskedRoot}
use Rattle.timestamp_reader.proofs.Refused.{leaves_reply, refused_reply}
use Rattle.timestamp_reader.proofs.answers.leaves_reply.Goals as goal

pub returns-in-Ok-leaves-clause-is : goal.returns-in-Ok-leaves-clause-is
returns-in-Ok-leaves-clause-is g c d b log i =
    let j = image_kept g.W.Words.words d b log c.length-seen.ensures.same i in
    let a = subst (λ r. MatchResult r (λ a. IsAskedRoot d b log c.args.root c.args.at a.spot a.prefix) (λ q. refuse_read d b log (read.Leaves c.args.root c.args.at) ≡ Some q)) c.in-Ok.is (c.asked_root.ensures.is d b log j) in
    let ids = c.leaves.ensures.is d b log a.held.node (image_kept g.W.Words.words d b log c.asked_root.ensures.same j) a.held.stands in
    inl (leaves_reply d b log c.args.root c.args.at c.in-Ok.asked.spot c.in-Ok.asked.prefix c.in-Ok-leaves.leaves c.length-seen.result a (subst (λ r. IfOk r (λ x. x ≡ a.held.node.leaves)) c.in-Ok-leaves.is ids) (c.length-seen.ensures.is d b log i))

pub returns-in-Err-leaves-clause-is : goal.returns-in-Err-leaves-clause-is
returns-in-Err-leaves-clause-is g c d b log i =
    let j = image_kept g.W.Words.words d b log c.length-seen.ensures.same i in
    let a = subst (λ r. MatchResult r (λ a. IsAskedRoot d b log c.args.root c.args.at a.spot a.prefix) (λ q. refuse_read d b log (read.Leaves c.args.root c.args.at) ≡ Some q)) c.in-Ok.is (c.asked_root.ensures.is d b log j) in
    inr (refl, a.unrefused)

pub returns-in-Err-clause-is : goal.returns-in-Err-clause-is
returns-in-Err-clause-is g c d b log i =
    let j = image_kept g.W.Words.words d b log c.length-seen.ensures.same i in
    let r = subst (λ r. MatchResult r (λ a. IsAskedRoot d b log c.args.root c.args.at a.spot a.prefix) (λ q. refuse_read d b log (read.Leaves c.args.root c.args.at) ≡ Some q)) c.in-Err.is (c.asked_root.ensures.is d b log j) in
    inl (refused_reply d b log (read.Leaves c.args.root c.args.at) c.in-Err.refusal c.length-seen.result r (c.length-seen.ensures.is d b log i))
