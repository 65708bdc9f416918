use Rattle.std.proofs.Common.{◌≡◌, Some, subst}
use Rattle.std.specs.Prelude.{MatchResult}
use Rattle.op_model.specs.declared.request.Read.TheVariants as read
use Rattle.op_model.specs.Refusals.{refuse_read}
use Rattle.parent_rows.proofs.ChainWalks.{image_kept}
use Rattle.timestamp_reader.specs.Replies.{IsAsked}
use Rattle.timestamp_reader.proofs.Refused.{refused_reply, root_reply}
use Rattle.timestamp_reader.proofs.answers.root_reply.Goals as goal

pub returns-in-Ok-clause-is : goal.returns-in-Ok-clause-is
returns-in-Ok-clause-is g c d b log i =
    let j = image_kept g.W.Words.words d b log c.length-seen.ensures.same i in
    let a = subst (λ r. MatchResult r (λ a. IsAsked d b log c.args.sv c.args.at a.spot a.prefix) (λ q. refuse_read d b log (read.Root c.args.sv c.args.at) ≡ Some q)) c.in-Ok.is (c.asked_supervoxel.ensures.is d b log j) in
    root_reply d b log c.args.sv c.args.at c.in-Ok.asked.spot c.in-Ok.asked.prefix c.root_at-root.result c.length-seen.result a
    (c.root_at-root.ensures.is d b log c.args.sv (image_kept g.W.Words.words d b log c.asked_supervoxel.ensures.same j) a.stands a.high) (c.length-seen.ensures.is d b log i)

pub returns-in-Err-clause-is : goal.returns-in-Err-clause-is
returns-in-Err-clause-is g c d b log i =
    let j = image_kept g.W.Words.words d b log c.length-seen.ensures.same i in
    let r = subst (λ r. MatchResult r (λ a. IsAsked d b log c.args.sv c.args.at a.spot a.prefix) (λ q. refuse_read d b log (read.Root c.args.sv c.args.at) ≡ Some q)) c.in-Err.is (c.asked_supervoxel.ensures.is d b log j) in
    refused_reply d b log (read.Root c.args.sv c.args.at) c.in-Err.refusal c.length-seen.result r (c.length-seen.ensures.is d b log i)
