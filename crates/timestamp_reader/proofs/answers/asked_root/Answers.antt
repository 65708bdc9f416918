use Rattle.std.proofs.Common.{sym, subst, ◌≡◌, ◌∙◌, Some}
use Rattle.std.specs.Prelude.{MatchResult}
use Rattle.op_model.specs.Refusals.{first_of, refuse_root}
use Rattle.op_model.specs.Transcript.{log_at}
use Rattle.parent_rows.proofs.ChainWalks.{image_kept}
use Rattle.timestamp_reader.specs.Replies.{HoldsRoot}
use Rattle.timestamp_reader.proofs.ReadPrefixes.{is_prefix, time_refused}
use Rattle.timestamp_reader.proofs.Refused.{leaves_early, root_asked, root_unasked}
use Rattle.timestamp_reader.proofs.answers.asked_root.Goals as goal

pub returns-in-Err-clause-is : goal.returns-in-Err-clause-is
returns-in-Err-clause-is g c d b log i =
    leaves_early d b log c.args.root c.args.at c.in-Err.refusal (time_refused log c.args.at c.in-Err.refusal (sym (c.prefix_of.ensures.is d b log i) ∙ c.in-Err.is))

pub root_of_prefix-requires : goal.root_of_prefix-requires
root_of_prefix-requires g c =
    let r = c.requires.image in
    let p = is_prefix r.0 r.1 r.2 c.args.at c.in-Ok.prefix r.3.legal (sym (c.prefix_of.ensures.is r.0 r.1 r.2 r.3) ∙ c.in-Ok.is) in
    record { readable = (r.0, r.1, r.2, record { image = image_kept g.W.Words.words r.0 r.1 r.2 c.prefix_of.ensures.same r.3; low = p.low; high = p.high }) }

pub returns-in-Ok-root_of_prefix-clause-is : goal.returns-in-Ok-root_of_prefix-clause-is
returns-in-Ok-root_of_prefix-clause-is g c d b log i =
    let p = is_prefix d b log c.args.at c.in-Ok.prefix i.legal (sym (c.prefix_of.ensures.is d b log i) ∙ c.in-Ok.is) in
    root_asked d b log c.args.root c.args.at c.in-Ok.prefix c.in-Ok-root_of_prefix.spot p
    (subst (λ r. MatchResult r (HoldsRoot d b log (log_at d b log c.in-Ok.prefix) c.args.root) (λ e. first_of (refuse_root d b (log_at d b log c.in-Ok.prefix) c.args.root) ≡ Some e)) c.in-Ok-root_of_prefix.is
    (c.root_of_prefix.ensures.is d b log (record { image = image_kept g.W.Words.words d b log c.prefix_of.ensures.same i; low = p.low; high = p.high })))

pub returns-in-Err-root_of_prefix-clause-is : goal.returns-in-Err-root_of_prefix-clause-is
returns-in-Err-root_of_prefix-clause-is g c d b log i =
    let p = is_prefix d b log c.args.at c.in-Ok.prefix i.legal (sym (c.prefix_of.ensures.is d b log i) ∙ c.in-Ok.is) in
    root_unasked d b log c.args.root c.args.at c.in-Ok.prefix c.in-Err-root_of_prefix.refusal p
    (subst (λ r. MatchResult r (HoldsRoot d b log (log_at d b log c.in-Ok.prefix) c.args.root) (λ e. first_of (refuse_root d b (log_at d b log c.in-Ok.prefix) c.args.root) ≡ Some e)) c.in-Err-root_of_prefix.is
    (c.root_of_prefix.ensures.is d b log (record { image = image_kept g.W.Words.words d b log c.prefix_of.ensures.same i; low = p.low; high = p.high })))
