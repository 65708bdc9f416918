use Rattle.std.proofs.Common.{◌≡◌, ◌∙◌, false, sym, subst}
use Rattle.std.specs.Prelude.{MatchOption}
use Rattle.std.specs.List.{list_any}
use Rattle.graph_model.specs.Lists.{has}
use Rattle.op_model.specs.Transcript.{log_at}
use Rattle.node_reader.specs.Readable.{IsReadable}
use Rattle.timestamp_reader.specs.Replies.{HoldsRoot}
use Rattle.timestamp_reader.proofs.Refused.{not_a_root, no_such_root}
use Rattle.timestamp_reader.proofs.answers.root_of_prefix.Goals as goal

pub returns-then-not-is_root_id-clause-is : goal.returns-then-not-is_root_id-clause-is
returns-then-not-is_root_id-clause-is g c d b log r = not_a_root d b (log_at d b log c.args.prefix) c.args.root (sym (c.is_root_id.ensures.is d b log r.image) ∙ c.if-not-is_root_id.true)

pub returns-in-None-clause-is : goal.returns-in-None-clause-is
returns-in-None-clause-is g c d b log r =
    let form = sym (c.is_root_id.ensures.is d b log r.image) ∙ c.if-not-is_root_id.false in
    no_such_root d b (log_at d b log c.args.prefix) c.args.root form
    (subst (λ o. MatchOption o (list_any (λ e. has e.made c.args.root) (log_at d b log c.args.prefix) ≡ false) (HoldsRoot d b log (log_at d b log c.args.prefix) c.args.root)) c.in-None.is
    (c.made_below.ensures.is d b log (subst (λ w. IsReadable d b log (g.W.Words.words w) c.args.prefix) (sym c.is_root_id.ensures.same) r) form))
