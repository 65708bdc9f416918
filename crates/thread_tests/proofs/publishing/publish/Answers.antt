use Rattle.std.proofs.Common.{ap, ◌∙◌}
use Rattle.shared_rows.specs.Known.{Known}
use Rattle.thread_tests.specs.Samples.{merge}
use Rattle.thread_tests.proofs.SampleLogs.{merge_adds}
use Rattle.thread_tests.proofs.publishing.publish.Goals as goal

pub draft-requires-clause-adds : goal.draft-requires-clause-adds
draft-requires-clause-adds c = (merge, merge_adds c.args.pass.now.view c.requires.ready c.args.draft.now c.requires.draft)

pub publish_merge-requires : goal.publish_merge-requires
publish_merge-requires c = (
  ap (λ (k : Known). k.table) c.draft.ensures.drafted ∙ c.requires.own,
  (
    ap (λ (k : Known). k.view.fresh) c.draft.ensures.drafted ∙ c.requires.ready.fresh_is,
    c.draft.ensures.whole merge (merge_adds c.args.pass.now.view c.requires.ready c.args.draft.now c.requires.draft),
  ),
)
