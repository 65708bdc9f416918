use Rattle.hierarchy_edit.proofs.Draftings.{drafting_of}
use Rattle.hierarchy_edit.proofs.Refused.{is_remade}
use Rattle.hierarchy_edit.proofs.drafting.draft_entry.Goals as goal

pub draft_of_lists-requires : goal.draft_of_lists-requires
draft_of_lists-requires g c =
    let r = c.requires.plan in
    record {
      drafting = (r.0, r.1, drafting_of c.args.dataset.now r.0 r.1 c.args.plan.now.edit c.args.plan.now.changed c.args.stamp c.args.at _ c.args.listed _ _ r.2 r.3 r.4 r.5 r.6 c.as_slice-nodes.ensures.value c.as_slice-links.ensures.value);
    }

pub returns-clause-remade : goal.returns-clause-remade
returns-clause-remade g c b log i plan is late time =
    is_remade c.args.dataset.now b log c.args.plan.now.edit c.args.stamp c.args.listed c.in_ok-draft.draft c.args.at is late
    (c.in_ok-draft.ensures.drafted b log
    (drafting_of c.args.dataset.now b log c.args.plan.now.edit c.args.plan.now.changed c.args.stamp c.args.at _ c.args.listed _ _ i plan is late time c.as_slice-nodes.ensures.value c.as_slice-links.ensures.value))
    time
