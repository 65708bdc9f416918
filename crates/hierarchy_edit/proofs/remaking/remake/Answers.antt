use Rattle.std.proofs.Common.{◌^◌, ◌<◌, sym, subst}
use Rattle.edge_rows.proofs.ChainFacts.{image_kept}
use Rattle.hierarchy_edit.proofs.Committed.{last_small}
use Rattle.hierarchy_edit.proofs.Refused.{allowed, refused_late, stamped_so}
use Rattle.hierarchy_edit.proofs.remaking.remake.Goals as goal

pub returns-in-Some-clause-refused : goal.returns-in-Some-clause-refused
returns-in-Some-clause-refused g c b log image plan =
    refused_late c.args.dataset.now b log c.args.plan.now.edit c.in-Ok.listed c.late.result c.in-Some.refusal (c.in-Ok.ensures.listed b log image plan) c.late.ensures c.in-Some.is

pub next_time-at-requires : goal.next_time-at-requires
next_time-at-requires g c =
    let r = c.requires.plan in
    let is = c.in-Ok.ensures.listed r.0 r.1 r.2 r.3 in
    subst (λ t. t < 2 ^ 62) (sym is.last) (last_small c.args.dataset.now r.0 r.1 r.2.legal)

pub draft_entry-requires : goal.draft_entry-requires
draft_entry-requires g c =
    let r = c.requires.plan in
    let d = c.args.dataset.now in
    let edit = c.args.plan.now.edit in
    let is = c.in-Ok.ensures.listed r.0 r.1 r.2 r.3 in
    record {
      plan = (
        r.0,
        r.1,
        image_kept g.W.Words.words d r.0 r.1 c.list_entry.ensures.same r.2,
        r.3,
        is,
        allowed d r.0 r.1 edit c.in-Ok.listed c.late.result is c.late.ensures c.in_default-late.not-Some,
        stamped_so d r.0 r.1 edit c.args.stamp c.in-Ok.listed c.next_time-at.result is c.next_time-at.ensures,
      );
    }

pub returns-clause-remade : goal.returns-clause-remade
returns-clause-remade g c b log image plan =
    let d = c.args.dataset.now in
    let edit = c.args.plan.now.edit in
    let is = c.in-Ok.ensures.listed b log image plan in
    c.in-Ok-draft_entry.ensures.remade b log (image_kept g.W.Words.words d b log c.list_entry.ensures.same image) plan is (allowed d b log edit c.in-Ok.listed c.late.result is c.late.ensures c.in_default-late.not-Some)
    (stamped_so d b log edit c.args.stamp c.in-Ok.listed c.next_time-at.result is c.next_time-at.ensures)
