use Rattle.std.proofs.Common.{sym, subst}
use Rattle.timestamp_reader.specs.Replies.{ImageFor, IsAnswer}
use Rattle.timestamp_reader.proofs.answers.answer.Goals as goal

pub root_reply-requires : goal.root_reply-requires
root_reply-requires g c = let r = c.requires.image in record { image = (r.0, r.1, r.2, subst (λ q. ImageFor q r.0 r.1 r.2 (g.W.Words.words c.args.w.now)) c.in-Root.is r.3) }

pub returns-in-Root-clause-is : goal.returns-in-Root-clause-is
returns-in-Root-clause-is g c d b log i =
    subst (λ q. IsAnswer d b log q c.root_reply.result) (sym c.in-Root.is) (c.root_reply.ensures.is d b log (subst (λ q. ImageFor q d b log (g.W.Words.words c.args.w.now)) c.in-Root.is i))

pub path_reply-requires : goal.path_reply-requires
path_reply-requires g c = let r = c.requires.image in record { image = (r.0, r.1, r.2, subst (λ q. ImageFor q r.0 r.1 r.2 (g.W.Words.words c.args.w.now)) c.in-Path.is r.3) }

pub returns-in-Path-clause-is : goal.returns-in-Path-clause-is
returns-in-Path-clause-is g c d b log i =
    subst (λ q. IsAnswer d b log q c.path_reply.result) (sym c.in-Path.is) (c.path_reply.ensures.is d b log (subst (λ q. ImageFor q d b log (g.W.Words.words c.args.w.now)) c.in-Path.is i))

pub leaves_reply-requires : goal.leaves_reply-requires
leaves_reply-requires g c = let r = c.requires.image in record { image = (r.0, r.1, r.2, subst (λ q. ImageFor q r.0 r.1 r.2 (g.W.Words.words c.args.w.now)) c.in-Leaves.is r.3) }

pub returns-in-Leaves-clause-is : goal.returns-in-Leaves-clause-is
returns-in-Leaves-clause-is g c d b log i =
    subst (λ q. IsAnswer d b log q c.leaves_reply.result) (sym c.in-Leaves.is) (c.leaves_reply.ensures.is d b log (subst (λ q. ImageFor q d b log (g.W.Words.words c.args.w.now)) c.in-Leaves.is i))

pub changes_reply-requires : goal.changes_reply-requires
changes_reply-requires g c = let r = c.requires.image in record { image = (r.0, r.1, r.2, subst (λ q. ImageFor q r.0 r.1 r.2 (g.W.Words.words c.args.w.now)) c.in-Changes.is r.3) }

pub returns-in-Changes-clause-is : goal.returns-in-Changes-clause-is
returns-in-Changes-clause-is g c d b log i =
    subst (λ q. IsAnswer d b log q c.changes_reply.result) (sym c.in-Changes.is) (c.changes_reply.ensures.is d b log (subst (λ q. ImageFor q d b log (g.W.Words.words c.args.w.now)) c.in-Changes.is i))
