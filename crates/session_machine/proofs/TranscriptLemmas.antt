-- The replies that a client was given are a transcript.
use Rattle.std.proofs.Common.{◌≡◌, ℕ, List, ◌∷◌, ◌++◌, reverse, sym, ◌∙◌, ap, subst}
use Rattle.std.specs.Prelude.{◌==◌}
use Rattle.std.specs.List.{filter}
use Rattle.op_model.specs.declared.base.Dataset.{Dataset}
use Rattle.op_model.specs.declared.base.Base.{Base}
use Rattle.op_model.specs.declared.request.Edit.{Edit}
use Rattle.op_model.specs.declared.entry.Entry.{Entry}
use Rattle.op_model.specs.declared.request.Request.TheVariants as request
use Rattle.op_model.specs.declared.reply.Reply.{Reply}
use Rattle.op_model.specs.Transcript.{Line, Asks, WholeTranscript}
use Rattle.op_model.proofs.TranscriptLemmas.{reverse_more}
use Rattle.op_model.proofs.ReversedLemmas.{whole as reversed_whole}
use Rattle.session_machine.specs.Machine.{Answer, Restart, Phase, Ready, Again, Locking, Pinning, Planning, Waiting, Checking, Committing, Yielding, Releasing, Replying, Ended, ClientState}
use Rattle.session_machine.specs.Invariant.{RepliedTo, IsOpen, ClientHistory}
use Rattle.session_machine.specs.Laws.{replies_of}

module _ (d : Dataset) (b : Base) where
  pub whole : (log : List Entry) (i : ℕ) (asked : List Line) (replies : List Reply) (own : List Entry) (seen : ℕ) (lines : List Line) → RepliedTo d b log i asked replies own seen
      → own ≡ filter (λ e. e.client == i) log → WholeTranscript d b log i (reverse asked ++ lines) (reverse replies)
  whole log i asked replies own seen lines s q = reversed_whole d b log i asked replies own s.0 lines s.2 q

  opened : (log : List Entry) (i : ℕ) (s : ClientState) (edit : Edit) → IsOpen d b log i s edit
      → s.own ≡ filter (λ e. e.client == i) log → WholeTranscript d b log i (reverse s.asked ++ s.lines) (reverse s.replies)
  opened log i s edit o q =
      subst (λ x. WholeTranscript d b log i x (reverse s.replies)) (sym (reverse_more (Asks (request.Edit edit)) o.0 s.lines) ∙ ap (λ x. reverse x ++ s.lines) (sym o.1))
      (whole log i o.0 s.replies s.own s.seen (Asks (request.Edit edit) ∷ s.lines) o.2 q)

  pub transcript : (log : List Entry) (i : ℕ) (s : ClientState) (p : Phase) → ClientHistory d b log i s p → WholeTranscript d b log i (reverse s.asked ++ s.lines) (reverse (replies_of s p))
  transcript log i s Ready o = whole log i s.asked s.replies s.own s.seen s.lines o.replied o.own
  transcript log i s Ended o = whole log i s.asked s.replies s.own s.seen s.lines o.replied o.own
  transcript log i s (Again edit) o = opened log i s edit o.replied o.own
  transcript log i s (Locking edit n ns) o = opened log i s edit o.replied o.own
  transcript log i s (Pinning edit) o = opened log i s edit o.replied o.own
  transcript log i s (Planning edit) o = opened log i s edit o.replied o.own
  transcript log i s (Waiting edit changed shown) o = opened log i s edit o.replied o.own
  transcript log i s (Checking edit changed shown) o = opened log i s edit o.replied o.own
  transcript log i s (Committing edit shown e) o = opened log i s edit o.replied o.own
  transcript log i s (Releasing (Restart edit)) o = opened log i s edit o.replied o.own
  transcript log i s (Releasing (Answer r)) o = whole log i s.asked (r ∷ s.replies) s.own s.seen s.lines o.replied o.own
  transcript log i s (Yielding r) o = whole log i s.asked (r ∷ s.replies) s.own s.seen s.lines o.replied o.own
  transcript log i s (Replying r) o = whole log i s.asked (r ∷ s.replies) s.own s.seen s.lines o.replied o.own
