-- The replies that were written are a transcript.
use Rattle.std.proofs.Common.{◌≡◌, ℕ, suc, false, List, [], ◌∷◌, ◌++◌, length, reverse, sym, ◌∙◌, ap, subst}
use Rattle.std.specs.Prelude.{◌==◌}
use Rattle.std.specs.List.{filter}
use Rattle.op_model.specs.declared.base.Dataset.{Dataset}
use Rattle.op_model.specs.declared.base.Base.{Base}
use Rattle.op_model.specs.declared.entry.Entry.{Entry}
use Rattle.op_model.specs.declared.reply.Reply.{Reply}
use Rattle.op_model.specs.Transcript.{Line, WholeTranscript}
use Rattle.op_model.specs.Reversed.{IsReplied, OutOfMemory, BadLine, Answered, Refused, Accepted}
use Rattle.op_model.proofs.TranscriptLemmas.{reverse_more}
use Rattle.session_machine.specs.Machine.{Answer, Restart, Phase, Ready, Again, Locking, Pinning, Planning, Waiting, Checking, Committing, Yielding, Releasing, Replying, Ended, ClientState}
use Rattle.session_machine.specs.Invariant.{RepliedTo, ClientHistory}
use Rattle.session_machine.specs.Laws.{is_edited, owes_entry}
use Rattle.session_machine.proofs.TranscriptLemmas.{whole, transcript}
use Rattle.session_machine.proofs.EventLemmas.{le_self}
use Rattle.std.proofs.lemmas.Bool.{false≢true}

module _ (d : Dataset) (b : Base) where
  own_kept : (log : List Entry) (i line last : ℕ) (own : List Entry) (a : Line) (r : Reply) (k : ℕ) (owns : List Entry) → is_edited r ≡ false → IsReplied d b log i line last own a r k owns → owns ≡ own
  own_kept log i line last own a r k owns e (OutOfMemory x y z) = z
  own_kept log i line last own a r k owns e (BadLine error x y z w) = w
  own_kept log i line last own a r k owns e (Answered q x l m n y z) = z
  own_kept log i line last own a r k owns e (Refused edit refusal x y l m n z w) = w
  own_kept log i line last own a r k owns e (Accepted edit f op at retired made shown x y m n t w) = absurd (false≢true (sym e ∙ ap is_edited y))

  but_last : (log : List Entry) (i : ℕ) (asked : List Line) (r : Reply) (replies : List Reply) (own : List Entry) (seen : ℕ) (lines : List Line) → is_edited r ≡ false → RepliedTo d b log i asked (r ∷ replies) own seen
      → own ≡ filter (λ e. e.client == i) log → WholeTranscript d b log i (reverse asked ++ lines) (reverse replies)
  but_last log i [] r replies own seen lines e s q = absurd s.2
  but_last log i (a ∷ asked) r replies own seen lines e s q =
      let k : own ≡ s.2.1 = own_kept log i (suc (length asked)) s.2.0 s.2.1 a r s.0 own e s.2.2 in
      subst (λ x. WholeTranscript d b log i x (reverse replies)) (sym (reverse_more a asked lines))
      (whole d b log i asked replies s.2.1 s.2.0 (a ∷ lines) (s.2.0, le_self s.2.0, s.2.3) (sym k ∙ q))

  pub written : (log : List Entry) (i : ℕ) (s : ClientState) (p : Phase) → owes_entry p ≡ false → ClientHistory d b log i s p → WholeTranscript d b log i (reverse s.asked ++ s.lines) (reverse s.replies)
  written log i s Ready e o = transcript d b log i s Ready o
  written log i s Ended e o = transcript d b log i s Ended o
  written log i s (Again edit) e o = transcript d b log i s (Again edit) o
  written log i s (Locking edit n ns) e o = transcript d b log i s (Locking edit n ns) o
  written log i s (Pinning edit) e o = transcript d b log i s (Pinning edit) o
  written log i s (Planning edit) e o = transcript d b log i s (Planning edit) o
  written log i s (Waiting edit changed shown) e o = transcript d b log i s (Waiting edit changed shown) o
  written log i s (Checking edit changed shown) e o = transcript d b log i s (Checking edit changed shown) o
  written log i s (Committing edit shown f) e o = transcript d b log i s (Committing edit shown f) o
  written log i s (Releasing (Restart edit)) e o = transcript d b log i s (Releasing (Restart edit)) o
  written log i s (Releasing (Answer r)) e o = but_last log i s.asked r s.replies s.own s.seen s.lines e o.replied o.own
  written log i s (Yielding r) e o = but_last log i s.asked r s.replies s.own s.seen s.lines e o.replied o.own
  written log i s (Replying r) e o = but_last log i s.asked r s.replies s.own s.seen s.lines e o.replied o.own
