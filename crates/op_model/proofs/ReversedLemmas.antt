-- A transcript is one told from its end, and another client's entry leaves it.
use Rattle.std.proofs.Common.{◌≡◌, ℕ, suc, ◌+◌, ◌-◌, ◌≤◌, eqb, List, [], ◌∷◌, ◌++◌, length, reverse, refl, sym, ◌∙◌, ap, subst, arith, Some}
use Rattle.std.specs.Prelude.{◌==◌}
use Rattle.std.specs.List.{filter}
use Rattle.std.proofs.lemmas.Bool.{ne_eqb, cond-false}
use Rattle.std.proofs.lemmas.List.{reverse-reverse, append-nil}
use Rattle.op_model.specs.declared.base.Dataset.{Dataset}
use Rattle.op_model.specs.declared.base.Base.{Base}
use Rattle.op_model.specs.declared.entry.Entry.{Entry}
use Rattle.op_model.specs.declared.request.Request.TheVariants as request
use Rattle.op_model.specs.declared.reply.Reply.{Reply}
use Rattle.op_model.specs.Cuts.{Shows}
use Rattle.op_model.specs.Refusals.{refused}
use Rattle.op_model.specs.Answers.{answer}
use Rattle.op_model.specs.Transcript.{Line, log_at, read_reply, Transcript, entries_of, WholeTranscript}
use Rattle.op_model.specs.Reversed.{IsReplied, OutOfMemory, BadLine, Answered, Refused, Accepted, ReversedTranscript}
use Rattle.op_model.specs.Laws.{TranscriptsReverse, TranscriptsLast}
use Rattle.op_model.proofs.TranscriptLemmas.{reverse_more, one, first}

-- the log at a length stays what it was
pub log_at_more : (d : Dataset) (b : Base) (e : Entry) (log : List Entry) (k : ℕ) → k ≤ length log → log_at d b (e ∷ log) k ≡ log_at d b log k
unfolding log_at
log_at_more d b e log k l = let q : suc (length log) - k ≡ suc (length log - k) = omega arith in rw q refl

module _ (d : Dataset) (b : Base) where
  forward : (log : List Entry) (i : ℕ) (asked : List Line) (replies : List Reply) (own : List Entry) (last : ℕ) → ReversedTranscript d b log i asked replies own last
      → (rest : List Entry) (lines : List Line) (rs : List Reply) → Transcript d b log i (suc (length asked)) last rest lines rs
      → Transcript d b log i 1 1 (reverse own ++ rest) (reverse asked ++ lines) (reverse replies ++ rs)
  forward log i [] [] own last s rest lines rs t =
      subst (λ o. Transcript d b log i 1 1 (reverse o ++ rest) lines rs) (sym s.0) (subst (λ n. Transcript d b log i 1 n rest lines rs) s.1 t)
  forward log i [] (r ∷ replies) own last s rest lines rs t = absurd s
  forward log i (a ∷ asked) [] own last s rest lines rs t = absurd s
  forward log i (a ∷ asked) (r ∷ replies) owns k s rest lines rs t =
      let add : suc (suc (length asked)) ≡ suc (length asked) + 1 = omega arith in
      let o = one d b log i (suc (length asked)) s.0 s.1 a r k owns rest lines rs s.2 (subst (λ n. Transcript d b log i n k rest lines rs) add t) in
      let u = forward log i asked replies s.1 s.0 s.3 o.0 (a ∷ lines) (r ∷ rs) o.2 in
      subst (λ x. Transcript d b log i 1 1 x (reverse (a ∷ asked) ++ lines) (reverse (r ∷ replies) ++ rs)) (sym o.1)
      (subst (λ x. Transcript d b log i 1 1 (reverse s.1 ++ o.0) x (reverse (r ∷ replies) ++ rs)) (sym (reverse_more a asked lines))
      (subst (λ x. Transcript d b log i 1 1 (reverse s.1 ++ o.0) (reverse asked ++ a ∷ lines) x) (sym (reverse_more r replies rs)) u))

  -- told from its end, with all the client's entries, it is a transcript
  pub whole : (log : List Entry) (i : ℕ) (asked : List Line) (replies : List Reply) (own : List Entry) (last : ℕ) (lines : List Line) → ReversedTranscript d b log i asked replies own last
      → own ≡ filter (λ e. e.client == i) log → WholeTranscript d b log i (reverse asked ++ lines) (reverse replies)
  unfolding entries_of
  whole log i asked replies own last lines s q =
      let u = forward log i asked replies own last s [] lines [] refl in
      subst (λ x. Transcript d b log i 1 1 (reverse x) (reverse asked ++ lines) (reverse replies)) q
      (subst (λ x. Transcript d b log i 1 1 x (reverse asked ++ lines) (reverse replies)) (append-nil (reverse own))
      (subst (λ x. Transcript d b log i 1 1 (reverse own ++ []) (reverse asked ++ lines) x) (append-nil (reverse replies)) u))

  back : (log : List Entry) (i : ℕ) (asked : List Line) (replies : List Reply) (own : List Entry) (last : ℕ) → ReversedTranscript d b log i asked replies own last
      → (rest : List Entry) (lines : List Line) (rs : List Reply) → Transcript d b log i (suc (length asked)) last rest lines rs
      → (all left : List Line) × (owns : List Entry) × (k : ℕ) × (reverse asked ++ lines ≡ reverse all ++ left) × (reverse own ++ rest ≡ reverse owns)
      × ReversedTranscript d b log i all (reverse rs ++ replies) owns k
  back log i asked replies own last s rest lines [] t =
      (asked, lines, own, last, refl, ap (λ x. reverse own ++ x) t ∙ append-nil (reverse own), s)
  back log i asked replies own last s rest [] (r ∷ rs) t = absurd t
  back log i asked replies own last s rest (a ∷ lines) (r ∷ rs) t =
      let add : suc (length asked) + 1 ≡ suc (suc (length asked)) = omega arith in
      let o = first d b log i (suc (length asked)) last own rest a lines r rs t in
      let u = back log i (a ∷ asked) (r ∷ replies) o.1 o.0 (last, own, o.3, s) o.2 lines rs (subst (λ n. Transcript d b log i n o.0 o.2 lines rs) add o.5) in
      (u.0, u.1, u.2, u.3, sym (reverse_more a asked lines) ∙ u.4, o.4 ∙ u.5, subst (λ x. ReversedTranscript d b log i u.0 x u.2 u.3) (sym (reverse_more r rs replies)) u.6)

  told_back : (log : List Entry) (i : ℕ) (lines : List Line) (replies : List Reply) → WholeTranscript d b log i lines replies
      → (asked left : List Line) × (last : ℕ) × (lines ≡ reverse asked ++ left) × ReversedTranscript d b log i asked (reverse replies) (filter (λ e. e.client == i) log) last
  unfolding entries_of
  told_back log i lines replies t =
      let u = back log i [] [] [] 1 (refl, refl) (reverse (filter (λ e. e.client == i) log)) lines replies t in
      let own : u.2 ≡ filter (λ e. e.client == i) log = sym (reverse-reverse u.2) ∙ (ap (λ x. reverse x) (sym u.5) ∙ reverse-reverse (filter (λ e. e.client == i) log)) in
      (u.0, u.1, u.3, u.4, subst (λ x. ReversedTranscript d b log i u.0 (reverse replies) x u.3) own (subst (λ x. ReversedTranscript d b log i u.0 x u.2 u.3) (append-nil (reverse replies)) u.6))

  told_whole : (log : List Entry) (i : ℕ) (lines : List Line) (replies : List Reply) (asked left : List Line) (last : ℕ) → lines ≡ reverse asked ++ left
      → ReversedTranscript d b log i asked (reverse replies) (filter (λ e. e.client == i) log) last → WholeTranscript d b log i lines replies
  told_whole log i lines replies asked left last q s =
      subst (λ x. WholeTranscript d b log i x replies) (sym q)
      (subst (λ x. WholeTranscript d b log i (reverse asked ++ left) x) (reverse-reverse replies) (whole log i asked (reverse replies) (filter (λ e. e.client == i) log) last left s refl))

  -- an entry more
  pub replied_more : (e : Entry) (log : List Entry) (i line last : ℕ) (own : List Entry) (a : Line) (r : Reply) (k : ℕ) (owns : List Entry)
      → IsReplied d b log i line last own a r k owns → IsReplied d b (e ∷ log) i line last own a r k owns
  replied_more e log i line last own a r k owns (OutOfMemory x y z) = OutOfMemory x y z
  replied_more e log i line last own a r k owns (BadLine error x y z w) = BadLine error x y z w
  replied_more e log i line last own a r k owns (Answered q x l m n y z) =
      Answered q x l m (omega arith) (subst (λ h. r ≡ read_reply (refused d b h (request.Read q)) h (answer d b h q)) (sym (log_at_more d b e log k n)) y) z
  replied_more e log i line last own a r k owns (Refused edit refusal x y l m n z w) =
      Refused edit refusal x y l m (omega arith) (subst (λ h. refused d b h (request.Edit edit) ≡ Some refusal) (sym (log_at_more d b e log k n)) z) w
  replied_more e log i line last own a r k owns (Accepted edit f op at retired made shown x y m n t w) =
      let less : k - 1 ≤ length log = omega arith in
      Accepted edit f op at retired made shown x y m (omega arith)
      (t.0, t.1, t.2, t.3, t.4, t.5, t.6, t.7, subst (λ h. Shows d b h edit shown) (sym (log_at_more d b e log (k - 1) less)) t.8) w

  pub reversed_more : (e : Entry) (log : List Entry) (i : ℕ) (asked : List Line) (replies : List Reply) (own : List Entry) (last : ℕ)
      → ReversedTranscript d b log i asked replies own last → ReversedTranscript d b (e ∷ log) i asked replies own last
  reversed_more e log i [] [] own last s = s
  reversed_more e log i [] (r ∷ replies) own last s = s
  reversed_more e log i (a ∷ asked) [] own last s = s
  reversed_more e log i (a ∷ asked) (r ∷ replies) owns k s =
      (s.0, s.1, replied_more e log i (suc (length asked)) s.0 s.1 a r k owns s.2, reversed_more e log i asked replies s.1 s.0 s.3)

pub reverses : TranscriptsReverse
reverses d b log i lines replies = (told_back d b log i lines replies, λ t. told_whole d b log i lines replies t.0 t.1 t.2 t.3 t.4)

pub transcript_lasts : TranscriptsLast
transcript_lasts d b e log i lines replies other t =
    let u = told_back d b log i lines replies t in
    let own : filter (λ f. f.client == i) (e ∷ log) ≡ filter (λ f. f.client == i) log = cond-false (eqb e.client i) _ _ (ne_eqb e.client i other) in
    told_whole d b (e ∷ log) i lines replies u.0 u.1 u.2 u.3
    (subst (λ x. ReversedTranscript d b (e ∷ log) i u.0 (reverse replies) x u.2) (sym own) (reversed_more d b e log i u.0 (reverse replies) _ u.2 u.4))
