-- One line of a transcript and its reply, from the front and from the end.
use Rattle.std.proofs.Common.{◌≡◌, ℕ, ◌+◌, ◌≤◌, List, [], ◌∷◌, ◌++◌, length, reverse, refl, sym, ◌∙◌, ap, subst, Option, Some, None}
use Rattle.std.proofs.lemmas.List.{reverse-append, append_assoc}
use Rattle.op_model.specs.declared.base.Dataset.{Dataset}
use Rattle.op_model.specs.declared.base.Base.{Base}
use Rattle.op_model.specs.declared.request.Read.{Read}
use Rattle.op_model.specs.declared.request.Read.TheVariants as read
use Rattle.op_model.specs.declared.request.Request.TheVariants as request
use Rattle.op_model.specs.declared.entry.Entry.{Entry}
use Rattle.op_model.specs.declared.reply.Refusal.{Refusal}
use Rattle.op_model.specs.declared.reply.Reply.{Reply}
use Rattle.op_model.specs.declared.reply.Reply.TheVariants as reply
use Rattle.op_model.specs.Refusals.{refused}
use Rattle.op_model.specs.Answers.{answer}
use Rattle.op_model.specs.Transcript.{Line, Asks, Faulty, log_at, read_reply, Transcript}
use Rattle.op_model.specs.Reversed.{IsReplied, OutOfMemory, BadLine, Answered, Refused, Accepted}

pub reverse_more : {X : Type 0} (x : X) (xs ys : List X) → reverse (x ∷ xs) ++ ys ≡ reverse xs ++ x ∷ ys
reverse_more x xs ys = ap (λ zs. zs ++ ys) (reverse-append (x ∷ []) xs) ∙ append_assoc (reverse xs) (x ∷ []) ys

module _ (d : Dataset) (b : Base) where
  abbrev From : List Entry → ℕ → ℕ → ℕ → List Entry → List Line → List Reply → Type 0
  From log i line last own lines replies = Transcript d b log i line last own lines replies

  not_short : (o : Option Refusal) (log : List Entry) (q : Read) → reply.NoMemory ≡ read_reply o log (answer d b log q) → ⊥
  unfolding read_reply answer
  not_short None log (read.Root v at) e = cc
  not_short None log (read.Path v at) e = cc
  not_short None log (read.Leaves r at) e = cc
  not_short None log (read.Changes r at) e = cc
  not_short (Some r) log q e = cc

  answered : (log : List Entry) (i line last : ℕ) (own : List Entry) (lines : List Line) (rs : List Reply) (q : Read) (r : Reply) (k : ℕ) → 1 ≤ k → last ≤ k → k ≤ length log
      → r ≡ read_reply (refused d b (log_at d b log k) (request.Read q)) (log_at d b log k) (answer d b (log_at d b log k) q) → From log i (line + 1) k own lines rs
      → From log i line last own (Asks (request.Read q) ∷ lines) (r ∷ rs)
  answered log i line last own lines rs q reply.NoMemory k l m n e t = absurd (not_short _ (log_at d b log k) q e)
  answered log i line last own lines rs q (reply.Root x0 x1) k l m n e t = (k, l, m, n, e, t)
  answered log i line last own lines rs q (reply.Path x0 x1) k l m n e t = (k, l, m, n, e, t)
  answered log i line last own lines rs q (reply.Leaves x0 x1) k l m n e t = (k, l, m, n, e, t)
  answered log i line last own lines rs q (reply.Changes x0 x1) k l m n e t = (k, l, m, n, e, t)
  answered log i line last own lines rs q (reply.Edited x0 x1 x2 x3 x4 x5) k l m n e t = (k, l, m, n, e, t)
  answered log i line last own lines rs q (reply.Refused x0 x1) k l m n e t = (k, l, m, n, e, t)
  answered log i line last own lines rs q (reply.BadLine x0) k l m n e t = (k, l, m, n, e, t)

  -- a line with its reply goes before the others
  pub one : (log : List Entry) (i line last : ℕ) (own : List Entry) (a : Line) (r : Reply) (k : ℕ) (owns own2 : List Entry) (lines : List Line) (rs : List Reply)
      → IsReplied d b log i line last own a r k owns → From log i (line + 1) k own2 lines rs
      → (own3 : List Entry) × (reverse owns ++ own2 ≡ reverse own ++ own3) × From log i line last own3 (a ∷ lines) (r ∷ rs)
  one log i line last own a r k owns own2 lines rs (OutOfMemory x y z) t =
      (own2, ap (λ o. reverse o ++ own2) z, subst (λ q. From log i line last own2 (a ∷ lines) (q ∷ rs)) (sym x) (subst (λ n. From log i (line + 1) n own2 lines rs) y t))
  one log i line last own a r k owns own2 lines rs (BadLine error x y z w) t = (
    own2,
    ap (λ o. reverse o ++ own2) w,
    subst (λ q. From log i line last own2 (a ∷ lines) (q ∷ rs)) (sym y)
        (subst (λ q. From log i line last own2 (q ∷ lines) (reply.BadLine error ∷ rs)) (sym x) (refl, subst (λ n. From log i (line + 1) n own2 lines rs) z t)),
  )
  one log i line last own a r k owns own2 lines rs (Answered q x l m n y z) t = (
    own2,
    ap (λ o. reverse o ++ own2) z,
    subst (λ p. From log i line last own2 (p ∷ lines) (r ∷ rs)) (sym x) (answered log i line last own2 lines rs q r k l m n y t),
  )
  one log i line last own a r k owns own2 lines rs (Refused edit refusal x y l m n z w) t = (
    own2,
    ap (λ o. reverse o ++ own2) w,
    subst (λ q. From log i line last own2 (a ∷ lines) (q ∷ rs)) (sym y)
        (subst (λ q. From log i line last own2 (q ∷ lines) (reply.Refused refusal k ∷ rs)) (sym x) (l, m, n, z, t)),
  )
  one log i line last own a r k owns own2 lines rs (Accepted edit e op at retired made shown x y m n tells w) t = (
    e ∷ own2,
    ap (λ o. reverse o ++ own2) w ∙ reverse_more e own own2,
    subst (λ q. From log i line last (e ∷ own2) (a ∷ lines) (q ∷ rs)) (sym y)
        (subst (λ q. From log i line last (e ∷ own2) (q ∷ lines) (reply.Edited op at retired made shown k ∷ rs)) (sym x) (m, n, tells, t)),
  )

  -- what the first line and its reply are, and the transcript of the others; before them the replies told of the entries own
  pub first : (log : List Entry) (i line last : ℕ) (own rest : List Entry) (a : Line) (lines : List Line) (r : Reply) (rs : List Reply) → From log i line last rest (a ∷ lines) (r ∷ rs)
      → (k : ℕ) × (owns left : List Entry) × IsReplied d b log i line last own a r k owns × (reverse own ++ rest ≡ reverse owns ++ left) × From log i (line + 1) k left lines rs
  first log i line last own rest a lines reply.NoMemory rs t = (last, own, rest, OutOfMemory refl refl refl, refl, t)
  first log i line last own rest (Faulty error) lines (reply.Root x0 x1) rs t = (last, own, rest, BadLine error refl t.0 refl refl, refl, t.1)
  first log i line last own rest (Faulty error) lines (reply.Path x0 x1) rs t = (last, own, rest, BadLine error refl t.0 refl refl, refl, t.1)
  first log i line last own rest (Faulty error) lines (reply.Leaves x0 x1) rs t = (last, own, rest, BadLine error refl t.0 refl refl, refl, t.1)
  first log i line last own rest (Faulty error) lines (reply.Changes x0 x1) rs t = (last, own, rest, BadLine error refl t.0 refl refl, refl, t.1)
  first log i line last own rest (Faulty error) lines (reply.Edited x0 x1 x2 x3 x4 x5) rs t = (last, own, rest, BadLine error refl t.0 refl refl, refl, t.1)
  first log i line last own rest (Faulty error) lines (reply.Refused x0 x1) rs t = (last, own, rest, BadLine error refl t.0 refl refl, refl, t.1)
  first log i line last own rest (Faulty error) lines (reply.BadLine x0) rs t = (last, own, rest, BadLine error refl t.0 refl refl, refl, t.1)
  first log i line last own rest (Asks (request.Read q)) lines (reply.Root x0 x1) rs t = (t.0, own, rest, Answered q refl t.1 t.2 t.3 t.4 refl, refl, t.5)
  first log i line last own rest (Asks (request.Read q)) lines (reply.Path x0 x1) rs t = (t.0, own, rest, Answered q refl t.1 t.2 t.3 t.4 refl, refl, t.5)
  first log i line last own rest (Asks (request.Read q)) lines (reply.Leaves x0 x1) rs t = (t.0, own, rest, Answered q refl t.1 t.2 t.3 t.4 refl, refl, t.5)
  first log i line last own rest (Asks (request.Read q)) lines (reply.Changes x0 x1) rs t = (t.0, own, rest, Answered q refl t.1 t.2 t.3 t.4 refl, refl, t.5)
  first log i line last own rest (Asks (request.Read q)) lines (reply.Edited x0 x1 x2 x3 x4 x5) rs t = (t.0, own, rest, Answered q refl t.1 t.2 t.3 t.4 refl, refl, t.5)
  first log i line last own rest (Asks (request.Read q)) lines (reply.Refused x0 x1) rs t = (t.0, own, rest, Answered q refl t.1 t.2 t.3 t.4 refl, refl, t.5)
  first log i line last own rest (Asks (request.Read q)) lines (reply.BadLine x0) rs t = (t.0, own, rest, Answered q refl t.1 t.2 t.3 t.4 refl, refl, t.5)
  first log i line last own rest (Asks (request.Edit edit)) lines (reply.Root x0 x1) rs t = absurd t
  first log i line last own rest (Asks (request.Edit edit)) lines (reply.Path x0 x1) rs t = absurd t
  first log i line last own rest (Asks (request.Edit edit)) lines (reply.Leaves x0 x1) rs t = absurd t
  first log i line last own rest (Asks (request.Edit edit)) lines (reply.Changes x0 x1) rs t = absurd t
  first log i line last own [] (Asks (request.Edit edit)) lines (reply.Edited op at retired made shown k) rs t = absurd t
  first log i line last own (e ∷ rest) (Asks (request.Edit edit)) lines (reply.Edited op at retired made shown k) rs t =
      (k, e ∷ own, rest, Accepted edit e op at retired made shown refl refl t.0 t.1 t.2 refl, sym (reverse_more e own rest), t.3)
  first log i line last own rest (Asks (request.Edit edit)) lines (reply.Refused refusal k) rs t = (k, own, rest, Refused edit refusal refl refl t.0 t.1 t.2 t.3 refl, refl, t.4)
  first log i line last own rest (Asks (request.Edit edit)) lines (reply.BadLine x0) rs t = absurd t
