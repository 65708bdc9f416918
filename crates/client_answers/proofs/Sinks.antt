-- One client's sink, as its replies are written.
use Rattle.std.proofs.Common.{◌≡◌, ℕ, suc, ◌+◌, Bool, true, false, if◌then◌else◌, cond, List, [], ◌∷◌, ◌++◌, length, reverse, count_by, is_some, option_to_list, Option, Some, None, refl, sym, ◌∙◌, ap, subst, arith, length-append}
use Rattle.std.proofs.lemmas.Bool.{false≢true}
use Rattle.std.proofs.lemmas.List.{append_assoc, append-nil}
use Rattle.std.proofs.lemmas.List.Sums.{sum_by-append}
use Rattle.std.specs.Io.KnownBytes.{Appends}
use Rattle.op_model.specs.declared.reply.Reply.{Reply}
use Rattle.op_model.proofs.TranscriptLemmas.{reverse_more}
use Rattle.request_lines.specs.Texts.{text_of_reply}
use Rattle.pcg_base.specs.Causes.{Rose}
use Rattle.pcg_base.specs.States.{SinkState}
use Rattle.pcg_base.specs.Told.{AppendsFront}
use Rattle.session_machine.specs.Machine.{ClientState, Ended, Ready}
use Rattle.client_answers.specs.declared.answers.ClientAnswers.{ClientAnswers}
use Rattle.client_answers.specs.Answers.{IsBroken, IsWritten, one_more, refuses}
use Rattle.client_answers.specs.Written.{Answered, FaultsSo, HasTexts, IsFresh, counted, texts}

texts_more : (rs : List Reply) (r : Reply) → texts (rs ++ r ∷ []) ≡ texts rs ++ text_of_reply r
unfolding texts
texts_more [] r = append-nil (text_of_reply r)
texts_more (q ∷ rs) r = ap (λ t. text_of_reply q ++ t) (texts_more rs r) ∙ sym (append_assoc (text_of_reply q) (texts rs) (text_of_reply r))

texts_none : texts [] ≡ []
unfolding texts
texts_none = refl

-- one text behind another
behind : (a b c : Option (List ℕ)) (s t u : List ℕ) → u ≡ s ++ t → Appends a b s → Appends b c t → Appends a c u
behind None b c s t u e h g = tt
behind (Some x) None c s t u e h g = absurd h
behind (Some x) (Some y) None s t u e h g = absurd g
behind (Some x) (Some y) (Some z) s t u e h g = g ∙ (ap (λ w. w ++ t) h ∙ (append_assoc x s t ∙ ap (λ w. x ++ w) (sym e)))

-- a front of a text behind texts
front_behind : (a b c : Option (List ℕ)) (s : List ℕ) (r : Reply) → Appends a b s → AppendsFront b c (text_of_reply r) → (front : List ℕ) × (rest : List ℕ) × (text_of_reply r ≡ front ++ rest) × Appends a c (s ++ front)
front_behind None b c s r h g = ([], text_of_reply r, refl, tt)
front_behind (Some x) None c s r h g = absurd h
front_behind (Some x) (Some y) None s r h g = absurd g
front_behind (Some x) (Some y) (Some z) s r h g = (g.0, g.1, g.2, g.3 ∙ (ap (λ w. w ++ g.0) h ∙ append_assoc x s g.0))

appends_none : (a : Option (List ℕ)) → Appends a a []
appends_none None = tt
appends_none (Some x) = sym (append-nil x)

counts_more : (rs : List Reply) (r : Reply) → count_by refuses (rs ++ r ∷ []) ≡ (if refuses r then suc (count_by refuses rs) else count_by refuses rs)
counts_more rs r = sum_by-append (λ x. cond (refuses x) 1 0) rs (r ∷ []) ∙ go (refuses r) (count_by refuses rs)
  where
    go : (t : Bool) (n : ℕ) → n + (0 + cond t 1 0) ≡ (if t then suc n else n)
    go true n = omega arith
    go false n = omega arith

counted_more : (n : ℕ) → one_more (counted n) ≡ counted (suc n)
counted_more n = omega arith

refused_more : (n m k : ℕ) (t : Bool) → m ≡ counted n → k ≡ (if t then one_more m else m) → k ≡ counted (if t then suc n else n)
refused_more n m k true e f = f ∙ (ap one_more e ∙ counted_more n)
refused_more n m k false e f = f ∙ e

none_left : (l : Option Reply) → false ≡ is_some l → l ≡ None
none_left None e = refl
none_left (Some r) e = absurd (false≢true e)

-- the replies in their order, and one more
turned : (r : Reply) (rs written : List Reply) (l : Option Reply) → l ≡ None → reverse rs ≡ written ++ option_to_list l → reverse (r ∷ rs) ≡ written ++ r ∷ []
turned r rs written l n e =
    sym (append-nil (reverse (r ∷ rs))) ∙ (reverse_more r rs [] ∙ ap (λ w. w ++ r ∷ []) (e ∙ (ap (λ x. written ++ option_to_list x) n ∙ append-nil written)))

-- no client is ready and has ended
not_both : {A : Type 0} (s : ClientState) → s.phase ≡ Ready → s.phase ≡ Ended → A
not_both s p q = let e : Ready ≡ Ended = sym p ∙ q in cc

module _ {K : Type 0} (state : K → SinkState) where
  -- before the first reply
  pub fresh : (x : ClientAnswers K) (s : ClientState) → IsFresh x → s.replies ≡ [] → s.phase ≡ Ready → Answered state x x s
  fresh x s f e p =
      record {
        written = [];
        last = None;
        replies = ap (λ rs. reverse rs) e;
        broke = f.failed;
        ended = λ q. absurd (false≢true (sym f.failed ∙ q));
        drained = λ q n. not_both s p n;
        texts = subst (λ t. Appends (state x.sink).held (state x.sink).held t) (sym texts_none) (appends_none (state x.sink).held);
        faults_so = subst (λ t. FaultsSo (state x.sink).faults (state x.sink).faults t) (sym f.failed) refl;
        lines = f.lines;
        refused = f.refused;
      }

  -- the client goes on without a reply
  pub kept : (x y : ClientAnswers K) (s t : ClientState) → Answered state x y s → t.replies ≡ s.replies → (t.phase ≡ Ended → t.lines ≡ []) → y.failed ≡ false → Answered state x y t
  kept x y s t a e n f =
      record {
        written = a.written;
        last = a.last;
        replies = ap (λ rs. reverse rs) e ∙ a.replies;
        broke = a.broke;
        ended = λ q. absurd (false≢true (sym f ∙ q));
        drained = λ q. n;
        texts = a.texts;
        faults_so = a.faults_so;
        lines = a.lines;
        refused = a.refused;
      }

  whole : (x y : ClientAnswers K) (s : ClientState) (a : Answered state x y s) → y.failed ≡ false → Appends (state x.sink).held (state y.sink).held (texts a.written)
  whole x y s a f = subst (λ l. HasTexts (state x.sink).held (state y.sink).held a.written l) (none_left a.last (sym f ∙ a.broke)) a.texts

  still : (x y : ClientAnswers K) (s : ClientState) → Answered state x y s → y.failed ≡ false → (state y.sink).faults ≡ (state x.sink).faults
  still x y s a f = subst (λ t. FaultsSo (state x.sink).faults (state y.sink).faults t) f a.faults_so

  -- a reply was written
  pub put : (x y z : ClientAnswers K) (s t : ClientState) (r : Reply) → Answered state x y s → y.failed ≡ false → IsWritten state y r z → t.replies ≡ r ∷ s.replies → t.phase ≡ Ready
      → Answered state x z t
  put x y z s t r a f w e p =
      record {
        written = a.written ++ r ∷ [];
        last = None;
        replies = ap (λ rs. reverse rs) e ∙ (turned r s.replies a.written a.last (none_left a.last (sym f ∙ a.broke)) a.replies ∙ sym (append-nil (a.written ++ r ∷ [])));
        broke = w.failed ∙ f;
        ended = λ q. absurd (false≢true (sym (w.failed ∙ f) ∙ q));
        drained = λ q n. not_both t p n;
        texts = behind (state x.sink).held (state y.sink).held (state z.sink).held (texts a.written) (text_of_reply r) (texts (a.written ++ r ∷ [])) (texts_more a.written r) (whole x y s a f) w.text;
        faults_so = subst (λ b. FaultsSo (state x.sink).faults (state z.sink).faults b) (sym (w.failed ∙ f)) (w.still ∙ still x y s a f);
        lines = w.lines ∙ (ap one_more a.lines ∙ (counted_more (length a.written) ∙ ap counted (sym (longer a.written))));
        refused = refused_more (count_by refuses a.written) y.refused z.refused (refuses r) a.refused w.refused ∙ ap counted (sym (counts_more a.written r));
      }
    where
      longer : (rs : List Reply) → length (rs ++ r ∷ []) ≡ suc (length rs)
      longer rs = let n = length-append rs (r ∷ []) in omega (arith, n)

  -- the writing of a reply failed, and the client ended
  pub missed : (x y z : ClientAnswers K) (s t : ClientState) (r : Reply) → Answered state x y s → y.failed ≡ false → IsBroken state y r z → t.replies ≡ r ∷ s.replies → t.phase ≡ Ended
      → Answered state x z t
  missed x y z s t r a f w e end =
      record {
        written = a.written;
        last = Some r;
        replies = ap (λ rs. reverse rs) e ∙ turned r s.replies a.written a.last (none_left a.last (sym f ∙ a.broke)) a.replies;
        broke = w.failed;
        ended = λ q. end;
        drained = λ q n. absurd (false≢true (sym q ∙ w.failed));
        texts = front_behind (state x.sink).held (state y.sink).held (state z.sink).held (texts a.written) r (whole x y s a f) w.text;
        faults_so = subst (λ b. FaultsSo (state x.sink).faults (state z.sink).faults b) (sym w.failed) (subst (λ n. Rose n (state z.sink).faults) (still x y s a f) w.rose);
        lines = w.lines ∙ a.lines;
        refused = w.refused ∙ a.refused;
      }
