-- What was read of a stream so far.
use Rattle.std.proofs.Common.{◌≡◌, ℕ, ◌-◌, ◌<◌, ◌≤◌, ◌^◌, Bool, true, false, List, [], ◌∷◌, ◌++◌, length, take, Option, Some, None, refl, sym, ◌∙◌, ap, subst, arith, length-append}
use Rattle.std.proofs.lemmas.Bool.{false≢true}
use Rattle.std.proofs.KnownBytes.{Consumes-nil, Consumes-trans}
use Rattle.std.specs.Io.KnownBytes.{Consumes, IsAtEnd}
use Rattle.request_lines.specs.Lines.{lines_of}
use Rattle.client_events.specs.declared.lines.LineText.{LineText}
use Rattle.client_events.specs.declared.lines.LineText.TheVariants as text
use Rattle.client_session.specs.declared.session.LineRead.{LineRead}
use Rattle.client_session.specs.declared.session.LineRead.TheVariants as reads
use Rattle.client_session.specs.declared.session.Session.{Session}
use Rattle.client_session.specs.Feeds.{Ends, IsNext, IsEnd, IsFault, IsTooLong}
use Rattle.client_session.specs.Giving.{HasGiven, ended_of, texts as texts_of}
use Rattle.client_session.specs.Sessions.{NextLine, client_of, given_by, is_over, is_stopped, sink_of, source_of, taken_by, waiting_in}
use Rattle.pcg_base.specs.Causes.{Rose}
use Rattle.pcg_base.specs.Told.{LosesFront}
use Rattle.pcg_base.specs.declared.reading.StreamEnd.{StreamEnd}
use Rattle.pcg_base.specs.declared.reading.StreamEnd.TheVariants as ends
use Rattle.stream_lines.specs.Keeping.{HasBytes, IsTaken, Keeps}
use Rattle.stream_lines.specs.Streams.{AreTexts, EndsIn, EndsTold, HasLines, IsText}

texts_more : (ts : List LineText) (ls : List (List ℕ)) (t : LineText) (l : List ℕ) → AreTexts ts ls → IsText t l → AreTexts (ts ++ t ∷ []) (ls ++ l ∷ [])
texts_more [] [] t l h i = (i, tt)
texts_more [] (m ∷ ls) t l h i = absurd h
texts_more (s ∷ ts) [] t l h i = absurd h
texts_more (s ∷ ts) (m ∷ ls) t l h i = (h.0, texts_more ts ls t l h.1 i)

-- bytes that are kept are a line
bytes_text : (v : LineText) (line : List ℕ) → HasBytes v line → length line ≤ 65536 → IsText v line
bytes_text (text.Bytes bytes) line h l = (h, l)
bytes_text (text.Long n) line h l = absurd h

-- a stream at its end stays there
ends_still : (a b c : Option (List ℕ)) (s t : List ℕ) → Consumes a b s → EndsTold a b → Consumes b c t → t ≡ [] → EndsTold a c
ends_still None b c s t o h k e = tt
ends_still (Some x) None c s t o h k e = absurd o
ends_still (Some x) (Some y) None s t o h k e = absurd k
ends_still (Some x) (Some y) (Some z) s t o h k e = sym (ap (λ w. w ++ z) e) ∙ (sym k ∙ h)

told : (a b : Option (List ℕ)) → IsAtEnd b → EndsTold a b
told None b h = tt
told (Some x) b h = h

none_behind : (xs ys : List ℕ) → xs ++ ys ≡ [] → ys ≡ []
none_behind [] ys e = e
none_behind (x ∷ xs) ys e = cc

-- a front was taken, and then another
pub front_more : (a b c : Option (List ℕ)) → LosesFront a b → LosesFront b c → LosesFront a c
front_more a b c h k = (h.0 ++ k.0, Consumes-trans a b c h.0 k.0 h.1 k.1)

-- what holds of the lines that a session gives
pub record Laws : Type 0 where
  pub next : (taken read rest after line : List ℕ) (lines : List (List ℕ)) (over : Bool) (left : Option (List ℕ)) → HasGiven false taken lines rest
      → IsNext line over (length taken - length rest) (rest ++ read) after left → HasGiven over (taken ++ read) (lines ++ (line ∷ [])) after
  pub all : (taken read rest after : List ℕ) (lines : List (List ℕ)) (over : Bool) (left : Option (List ℕ)) → HasGiven over taken lines rest
      → IsEnd over (rest ++ read) after left → lines_of (taken ++ read) ≡ lines
  pub fault : (taken read rest : List ℕ) (lines : List (List ℕ)) (before now : ℕ) → HasGiven false taken lines rest
      → IsFault (rest ++ read) before now → ended_of (taken ++ read) ≡ lines
  pub long : (taken read rest : List ℕ) (lines : List (List ℕ)) → HasGiven false taken lines rest
      → IsTooLong (length taken - length rest) (rest ++ read) → ended_of (take (2 ^ 30) (taken ++ read)) ≡ lines

module _ {S K : Type 0} (left : S → Option (List ℕ)) (faults : S → ℕ) where
  -- lines were read and kept, and the stream goes on
  pub record ReadSoFar (first now : Session S K) (texts : List LineText) : Type 0 where
    pub taken : List ℕ
    pub consumed : Consumes (left (source_of first)) (left (source_of now)) taken
    pub count : taken_by now ≡ length taken
    pub lines : List (List ℕ)
    pub given : HasGiven (is_over now) taken lines (waiting_in now)
    pub kept : AreTexts texts lines
    pub at_end : is_over now ≡ true → EndsTold (left (source_of first)) (left (source_of now))
    pub going : is_stopped now ≡ false
    pub still : faults (source_of now) ≡ faults (source_of first)
    pub client : client_of now ≡ client_of first
    pub sink : sink_of now ≡ sink_of first

  pub begun : (first : Session S K) → is_stopped first ≡ false → taken_by first ≡ 0 → waiting_in first ≡ [] → is_over first ≡ false → ReadSoFar first first []
  begun first going none waits over = record {
    taken = [];
    consumed = Consumes-nil (left (source_of first));
    count = none;
    lines = [];
    given = subst (λ o. HasGiven o [] [] (waiting_in first)) (sym over) (tt, sym waits, omega arith);
    kept = tt;
    at_end = λ e. absurd (false≢true (sym over ∙ e));
    going = going;
    still = refl;
    client = refl;
    sink = refl;
  }

  module _ (laws : Laws) (first now next : Session S K) (texts : List LineText) (r : ReadSoFar first now texts) where
    -- one line more
    line_more : (answer : LineRead) (line : List ℕ) (t : LineText) (n : NextLine left faults answer now next)
        → IsNext line (is_over next) (given_by now) (waiting_in now ++ n.read) (waiting_in next) (left (source_of next)) → IsText t line
        → is_stopped next ≡ false → faults (source_of next) ≡ faults (source_of now) → is_over now ≡ false → ReadSoFar first next (texts ++ t ∷ [])
    line_more answer line t n is kept going still over = record {
      taken = r.taken ++ n.read;
      consumed = Consumes-trans (left (source_of first)) (left (source_of now)) (left (source_of next)) r.taken n.read r.consumed n.consumes;
      count = (let k = length-append r.taken n.read in let c = r.count in let m = n.taken in omega (arith, k, c, m));
      lines = r.lines ++ line ∷ [];
      given = laws.next r.taken n.read (waiting_in now) (waiting_in next) line r.lines (is_over next) (left (source_of next))
          (subst (λ o. HasGiven o r.taken r.lines (waiting_in now)) over r.given)
          (subst (λ k. IsNext line (is_over next) (k - length (waiting_in now)) (waiting_in now ++ n.read) (waiting_in next) (left (source_of next))) r.count is);
      kept = texts_more texts r.lines t line r.kept kept;
      at_end = λ e. told (left (source_of first)) (left (source_of next)) (subst (λ o. Ends o line (given_by now) (waiting_in now ++ n.read) (waiting_in next) (left (source_of next))) e is.ends).3;
      going = going;
      still = still ∙ r.still;
      client = n.client ∙ r.client;
      sink = n.sink ∙ r.sink;
    }

    none_closed : (answer : LineRead) → NextLine left faults answer now next → (answer ≡ reads.End → ⊥) → is_over now ≡ false
    none_closed answer n other = go (is_over now) refl
      where
        go : (t : Bool) → is_over now ≡ t → t ≡ false
        go true e = absurd (other (n.closed e))
        go false e = refl

    finished : (answer : LineRead) (end : StreamEnd) (n : NextLine left faults answer now next) → EndsIn end (r.taken ++ n.read) r.lines (left (source_of first)) (left (source_of next)) (faults (source_of first)) (faults (source_of next))
        → HasLines (left (source_of first)) (left (source_of next)) (faults (source_of first)) (faults (source_of next)) texts end
    finished answer end n e = record {
      taken = r.taken ++ n.read;
      consumed = Consumes-trans (left (source_of first)) (left (source_of now)) (left (source_of next)) r.taken n.read r.consumed n.consumes;
      lines = r.lines;
      kept = r.kept;
      ends = e;
    }

    at_last : (n : NextLine left faults reads.End now next) → IsEnd (is_over now) (waiting_in now ++ n.read) (waiting_in next) (left (source_of next))
        → EndsTold (left (source_of first)) (left (source_of next))
    at_last n e = go (is_over now) refl
      where
        go : (t : Bool) → is_over now ≡ t → EndsTold (left (source_of first)) (left (source_of next))
        go true q = ends_still (left (source_of first)) (left (source_of now)) (left (source_of next)) r.taken n.read r.consumed (r.at_end q) n.consumes (none_behind (waiting_in now) n.read e.none_held)
        go false q = told (left (source_of first)) (left (source_of next)) (e.at_end q)

    -- a line was read, or the stream has ended
    abbrev pub Taken : List LineText → Option StreamEnd → Type 0
    Taken texts' None = ReadSoFar first next texts'
    Taken texts' (Some end) = HasLines (left (source_of first)) (left (source_of next)) (faults (source_of first)) (faults (source_of next)) texts' end

    by_answer : (answer : LineRead) (texts' : List LineText) (end : Option StreamEnd) → NextLine left faults answer now next → Keeps answer texts texts' end → Taken texts' end
    by_answer (reads.Line line) texts' end n k =
        subst (Taken texts') (sym k.3)
        (subst (λ ts. Taken ts None) (sym k.2)
        (line_more (reads.Line line) line.now k.0 n n.answers.1 (bytes_text k.0 line.now k.1 n.answers.0) n.stopped (n.still refl) (none_closed (reads.Line line) n (λ q. cc))))
    by_answer (reads.Long m) texts' end n k =
        let a = n.answers in
        subst (Taken texts') (sym k.1)
        (subst (λ ts. Taken ts None) (sym k.0)
        (line_more (reads.Long m) a.0 (text.Long m) n a.3 (sym a.1, subst (λ j. 65536 < j) refl a.2) n.stopped (n.still refl) (none_closed (reads.Long m) n (λ q. cc))))
    by_answer reads.End texts' end n k =
        subst (Taken texts') (sym k.1)
        (subst (λ ts. Taken ts (Some ends.Whole)) (sym k.0)
        (finished reads.End ends.Whole n (
          laws.all r.taken n.read (waiting_in now) (waiting_in next) r.lines (is_over now) (left (source_of next)) r.given n.answers,
          at_last n n.answers,
          n.still refl ∙ r.still,
        )))
    by_answer reads.ReadFault texts' end n k =
        let over = none_closed reads.ReadFault n (λ q. cc) in
        subst (Taken texts') (sym k.1)
        (subst (λ ts. Taken ts (Some ends.Broken)) (sym k.0)
        (finished reads.ReadFault ends.Broken n (
          laws.fault r.taken n.read (waiting_in now) r.lines (faults (source_of now)) (faults (source_of next)) (subst (λ o. HasGiven o r.taken r.lines (waiting_in now)) over r.given) n.answers,
          subst (λ m. Rose m (faults (source_of next))) r.still n.answers.rose,
        )))
    by_answer reads.TooLong texts' end n k =
        let over = none_closed reads.TooLong n (λ q. cc) in
        let g = subst (λ o. HasGiven o r.taken r.lines (waiting_in now)) over r.given in
        let long : IsTooLong (length r.taken - length (waiting_in now)) (waiting_in now ++ n.read) = subst (λ j. IsTooLong (j - length (waiting_in now)) (waiting_in now ++ n.read)) r.count n.answers in
        subst (Taken texts') (sym k.1)
        (subst (λ ts. Taken ts (Some ends.TooLong)) (sym k.0)
        (finished reads.TooLong ends.TooLong n (
          laws.long r.taken n.read (waiting_in now) r.lines g long,
          over_limit n.read g long,
          n.still refl ∙ r.still,
        )))
      where
        over_limit : (read : List ℕ) → HasGiven false r.taken r.lines (waiting_in now) → IsTooLong (length r.taken - length (waiting_in now)) (waiting_in now ++ read) → 2 ^ 30 < length (r.taken ++ read)
        over_limit read g l =
            let a = length-append r.taken read in
            let b = length-append (waiting_in now) read in
            let c = length-append (texts_of r.lines) (waiting_in now) in
            let d : length r.taken ≡ length (texts_of r.lines ++ waiting_in now) = ap length g.1 in
            let m = l.long in
            omega (arith, a, b, c, d, m)

    pub taken_one : (texts' : List LineText) (end : Option StreamEnd) → IsTaken left faults now next texts texts' end → Taken texts' end
    taken_one texts' end t = by_answer t.0 texts' end t.1 t.2
