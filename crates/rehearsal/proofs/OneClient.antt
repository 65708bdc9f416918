-- What one client came to, by the bytes of its files.
use Rattle.std.proofs.Common.{◌≡◌, ◌≤◌, ℕ, Bool, true, false, List, [], ◌++◌, Option, Some, None, sym, ◌∙◌, ap, subst, arith}
use Rattle.std.specs.Prelude.{is_some}
use Rattle.std.specs.Io.KnownBytes.{Appends, Consumes, IsAtEnd}
use Rattle.op_model.specs.declared.base.Dataset.{Dataset}
use Rattle.op_model.specs.declared.base.Base.{Base}
use Rattle.op_model.specs.declared.entry.Entry.{Entry}
use Rattle.op_model.specs.declared.reply.Reply.{Reply}
use Rattle.pcg_base.specs.Causes.{Rose, added}
use Rattle.pcg_base.specs.declared.reading.StreamEnd.{StreamEnd}
use Rattle.pcg_base.specs.declared.reading.StreamEnd.TheVariants as ends
use Rattle.pcg_base.specs.States.{PlaceState}
use Rattle.pcg_base.specs.Told.{Files, KeepsFiles, LeavesNone, TellsAt, TellsTo}
use Rattle.pcg_words.specs.Job.{answer_file, request_file}
use Rattle.client_answers.specs.Written.{FaultsSo, HasTexts, texts}
use Rattle.stream_lines.specs.Streams.{EndsIn}
use Rattle.job_files.specs.Clients.{Empties, emptied}
use Rattle.job_files.specs.Kept.{AreKeptIn, AreKeptOut, IsAt, IsKeptIn, IsKeptOut}
use Rattle.session_results.specs.Results.{IsSession, SessionResult, Streams}
use Rattle.rehearsal.specs.Clients.{AreTexts, HasAnswers, IsClient, LinesAre, ReadsSo, TakenAt, WritesSo, broke}

-- what a place tells is told on
told_on : (files mid : Option Files) (names : List (List ℕ)) (m : Files) → files ≡ Some m → Empties files names mid → (m' : Files) × (mid ≡ Some m')
told_on None mid names m e h = absurd (cc)
told_on (Some f) mid names m e h = (_, h)

-- a source that had the bytes of its name, of which some were taken
taken_at : (files mid : Option Files) (names : List (List ℕ)) (name taken rest : List ℕ) (before after : Option (List ℕ)) → Empties files names mid → TellsAt files name before → Consumes before after taken
    → TellsTo mid after rest → (left : List ℕ → List ℕ) → left name ≡ rest → TakenAt files left name taken
taken_at None mid names name taken rest before after e t c k left l = tt
taken_at (Some m) mid names name taken rest None after e t c k left l = absurd t
taken_at (Some m) mid names name taken rest (Some xs) None e t c k left l = absurd c
taken_at (Some m) mid names name taken rest (Some xs) (Some ys) e t c k left l =
    let told : Some ys ≡ Some rest = subst (λ f. TellsTo f (Some ys) rest) e k in
    let same : ys ≡ left name = cc in
    t ∙ ap (λ z. Some z) (c ∙ ap (λ z. taken ++ z) same)

lines_are : (ending : StreamEnd) (taken : List ℕ) (lines : List (List ℕ)) (left left' : Option (List ℕ)) (i j : ℕ) → EndsIn ending taken lines left left' i j → LinesAre ending taken lines
lines_are ends.Whole taken lines left left' i j h = h.0
lines_are ends.Broken taken lines left left' i j h = h.0
lines_are ends.TooLong taken lines left left' i j h = (h.0, h.1)

none_left : (files mid : Option Files) (names : List (List ℕ)) (name taken rest : List ℕ) (lines : List (List ℕ)) (ending : StreamEnd) (before after : Option (List ℕ)) (i j : ℕ) → Empties files names mid → TellsAt files name before
    → EndsIn ending taken lines before after i j → TellsTo mid after rest → (left : List ℕ → List ℕ) → left name ≡ rest → ending ≡ ends.Whole → LeavesNone files (left name)
none_left None mid names name taken rest lines ending before after i j e t h k left l w = tt
none_left (Some m) mid names name taken rest lines ending None after i j e t h k left l w = absurd t
none_left (Some m) mid names name taken rest lines ending (Some xs) after i j e t h k left l w =
    let whole : EndsIn ends.Whole taken lines (Some xs) after i j = subst (λ x. EndsIn x taken lines (Some xs) after i j) w h in
    let told : after ≡ Some rest = subst (λ f. TellsTo f after rest) e k in
    l ∙ subst IsAtEnd told whole.1

-- what an empty sink holds behind its replies is what its file has
answers_are : (files mid new : Option Files) (names : List (List ℕ)) (name : List ℕ) (held held' : Option (List ℕ)) (written : List Reply) (last : Option Reply) → Empties files names mid → TellsTo files held []
    → IsAt mid new name held' → HasTexts held held' written last → HasAnswers files new name written last
answers_are None mid new names name held held' written last e t a h = tt
answers_are (Some m) mid new names name held held' written last e t a h =
    let at : IsAt (Some (emptied m names)) new name held' = subst (λ f. IsAt f new name held') e a in
    subst (λ f. HasAnswers (Some m) f name written last) (sym at.3) (at.0, at.4, go last (subst (λ x. HasTexts x held' written last) t h) at.2)
  where
    go : (last : Option Reply) → HasTexts (Some []) held' written last → {answers : List ℕ} → held' ≡ Some answers → AreTexts answers written last
    go None h e = subst (λ x. Appends (Some []) x (texts written)) e h
    go (Some r) h e = (h.0, h.1, h.2, subst (λ x. Appends (Some []) x (texts written ++ h.0)) e h.3)

-- a count to which nothing was added, and one to which something was
added_none : (c f now : ℕ) → now ≡ added c f → c ≤ now → f ≡ 0 → now ≡ c
added_none c f now e l z = omega (arith, e, l, z)

added_some : (c f now : ℕ) → now ≡ added c f → 1 ≤ f → Rose c now
added_some c f now e p = omega (arith, e, p)

reads_so : (ending : StreamEnd) (taken name : List ℕ) (lines : List (List ℕ)) (left left' : Option (List ℕ)) (f : ℕ) (old new : PlaceState) → EndsIn ending taken lines left left' 0 f
    → (new.counts name).source_faults ≡ added (old.counts name).source_faults f → (old.counts name).source_faults ≤ (new.counts name).source_faults → (1 ≤ f → Rose old.reads new.reads)
    → ReadsSo ending name old new
reads_so ends.Whole taken name lines left left' f old new h e l r = added_none _ f _ e l h.2
reads_so ends.Broken taken name lines left left' f old new h e l r =
    let p : 1 ≤ f = omega (arith, h.1) in
    record { place = r p; here = added_some _ f _ e p }
reads_so ends.TooLong taken name lines left left' f old new h e l r = added_none _ f _ e l h.2

writes_so : (failed : Bool) (name : List ℕ) (f : ℕ) (old new : PlaceState) → FaultsSo 0 f failed
    → (new.counts name).sink_faults ≡ added (old.counts name).sink_faults f → (old.counts name).sink_faults ≤ (new.counts name).sink_faults → (1 ≤ f → Rose old.writes new.writes)
    → WritesSo failed name old new
writes_so false name f old new h e l r = added_none _ f _ e l h
writes_so true name f old new h e l r =
    let p : 1 ≤ f = omega (arith, h) in
    record { place = r p; here = added_some _ f _ e p }

-- a source that wasn't broken never failed
pub unbroken : (ending : StreamEnd) (taken : List ℕ) (lines : List (List ℕ)) (left left' : Option (List ℕ)) (f : ℕ) → EndsIn ending taken lines left left' 0 f → broke ending ≡ false → f ≡ 0
unbroken ends.Whole taken lines left left' f h e = h.2
unbroken ends.Broken taken lines left left' f h e = cc
unbroken ends.TooLong taken lines left left' f h e = h.2

pub unfailed : (last : Option Reply) (f : ℕ) → FaultsSo 0 f (is_some last) → last ≡ None → f ≡ 0
unfailed None f h e = h
unfailed (Some r) f h e = cc

-- from the call's start on answers were opened, and no count rose
pub record IsOpen (answers : List (List ℕ)) (a b : PlaceState) : Type 0 where
  pub files : Empties a.files answers b.files
  pub reads : b.reads ≡ a.reads
  pub writes : b.writes ≡ a.writes
  pub counts : (name : List ℕ) → b.counts name ≡ a.counts name

-- the states of a place: answers were opened, requests kept back, and answers kept back
pub record IsKept (requests answers : List (List ℕ)) (sources sinks : List (Option (List ℕ) × ℕ)) (a b c d : PlaceState) : Type 0 where
  pub opened : IsOpen answers a b
  pub kept_in : AreKeptIn requests sources b c
  pub kept_out : AreKeptOut answers sinks c d

-- what the files are told by
pub told_mid : (requests answers : List (List ℕ)) (sources sinks : List (Option (List ℕ) × ℕ)) (a b c d : PlaceState) → IsKept requests answers sources sinks a b c d → Empties a.files answers c.files
told_mid requests answers sources sinks a b c d k = go a.files b.files k.opened.files k.kept_in.files
  where
    go : (f g : Option Files) → Empties f answers g → KeepsFiles g c.files → Empties f answers c.files
    go None g e h = tt
    go (Some m) g e h = subst (λ x. KeepsFiles x c.files) e h

module _ (d : Dataset) (b : Base) (log : List Entry) (requests answers : List (List ℕ)) (sources sinks : List (Option (List ℕ) × ℕ)) (s t u v : PlaceState) (k : IsKept requests answers sources sinks s t u v) where
  pub one_client : (client : ℕ) (stem : List ℕ) (x : Streams) (r : SessionResult) → TellsAt s.files (request_file stem) x.left → x.read_faults ≡ 0 → TellsTo s.files x.held [] → x.write_faults ≡ 0
      → IsKeptIn (request_file stem) (x.left', x.read_faults') t u → IsKeptOut (answer_file stem) (x.held', x.write_faults') u v
      → IsSession d b log client x r → IsClient d b log s v client stem r
  one_client client stem x r told none empty quiet kin kout h =
      let mid = told_mid requests answers sources sinks s t u v k in
      let left : v.left (request_file stem) ≡ u.left (request_file stem) = k.kept_out.left (request_file stem) in
      let ends0 : EndsIn r.ending h.taken r.lines x.left x.left' 0 x.read_faults' = subst (λ n. EndsIn r.ending h.taken r.lines x.left x.left' n x.read_faults') none h.ends in
      let broke0 : FaultsSo 0 x.write_faults' (is_some r.last) = subst (λ n. FaultsSo n x.write_faults' (is_some r.last)) quiet h.broke in
      let here = k.kept_out.sources (request_file stem) in
      let was = ap (λ c. c.source_faults) (k.opened.counts (request_file stem)) in
      let was_out = ap (λ c. c.sink_faults) (k.opened.counts (answer_file stem)) in
      let here_in = k.kept_in.sinks (answer_file stem) in
      record {
        taken = h.taken;
        stream = taken_at s.files t.files answers (request_file stem) h.taken (u.left (request_file stem)) x.left x.left' k.opened.files told h.consumed kin.left v.left left;
        lines = lines_are r.ending h.taken r.lines x.left x.left' x.read_faults x.read_faults' h.ends;
        whole = none_left s.files t.files answers (request_file stem) h.taken (u.left (request_file stem)) r.lines r.ending x.left x.left' x.read_faults x.read_faults' k.opened.files told h.ends kin.left v.left left;
        transcript = h.transcript;
        each = h.each;
        answers = answers_are s.files u.files v.files answers (answer_file stem) x.held x.held' r.written r.last mid empty kout.file h.texts;
        reads = reads_so r.ending h.taken (request_file stem) r.lines x.left x.left' x.read_faults' s v ends0
            (here ∙ kin.faults ∙ ap (λ c. added c x.read_faults') was)
            (omega (arith, kin.later, here, was))
            (λ p. omega (arith, kin.rose p, k.kept_out.reads, k.opened.reads));
        writes = writes_so (is_some r.last) (answer_file stem) x.write_faults' s v broke0
            (kout.faults ∙ ap (λ c. added c x.write_faults') (here_in ∙ was_out))
            (omega (arith, kout.later, here_in, was_out))
            (λ p. omega (arith, kout.rose p, k.kept_in.writes, k.opened.writes));
      }
