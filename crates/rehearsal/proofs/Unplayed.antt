-- Why sessions didn't begin, and what the files are then.
use Rattle.std.proofs.Common.{◌≡◌, ℕ, zero, suc, pred, Bool, true, false, List, [], ◌∷◌, map, length, take, Option, Some, None, bytes_eq, refl, sym, ◌∙◌, ap, subst, inl, inr}
use Rattle.std.specs.Prelude.{◌⊎◌, slice_get}
use Rattle.std.specs.FinMap.{get, insert}
use Rattle.std.proofs.lemmas.Option.{same_Some}
use Rattle.std.proofs.lemmas.Slice.Eq.{bytes_eq-Decides}
use Rattle.pcg_base.specs.Causes.{Rose}
use Rattle.pcg_base.specs.States.{PlaceState, SinkState}
use Rattle.pcg_base.specs.Told.{Files, TellsAt, TellsTo}
use Rattle.client_answers.specs.declared.answers.ClientAnswers.{ClientAnswers}
use Rattle.job_files.specs.declared.opening.OpenFault.{OpenFault}
use Rattle.job_files.specs.declared.opening.OpenFault.TheVariants as opens
use Rattle.job_files.specs.Places.{IsSame}
use Rattle.job_files.specs.Clients.{AnswersShut, AreEmpty, AreOpened, Empties, FrontWhole, emptied, kept_of}
use Rattle.job_files.specs.Kept.{AreKeptIn, AreKeptOut, IsAt, KeepsOther}
use Rattle.job_files.proofs.Emptying.{put_here, put_elsewhere}
use Rattle.call_lines.specs.declared.stops.FileName.TheVariants as files
use Rattle.call_lines.specs.declared.stops.Stop.{Stop}
use Rattle.call_lines.specs.declared.stops.Stop.TheVariants as stops
use Rattle.rehearsal.specs.Outcomes.{AreEmptyOrSame, SessionsStop}
use Rattle.rehearsal.proofs.Apart.{any_take}
use Rattle.rehearsal.proofs.Emptied.{each_opened, empties_behind, empties_kept, never_failed, other_kept, other_then, rose_on}
use Rattle.rehearsal.proofs.OneClient.{IsOpen}

-- a file of which some were emptied is empty or as it was
emptied_or_same : (m : Files) (names : List (List ℕ)) (name : List ℕ) → (get (emptied m names) name ≡ Some []) ⊎ (get (emptied m names) name ≡ get m name)
unfolding emptied
emptied_or_same m [] name = inr refl
emptied_or_same m (x ∷ xs) name = go (bytes_eq name x) refl (emptied_or_same (insert m x []) xs name)
  where
    go : (t : Bool) → bytes_eq name x ≡ t → (get (emptied (insert m x []) xs) name ≡ Some []) ⊎ (get (emptied (insert m x []) xs) name ≡ get (insert m x []) name)
        → (get (emptied (insert m x []) xs) name ≡ Some []) ⊎ (get (emptied (insert m x []) xs) name ≡ get m name)
    go t e (inl h) = inl h
    go true e (inr h) = inl (h ∙ ap (get (insert m x [])) ((bytes_eq-Decides name x).0 e) ∙ put_here m x [])
    go false e (inr h) = inr (h ∙ put_elsewhere m x [] name e)

emptied_same : (a b : Option Files) (names some : List (List ℕ)) → Empties a some b → AreEmptyOrSame names a b
emptied_same None b names some h = tt
emptied_same (Some m) b names some h = subst (AreEmptyOrSame names (Some m)) (sym h) (λ k name e. emptied_or_same m some name)

-- the sources were kept back whole
whole_front : {S : Type 0} (left : S → Option (List ℕ)) (faults : S → ℕ) (requests : List (List ℕ)) (sources : List S) (a b c : PlaceState) (told : Option Files) → AreOpened left faults a.files requests sources
    → (told ≡ a.files) → ((m : Files) → told ≡ Some m → (m' : Files) × (b.files ≡ Some m')) → AreKeptIn requests (map (λ x. (left x, faults x)) sources) b c → FrontWhole (length requests) requests told c.left
whole_front left faults requests sources a b c None opened same on kept k name below e = tt
whole_front left faults requests sources a b c (Some m) opened same on kept k name below e =
    let one = each_opened left faults a.files requests sources opened k name e in
    let at : TellsAt (Some m) name (left one.0) = subst (λ f. TellsAt f name (left one.0)) (sym same) one.2 in
    let told = on m refl in
    let is : TellsTo b.files (left one.0) (c.left name) = (kept.each k name (left one.0, faults one.0) e one.1).left in
    let now : left one.0 ≡ Some (c.left name) = subst (λ f. TellsTo f (left one.0) (c.left name)) told.1 is in
    subst (λ x. TellsAt (Some m) name x) now at

fewer_names : (answers : List (List ℕ)) (n : ℕ) (a b : Option Files) → KeepsOther a (take n answers) b → KeepsOther a answers b
fewer_names answers n None b k = tt
fewer_names answers n (Some m) None k = absurd k
fewer_names answers n (Some m) (Some m') k = λ name e. k name (any_take (bytes_eq name) n answers e)

-- no answers were opened: so did no session begin
pub answers_stop : {S : Type 0} (left : S → Option (List ℕ)) (faults : S → ℕ) (requests answers : List (List ℕ)) (sources : List S) (s t u v : PlaceState) (fault : OpenFault) (stop : Stop)
    → IsSame s t → AreOpened left faults s.files requests sources → AnswersShut answers t u fault → AreKeptIn requests (map (λ x. (left x, faults x)) sources) u v
    → ((files files' : Option Files) (names : List (List ℕ)) → Empties files names files' → KeepsOther files names files')
    → ((client : ℕ) → fault ≡ opens.Failed client → stop ≡ stops.WriteFault client files.Answers) → (fault ≡ opens.NoMemory → stop ≡ stops.NoMemory) → SessionsStop requests answers s v stop
answers_stop left faults requests answers sources s t u v (opens.Failed client) stop same opened h kept law f n =
    subst (SessionsStop requests answers s v) (sym (f client refl)) (
      h.0,
      h.1,
      h.2,
      record {
        place = subst (λ n. Rose n v.writes) same.writes (subst (λ n. Rose t.writes n) (sym kept.writes) h.3.place);
        here = rose_on _ _ _ (subst (λ n. Rose n (u.counts h.0).sink_openings) (ap (λ c. c.sink_openings) (same.counts h.0)) h.3.here) ((kept.later.counts h.0).sink_openings);
      },
      empties_kept s.files u.files v.files (take (pred client) answers) (empties_behind s.files t.files u.files (take (pred client) answers) same.files h.4) kept.files,
      kept.still (never_failed left faults s.files requests sources opened) ∙ h.5 ∙ same.reads,
      whole_front left faults requests sources s u v s.files opened refl (λ m e. told m e) kept,
    )
  where
    told : (m : Files) → s.files ≡ Some m → (m' : Files) × (u.files ≡ Some m')
    told m e = (emptied m (take (pred client) answers), subst (λ f. Empties f (take (pred client) answers) u.files) e (empties_behind s.files t.files u.files (take (pred client) answers) same.files h.4))
answers_stop left faults requests answers sources s t u v opens.NoMemory stop same opened h kept law f n =
    let empties = empties_kept s.files u.files v.files (take h.0 answers) (empties_behind s.files t.files u.files (take h.0 answers) same.files h.2) kept.files in
    subst (SessionsStop requests answers s v) (sym (n refl)) (emptied_same s.files v.files answers (take h.0 answers) empties, fewer_names answers h.0 s.files v.files (law s.files v.files (take h.0 answers) empties))

-- whatever stopped it, other files stay
pub stop_others : ((files files' : Option Files) (names : List (List ℕ)) → Empties files names files' → KeepsOther files names files') → (requests answers : List (List ℕ)) (s t : PlaceState) (stop : Stop)
    → SessionsStop requests answers s t stop → KeepsOther s.files answers t.files
stop_others law requests answers s t (stops.ReadFault client files.Requests) h = other_kept s.files t.files answers h.4
stop_others law requests answers s t (stops.ReadFault client files.Supervoxels) h = absurd h
stop_others law requests answers s t (stops.ReadFault client files.Edges) h = absurd h
stop_others law requests answers s t (stops.ReadFault client files.Schedule) h = absurd h
stop_others law requests answers s t (stops.ReadFault client files.Answers) h = absurd h
stop_others law requests answers s t (stops.WriteFault client files.Answers) h = fewer_names answers (pred client) s.files t.files (law s.files t.files (take (pred client) answers) h.4)
stop_others law requests answers s t (stops.WriteFault client files.Requests) h = absurd h
stop_others law requests answers s t (stops.WriteFault client files.Supervoxels) h = absurd h
stop_others law requests answers s t (stops.WriteFault client files.Edges) h = absurd h
stop_others law requests answers s t (stops.WriteFault client files.Schedule) h = absurd h
stop_others law requests answers s t stops.NoMemory h = h.1
stop_others law requests answers s t stops.BadWords h = absurd h
stop_others law requests answers s t (stops.TooLong client file) h = absurd h
stop_others law requests answers s t (stops.BadTable table row cause) h = absurd h
stop_others law requests answers s t (stops.BadSchedule word) h = absurd h
stop_others law requests answers s t (stops.IdsSpent layer x y z) h = absurd h
stop_others law requests answers s t (stops.TooSmall need given) h = absurd h

-- answers that weren't opened leave all sources as they were
pub shut_left : (answers : List (List ℕ)) (s t : PlaceState) (fault : OpenFault) → AnswersShut answers s t fault → (n : List ℕ) → t.left n ≡ s.left n
shut_left answers s t (opens.Failed client) h = h.6
shut_left answers s t opens.NoMemory h = h.4

module _ {K : Type 0} (state : K → SinkState) where
  -- an empty sink at each of these names
  each_empty : (files : Option Files) (names : List (List ℕ)) (xs : List (ClientAnswers K)) → AreEmpty state files names xs → (k : ℕ) (name : List ℕ) → slice_get names k ≡ Some name
      → (x : ClientAnswers K) × (slice_get {X = Option (List ℕ) × ℕ} (map (kept_of state) xs) k ≡ Some (kept_of state x)) × TellsTo files (state x.sink).held []
  each_empty files [] [] h k name e = cc
  each_empty files [] (x ∷ xs) h k name e = absurd h
  each_empty files (n ∷ names) [] h k name e = absurd h
  each_empty files (n ∷ names) (x ∷ xs) h zero name e = (x, refl, h.0)
  each_empty files (n ∷ names) (x ∷ xs) h (suc k) name e = each_empty files names xs h.3 k name e

  -- all was kept back, the answers as they were opened
  pub unplayed_stop : (requests answers : List (List ℕ)) (in_kept : List (Option (List ℕ) × ℕ)) (sinks : List (ClientAnswers K)) (s t u v : PlaceState) → IsOpen answers s t → AreEmpty state s.files answers sinks
      → AreKeptIn requests in_kept t u → AreKeptOut answers (map (kept_of state) sinks) u v
      → ((files files' : Option Files) (names : List (List ℕ)) → Empties files names files' → KeepsOther files names files') → SessionsStop requests answers s v stops.NoMemory
  unplayed_stop requests answers in_kept sinks s t u v opened empty kin kout law =
      let mid : Empties s.files answers u.files = empties_kept s.files t.files u.files answers opened.files kin.files in
      (each s.files refl mid, other_then s.files u.files v.files answers (law s.files u.files answers mid) kout.others)
    where
      each : (f : Option Files) → s.files ≡ f → Empties f answers u.files → AreEmptyOrSame answers f v.files
      each None e h = tt
      each (Some m) e h = at v.files (subst (λ x. KeepsOther x answers v.files) h kout.others) file
        where
          file : (k : ℕ) (name : List ℕ) → slice_get answers k ≡ Some name → IsAt (Some (emptied m answers)) v.files name (Some [])
          file k name q =
              let one = each_empty s.files answers sinks empty k name q in
              let told : (state one.0.sink).held ≡ Some [] = subst (λ x. TellsTo x (state one.0.sink).held []) e one.2 in
              let kept = (kout.each k name (kept_of state one.0) q one.1).file in
              subst (λ x. IsAt x v.files name (Some [])) h (subst (IsAt u.files v.files name) told kept)

          at : (g : Option Files) → KeepsOther (Some (emptied m answers)) answers g → ((k : ℕ) (name : List ℕ) → slice_get answers k ≡ Some name → IsAt (Some (emptied m answers)) g name (Some [])) → AreEmptyOrSame answers (Some m) g
          at None o f = absurd o
          at (Some m') o f = λ k name q.
              let x = f k name q in
              let none : [] ≡ x.0 = same_Some [] x.0 x.2 in
              let same : m' ≡ x.1 = same_Some m' x.1 x.3 in
              inl (ap (λ (g : Files). get g name) same ∙ x.4 ∙ ap (λ z. Some z) (sym none))
