-- Answers that are opened one by one.
use Rattle.std.proofs.Common.{◌≡◌, ◌≤◌, ◌+◌, ◌∙◌, ℕ, suc, pred, Bool, true, List, [], ◌∷◌, ◌++◌, Option, Some, None, length, take, map, slice_get, refl, sym, ap, subst, arith, length-append}
use Rattle.std.specs.Prelude.{◌≢◌}
use Rattle.std.specs.List.{AllByRecursion}
use Rattle.std.specs.FinMap.{get, insert}
use Rattle.std.proofs.lemmas.Option.{slice_get_within}
use Rattle.pcg_base.specs.States.{PlaceState, SinkState}
use Rattle.pcg_base.specs.Told.{Counts, Files, KeepsFiles, OpensSink, PutsFile, PutsHeld, TellsTo}
use Rattle.pcg_base.specs.declared.place.PlaceError.{PlaceError}
use Rattle.pcg_base.specs.declared.place.PlaceError.TheVariants as errors
use Rattle.client_answers.specs.declared.answers.ClientAnswers.{ClientAnswers}
use Rattle.job_files.specs.Clients.{AnswersOpen, AnswersShut, AreEmpty, Empties, emptied, kept_of}
use Rattle.job_files.specs.Fronts.{EmptiesFront, FailsOut, IsEmptied, fault_of}
use Rattle.job_files.specs.Places.{EachStep, IsLater, IsLaterAt, KeepsOut, WriteRose}
use Rattle.job_files.specs.declared.opening.OpenFault.{OpenFault}
use Rattle.job_files.specs.declared.opening.OpenFault.TheVariants as faults
use Rattle.job_files.proofs.Counting.{all_then, at_each, later_then, rose_after, rose_before, same_at}
use Rattle.job_files.proofs.Emptying.{emptied_all, emptied_more, empties_keep, empties_none, put_again}
use Rattle.job_files.proofs.Openings.{all_more, take_more}
use Rattle.job_files.proofs.Steps.{each_later, out_later}

-- ---- one opening
empties_one : (f g : Option Files) (name text : List ℕ) → text ≡ name → PutsFile f g text [] → Empties f (name ∷ []) g
unfolding emptied
empties_one None g name text e p = tt
empties_one (Some m) g name text e p = p ∙ ap (λ n. Some (insert m n [])) e

pub answer_opens : (name text : List ℕ) (old new : PlaceState) → text ≡ name → PutsFile old.files new.files text [] → ((n : List ℕ) → new.left n ≡ old.left n) → new.reads ≡ old.reads → new.writes ≡ old.writes
    → new.counts text ≡ old.counts text → ((n : List ℕ) → n ≢ text → new.counts n ≡ old.counts n) → AnswersOpen (name ∷ []) old new
answer_opens name text old new e p l r w c others = record {
  files = empties_one old.files new.files name text e p;
  left = l;
  reads = r;
  writes = w;
  counts = at_each (λ n. new.counts n ≡ old.counts n) text c others;
}

sink_at : (old new : Counts) → OpensSink old new → IsLaterAt old new
sink_at old new h = record {
  source_openings = omega (arith, h.source_openings);
  sink_openings = h.sink_openings;
  source_faults = omega (arith, h.source_faults);
  sink_faults = omega (arith, h.sink_faults);
}

pub sink_later : (here : List ℕ) (old new : PlaceState) → old.writes ≤ new.writes → new.reads ≡ old.reads → OpensSink (old.counts here) (new.counts here) → ((n : List ℕ) → n ≢ here → new.counts n ≡ old.counts n) → IsLater old new
sink_later here old new w r h others = record {
  reads = omega (arith, r);
  writes = w;
  counts = at_each (λ n. IsLaterAt (old.counts n) (new.counts n)) here (sink_at (old.counts here) (new.counts here) h) (λ n away. same_at (old.counts n) (new.counts n) (others n away));
}

-- ---- several openings
empties_then : (f g h : Option Files) (names : List (List ℕ)) (name : List ℕ) → Empties f names g → Empties g (name ∷ []) h → Empties f (names ++ name ∷ []) h
unfolding emptied
empties_then None g h names name e p = tt
empties_then (Some m) g h names name e p =
    let P : Option Files → Type 0 = λ x. Empties x (name ∷ []) h in
    let put : h ≡ Some (insert (emptied m names) name []) = subst P e p in
    put ∙ ap (λ n. Some n) (sym (emptied_more m names name))

answers_then : (a b c : PlaceState) (names : List (List ℕ)) (name : List ℕ) → AnswersOpen names a b → AnswersOpen (name ∷ []) b c → AnswersOpen (names ++ name ∷ []) a c
answers_then a b c names name h k = record {
  files = empties_then a.files b.files c.files names name h.files k.files;
  left = λ n. k.left n ∙ h.left n;
  reads = k.reads ∙ h.reads;
  writes = k.writes ∙ h.writes;
  counts = λ n. k.counts n ∙ h.counts n;
}

pub answers_none : (s : PlaceState) → AnswersOpen [] s s
answers_none s = record { files = empties_none s.files; left = λ n. refl; reads = refl; writes = refl; counts = λ n. refl }

pub answers_later : (names : List (List ℕ)) (a b : PlaceState) → AnswersOpen names a b → IsLater a b
answers_later names a b h = record {
  reads = omega (arith, h.reads);
  writes = omega (arith, h.writes);
  counts = λ n. same_at (a.counts n) (b.counts n) (h.counts n);
}

tells_before : (f g : Option Files) (names : List (List ℕ)) (known : Option (List ℕ)) (bytes : List ℕ) → Empties f names g → TellsTo g known bytes → TellsTo f known bytes
tells_before None g names known bytes e t = tt
tells_before (Some m) g names known bytes e t =
    let P : Option Files → Type 0 = λ x. TellsTo x known bytes in
    subst P e t

empty_more : {K : Type 0} (state : K → SinkState) (files : Option Files) (names : List (List ℕ)) (xs : List (ClientAnswers K)) (name : List ℕ) (x : ClientAnswers K)
    → AreEmpty state files names xs → IsEmptied state files x → AreEmpty state files (names ++ name ∷ []) (xs ++ x ∷ [])
empty_more state files [] [] name x h o = (o.0, o.1, o.2, tt)
empty_more state files [] (y ∷ ys) name x h o = absurd h
empty_more state files (n ∷ ns) [] name x h o = absurd h
empty_more state files (n ∷ ns) (y ∷ ys) name x h o = (h.0, h.1, h.2, empty_more state files ns ys name x h.3 o)

-- the first answers were opened
pub record EmptiedSoFar {K : Type 0} (state : K → SinkState) (is_ready : List ℕ → Bool) (names : List (List ℕ)) (at : ℕ) (xs : List (ClientAnswers K)) (first now : PlaceState) : Type 0 where
  pub empty : AreEmpty state first.files (take at names) xs
  pub opens : AnswersOpen (take at names) first now
  pub ready : AllByRecursion (λ name. is_ready name ≡ true) (take at names)
  pub count : length xs ≡ at

pub emptied_none : {K : Type 0} (state : K → SinkState) (is_ready : List ℕ → Bool) (names : List (List ℕ)) (xs : List (ClientAnswers K)) (first : PlaceState) → xs ≡ []
    → EmptiedSoFar state is_ready names 0 xs first first
emptied_none state is_ready names xs first e =
    subst (λ ys. EmptiedSoFar state is_ready names 0 ys first first) (sym e) (record { empty = tt; opens = answers_none first; ready = tt; count = refl })

pub emptied_next : {K : Type 0} (state : K → SinkState) (is_ready is_ready' : List ℕ → Bool) (names : List (List ℕ)) (at : ℕ) (xs ys : List (ClientAnswers K)) (first now new : PlaceState) (name : List ℕ) (x : ClientAnswers K)
    → EmptiedSoFar state is_ready names at xs first now → slice_get names at ≡ Some name → ys ≡ xs ++ x ∷ [] → IsEmptied state now.files x → AnswersOpen (name ∷ []) now new
    → is_ready' name ≡ true → ((n : List ℕ) → is_ready n ≡ true → is_ready' n ≡ true) → EmptiedSoFar state is_ready' names (at + 1) ys first new
emptied_next state is_ready is_ready' names at xs ys first now new name x k g e o s here stays =
    let more = take_more names at name g in
    subst (λ zs. EmptiedSoFar state is_ready' names (at + 1) zs first new) (sym e) (record {
      empty = subst (λ ns. AreEmpty state first.files ns (xs ++ x ∷ [])) (sym more)
          (empty_more state first.files (take at names) xs name x k.empty (tells_before first.files now.files (take at names) (state x.sink).held [] k.opens.files o.0, o.1, o.2));
      opens = subst (λ ns. AnswersOpen ns first new) (sym more) (answers_then first now new (take at names) name k.opens s);
      ready = subst (λ ns. AllByRecursion (λ n. is_ready' n ≡ true) ns) (sym more)
          (all_more (λ n. is_ready' n ≡ true) (take at names) name (all_then (λ n. is_ready n ≡ true) (λ n. is_ready' n ≡ true) stays (take at names) k.ready) here);
      count = (let l = length-append xs (x ∷ []) in let c = k.count in omega (arith, l, c));
    })

write_after : (a b c : PlaceState) (name : List ℕ) → IsLater a b → WriteRose b c name → WriteRose a c name
write_after a b c name h k = record {
  place = rose_after a.writes b.writes c.writes h.writes k.place;
  here = rose_after _ _ _ ((h.counts name).sink_openings) k.here;
}

write_before : (a b c : PlaceState) (name : List ℕ) → WriteRose a b name → IsLater b c → WriteRose a c name
write_before a b c name k h = record {
  place = rose_before a.writes b.writes c.writes k.place h.writes;
  here = rose_before _ _ _ k.here ((h.counts name).sink_openings);
}

-- the next answers weren't opened
pub empties_front : {K : Type 0} (state : K → SinkState) (is_ready is_ready' : List ℕ → Bool) (names : List (List ℕ)) (at : ℕ) (xs : List (ClientAnswers K)) (first now new : PlaceState) (name : List ℕ) (error : PlaceError) (client : ℕ) (fault : OpenFault)
    → EmptiedSoFar state is_ready names at xs first now → slice_get names at ≡ Some name → KeepsFiles now.files new.files → new.reads ≡ now.reads → ((n : List ℕ) → new.left n ≡ now.left n) → IsLater now new
    → (error ≡ errors.Failed → WriteRose now new name) → ((n : List ℕ) → is_ready n ≡ true → is_ready' n ≡ true) → client ≡ at + 1 → fault ≡ fault_of error client
    → EmptiesFront state is_ready' names xs first new fault
empties_front state is_ready is_ready' names at xs first now new name error client fault k g f r l later rose stays one is =
    let up = answers_later (take at names) first now k.opens in
    let within = slice_get_within names at name g in
    record {
      few = (let c = k.count in omega (arith, within, c));
      empty = subst (λ n. AreEmpty state first.files (take n names) xs) (sym k.count) k.empty;
      ready = subst (λ n. AllByRecursion (λ m. is_ready' m ≡ true) (take n names)) (sym k.count) (all_then (λ n. is_ready n ≡ true) (λ n. is_ready' n ≡ true) stays (take at names) k.ready);
      files = subst (λ n. Empties first.files (take n names) new.files) (sym k.count) (empties_keep first.files now.files new.files (take at names) k.opens.files f);
      reads = r ∙ k.opens.reads;
      left = λ n. l n ∙ k.opens.left n;
      later = later_then first now new up later;
      why = subst (λ x. FailsOut (length xs) names first new x) (sym is) (subst (λ n. FailsOut n names first new (fault_of error client)) (sym k.count) (go error rose));
    }
  where
    go : (e : PlaceError) → (e ≡ errors.Failed → WriteRose now new name) → FailsOut at names first new (fault_of e client)
    go errors.Failed w = (one, name, g, write_after first now new name (answers_later (take at names) first now k.opens) (w refl))
    go errors.NoMemory w = tt

-- ---- those before are kept back, still empty
out_same : (names : List (List ℕ)) (xs : List (Option (List ℕ) × ℕ)) (old new : PlaceState) → EachStep KeepsOut names xs old new → (new.reads ≡ old.reads) × ((n : List ℕ) → new.left n ≡ old.left n)
out_same names [] old new e = (ap (λ (s : PlaceState). s.reads) e, λ n. ap (λ (s : PlaceState). s.left n) e)
out_same [] (x ∷ xs) old new e = absurd e
out_same (m ∷ ms) (x ∷ xs) old new e =
    let r = out_same ms xs e.0 new e.2 in
    (r.0 ∙ e.1.reads, λ n. r.1 n ∙ e.1.left n)

still_empty : (f : Files) (names : List (List ℕ)) (xs : List (Option (List ℕ) × ℕ)) (old new : PlaceState) → old.files ≡ Some f → AllByRecursion (λ n. get f n ≡ Some []) names → AllByRecursion (λ x. x.0 ≡ Some []) xs
    → EachStep KeepsOut names xs old new → new.files ≡ Some f
still_empty f names [] old new at there none e = ap (λ (s : PlaceState). s.files) e ∙ at
still_empty f [] (x ∷ xs) old new at there none e = absurd e
still_empty f (n ∷ ns) (x ∷ xs) old new at there none e =
    let P : Option Files → Type 0 = λ o. PutsHeld o e.0.files n x.0 in
    let Q : Option (List ℕ) → Type 0 = λ h. PutsHeld (Some f) e.0.files n h in
    let put : e.0.files ≡ Some (insert f n []) = subst Q none.0 (subst P at e.1.files) in
    still_empty f ns xs e.0 new (put ∙ ap (λ m. Some m) (put_again f n [] there.0)) there.1 none.1 e.2

all_told : {K : Type 0} (state : K → SinkState) (m : Files) (names : List (List ℕ)) (xs : List (ClientAnswers K)) → AreEmpty state (Some m) names xs
    → AllByRecursion (λ x. x.0 ≡ Some []) (map (kept_of state) xs)
all_told state m [] [] h = tt
all_told state m [] (x ∷ xs) h = absurd h
all_told state m (n ∷ ns) [] h = absurd h
all_told state m (n ∷ ns) (x ∷ xs) h = (h.0, all_told state m ns xs h.3)

module _ {K : Type 0} (state : K → SinkState) (is_ready : List ℕ → Bool) (names : List (List ℕ)) (xs : List (ClientAnswers K)) (old mid new : PlaceState)
    (step : EachStep KeepsOut (take (length xs) names) (map (kept_of state) xs) mid new) where
  empties_still : (f : Option Files) → AreEmpty state f (take (length xs) names) xs → Empties f (take (length xs) names) mid.files → Empties f (take (length xs) names) new.files
  empties_still None a e = tt
  empties_still (Some m) a e =
      still_empty (emptied m (take (length xs) names)) (take (length xs) names) (map (kept_of state) xs) mid new e (emptied_all m (take (length xs) names)) (all_told state m (take (length xs) names) xs a) step

  pub back_later : IsLater old mid → IsLater old new
  back_later up = later_then old mid new up (each_later KeepsOut out_later (take (length xs) names) (map (kept_of state) xs) mid new step)

  pub answers_shut : (fault : OpenFault) → EmptiesFront state is_ready names xs old mid fault → AnswersShut names old new fault
  answers_shut fault f = go fault f.why
    where
      same : (new.reads ≡ mid.reads) × ((n : List ℕ) → new.left n ≡ mid.left n)
      same = out_same (take (length xs) names) (map (kept_of state) xs) mid new step

      go : (x : OpenFault) → FailsOut (length xs) names old mid x → AnswersShut names old new x
      go (faults.Failed client) w =
          let e : client ≡ suc (length xs) = (let q = w.0 in omega (arith, q)) in
          let p : pred client ≡ length xs = ap pred e in (
            w.1,
            ap (slice_get names) p ∙ w.2,
            omega (arith, e),
            write_before old mid new w.1 w.3 (each_later KeepsOut out_later (take (length xs) names) (map (kept_of state) xs) mid new step),
            subst (λ n. Empties old.files (take n names) new.files) (sym p) (empties_still old.files f.empty f.files),
            same.0 ∙ f.reads,
            λ n. same.1 n ∙ f.left n,
          )
      go faults.NoMemory w = (length xs, f.few, empties_still old.files f.empty f.files, same.0 ∙ f.reads, λ n. same.1 n ∙ f.left n)
