-- Files that were put one after the other.
use Rattle.std.proofs.Common.{◌≡◌, ◌∙◌, ℕ, Bool, true, false, refl, sym, ap, subst, arith, inl, inr, List, [], ◌∷◌, ◌++◌, Option, Some, None, append_assoc}
use Rattle.std.specs.Prelude.{Result, Ok, Err, OnErr, OnOk}
use Rattle.std.specs.FinMap.{insert}
use Rattle.std.specs.Io.KnownBytes.{Appends}
use Rattle.pcg_base.specs.States.{PlaceState, SinkState}
use Rattle.pcg_base.specs.Told.{AppendsFront, Files, KeepsFiles, PutsFile, PutsHeld, TellsTo}
use Rattle.pcg_words.specs.declared.job.MakeJob.{MakeJob}
use Rattle.request_lines.specs.Sent.{Sends, waiting}
use Rattle.request_lines.specs.declared.page.Page.{Page}
use Rattle.made_files.specs.Writing.{File, PutsAll, PutsFront, PutsNext, PutsSome, RoseAt, WritesLater, put_all}
use Rattle.made_files.specs.Files.{IsLater, StopsSo, Wrote, name_of}
use Rattle.made_files.specs.declared.stops.MakeStop.{MakeStop}
use Rattle.made_files.specs.declared.stops.MakeStop.TheVariants as stops
use Rattle.made_files.proofs.Maps.{put_twice}

pub on_ok_so : {A B T E : Type 0} (r : Result T E) → (A → B) → OnOk r A → OnOk r B
on_ok_so (Ok x) f h = f h
on_ok_so (Err e) f h = tt

pub on_err : {A T E : Type 0} (r : Result T E) → A → OnErr r A
on_err (Ok x) h = tt
on_err (Err e) h = h

pub on_err_so : {A B T E : Type 0} (r : Result T E) → (A → B) → OnErr r A → OnErr r B
on_err_so (Ok x) f h = tt
on_err_so (Err e) f h = f h

-- ---- a front of a text on a page

front_sent : (a b : Option (List ℕ)) (front rest text left : List ℕ) → text ≡ front ++ rest → Sends a b front left → AppendsFront a b text
front_sent None b front rest text left e h = tt
front_sent (Some xs) None front rest text left e h = absurd h
front_sent (Some xs) (Some ys) front rest text left e h =
    (h.0, left ++ rest, e ∙ ap (λ t. t ++ rest) h.2 ∙ append_assoc h.0 left rest, h.1)

front_longer : (a b : Option (List ℕ)) (front rest text : List ℕ) → text ≡ front ++ rest → AppendsFront a b front → AppendsFront a b text
front_longer None b front rest text e h = tt
front_longer (Some xs) None front rest text e h = absurd h
front_longer (Some xs) (Some ys) front rest text e h =
    (h.0, h.1 ++ rest, e ∙ ap (λ t. t ++ rest) h.2 ∙ append_assoc h.0 h.1 rest, h.3)

pub front_put : {a b : SinkState} {p q : Page} (text : List ℕ) → waiting p ≡ [] → p.failed ≡ false → PutsFront a b p q text → AppendsFront a.held b.held text
front_put {a = a} {b = b} {p = p} {q = q} text none fresh h = go q.failed refl
  where
    same : waiting p ++ h.0 ≡ h.0
    same = ap (λ w. w ++ h.0) none

    go : (f : Bool) → q.failed ≡ f → AppendsFront a.held b.held text
    go false e = front_sent a.held b.held h.0 h.1 text (waiting q) h.2 (subst (λ t. Sends a.held b.held t (waiting q)) same (h.3.goes e))
    go true e = front_longer a.held b.held h.0 h.1 text h.2 (subst (λ t. AppendsFront a.held b.held t) same ((h.3.fails fresh e).0))

-- ---- one file

pub file_whole : (f0 f1 f2 : Option Files) (held held' : Option (List ℕ)) (name text : List ℕ) → PutsFile f0 f1 name [] → TellsTo f0 held [] → PutsHeld f1 f2 name held' → Appends held held' text
    → PutsAll f0 f2 ((name, text) ∷ [])
unfolding put_all
file_whole None f1 f2 held held' name text made told kept h = tt
file_whole (Some m) f1 f2 held held' name text made told kept h =
    let H : Option (List ℕ) → Type 0 = λ x. Appends x held' text in
    go held' (subst H told h) kept
  where
    go : (o : Option (List ℕ)) → Appends (Some []) o text → PutsHeld f1 f2 name o → PutsAll (Some m) f2 ((name, text) ∷ [])
    go None h k = absurd h
    go (Some ys) h k =
        let P : Option Files → Type 0 = λ f. PutsHeld f f2 name (Some ys) in
        subst P made k ∙ ap (λ z. Some z) (put_twice m name [] ys ∙ ap (insert m name) h)

pub file_part : (f0 f1 f2 : Option Files) (held held' : Option (List ℕ)) (name text : List ℕ) → PutsFile f0 f1 name [] → TellsTo f0 held [] → PutsHeld f1 f2 name held' → AppendsFront held held' text
    → PutsSome f0 f2 ((name, text) ∷ [])
unfolding put_all
file_part None f1 f2 held held' name text made told kept h = ([], (name, text) ∷ [], refl, inl tt)
file_part (Some m) f1 f2 held held' name text made told kept h =
    let H : Option (List ℕ) → Type 0 = λ x. AppendsFront x held' text in
    go held' (subst H told h) kept
  where
    go : (o : Option (List ℕ)) → AppendsFront (Some []) o text → PutsHeld f1 f2 name o → PutsSome (Some m) f2 ((name, text) ∷ [])
    go None h k = absurd h
    go (Some ys) h k =
        let P : Option Files → Type 0 = λ f. PutsHeld f f2 name (Some ys) in
        ([], (name, text) ∷ [], refl, inr (h.0, h.1, h.2, subst P made k ∙ ap (λ z. Some z) (put_twice m name [] ys ∙ ap (insert m name) h.3)))

pub file_unmade : (f0 f1 : Option Files) (fs : List File) → KeepsFiles f0 f1 → PutsSome f0 f1 fs
unfolding put_all
file_unmade None f1 fs k = ([], fs, refl, inl tt)
file_unmade (Some m) f1 fs k = ([], fs, refl, inl k)

pub keeps_self : (f : Option Files) → KeepsFiles f f
keeps_self None = tt
keeps_self (Some m) = refl

-- ---- several files

put_all-append : (m : Files) (xs ys : List File) → put_all m (xs ++ ys) ≡ put_all (put_all m xs) ys
unfolding put_all
put_all-append m [] ys = refl
put_all-append m (x ∷ xs) ys = put_all-append (insert m x.0 x.1) xs ys

pub all_none : (f : Option Files) → PutsAll f f []
unfolding put_all
all_none None = tt
all_none (Some m) = refl

pub all_then : (f g h : Option Files) (xs ys : List File) → PutsAll f g xs → PutsAll g h ys → PutsAll f h (xs ++ ys)
all_then None g h xs ys a b = tt
all_then (Some m) g h xs ys a b =
    let P : Option Files → Type 0 = λ x. PutsAll x h ys in
    subst P a b ∙ ap (λ z. Some z) (sym (put_all-append m xs ys))

next_then : (f g h : Option Files) (xs done rest : List File) → PutsAll f g xs → PutsNext g h done rest → PutsNext f h (xs ++ done) rest
next_then f g h xs done [] a b = absurd b
next_then f g h xs done (r ∷ rest) a b =
    let P : List File → Type 0 = λ l. PutsAll f h l in
    (b.0, b.1, b.2, subst P (sym (append_assoc xs done ((r.0, b.0) ∷ []))) (all_then f g h xs (done ++ (r.0, b.0) ∷ []) a b.3))

pub some_then : (f g h : Option Files) (xs ys : List File) → PutsAll f g xs → PutsSome g h ys → PutsSome f h (xs ++ ys)
some_then f g h xs ys a (done, rest, e, inl b) = (xs ++ done, rest, ap (λ l. xs ++ l) e ∙ sym (append_assoc xs done rest), inl (all_then f g h xs done a b))
some_then f g h xs ys a (done, rest, e, inr b) = (xs ++ done, rest, ap (λ l. xs ++ l) e ∙ sym (append_assoc xs done rest), inr (next_then f g h xs done rest a b))

next_more : (f g : Option Files) (done rest more : List File) → PutsNext f g done rest → PutsNext f g done (rest ++ more)
next_more f g done [] more b = absurd b
next_more f g done (r ∷ rest) more b = b

pub some_more : (f g : Option Files) (xs ys : List File) → PutsSome f g xs → PutsSome f g (xs ++ ys)
some_more f g xs ys (done, rest, e, inl b) = (done, rest ++ ys, ap (λ l. l ++ ys) e ∙ append_assoc done rest ys, inl b)
some_more f g xs ys (done, rest, e, inr b) = (done, rest ++ ys, ap (λ l. l ++ ys) e ∙ append_assoc done rest ys, inr (next_more f g done rest ys b))

-- ---- counts

pub later_same : (s : PlaceState) → IsLater s s
later_same s = record { writes = omega arith; counts = λ name. record { openings = omega arith; faults = omega arith } }

pub later_then : (a b c : PlaceState) → IsLater a b → IsLater b c → IsLater a c
later_then a b c h k = record {
  writes = omega (arith, h.writes, k.writes);
  counts = λ name.
      let p = h.counts name in
      let q = k.counts name in
      record { openings = omega (arith, p.openings, q.openings); faults = omega (arith, p.faults, q.faults) };
}

-- what stopped behind others from before
pub stops_then : (job : MakeJob) (a b c : PlaceState) (stop : MakeStop) → IsLater a b → StopsSo job b c stop → StopsSo job a c stop
stops_then job a b c stops.NoMemory h k = tt
stops_then job a b c (stops.Failed file) h k = (k.0, omega (arith, h.writes, k.1), go k.2)
  where
    p : WritesLater (a.counts (name_of job file)) (b.counts (name_of job file))
    p = h.counts (name_of job file)

    go : RoseAt (b.counts (name_of job file)) (c.counts (name_of job file)) → RoseAt (a.counts (name_of job file)) (c.counts (name_of job file))
    go (inl r) = inl (omega (arith, p.openings, r))
    go (inr r) = inr (omega (arith, p.faults, r))

-- files behind others
pub wrote_then : {A : Type 0} (job : MakeJob) (a b c : PlaceState) (xs ys : List File) (r : Result A MakeStop) → IsLater a b → PutsAll a.files b.files xs → b.writes ≡ a.writes → Wrote job b c ys r → Wrote job a c (xs ++ ys) r
wrote_then job a b c xs ys (Ok x) h all still w = (all_then a.files b.files c.files xs ys all w.0, w.1 ∙ still)
wrote_then job a b c xs ys (Err stop) h all still w = (some_then a.files b.files c.files xs ys all w.0, stops_then job a b c stop h w.1)
