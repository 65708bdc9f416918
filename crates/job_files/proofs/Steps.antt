-- One step of keeping back behind others.
use Rattle.std.proofs.Common.{◌≡◌, ◌≤◌, ◌<◌, ◌+◌, ◌∙◌, ℕ, List, [], ◌∷◌, ◌++◌, Option, Some, length, map, slice_get, refl, sym, ap, subst, arith, append_assoc, length-append}
use Rattle.std.proofs.lemmas.List.{map-append, length-map}
use Rattle.std.proofs.lemmas.Option.{none-some, same_Some}
use Rattle.pcg_base.specs.States.{PlaceState}
use Rattle.pcg_base.specs.Told.{Counts}
use Rattle.job_files.specs.Places.{EachStep, IsLater, IsLaterAt, KeepsIn, KeepsOut}
use Rattle.job_files.proofs.Counting.{at_each, later_still, later_then, same_at}

-- one step behind others, at the next name
pub step_behind : {A : Type 0} (step : List ℕ → A → PlaceState → PlaceState → Type 0) (names : List (List ℕ)) (xs : List A) (x : A) (name : List ℕ) (old mid new : PlaceState)
    → EachStep step names xs old mid → slice_get names (length xs) ≡ Some name → step name x mid new → EachStep step names (xs ++ x ∷ []) old new
step_behind step [] [] x name old mid new e g s = absurd (none-some name g)
step_behind step (n ∷ ns) [] x name old mid new e g s =
    let P : List ℕ → PlaceState → Type 0 = λ m o. step m x o new in
    (new, subst (λ o. P n o) e (subst (λ m. P m mid) (sym (same_Some n name g)) s), refl)
step_behind step [] (y ∷ ys) x name old mid new e g s = absurd e
step_behind step (n ∷ ns) (y ∷ ys) x name old mid new e g s = (e.0, e.1, step_behind step ns ys x name e.0 mid new e.2 g s)

-- no count falls where something is kept back
pub in_later : (name : List ℕ) (source : Option (List ℕ) × ℕ) (old new : PlaceState) → KeepsIn name source old new → IsLater old new
in_later name source old new k =
    let a = ap (λ (c : Counts). c.source_openings) k.here in
    let b = ap (λ (c : Counts). c.sink_openings) k.here in
    let d = ap (λ (c : Counts). c.sink_faults) k.here in
    record {
      reads = k.later;
      writes = omega (arith, k.writes);
      counts = at_each (λ n. IsLaterAt (old.counts n) (new.counts n)) name
          (record { source_openings = omega (arith, a); sink_openings = omega (arith, b); source_faults = k.later_here; sink_faults = omega (arith, d) })
          (λ n away. same_at (old.counts n) (new.counts n) (k.others n away));
    }

pub out_later : (name : List ℕ) (sink : Option (List ℕ) × ℕ) (old new : PlaceState) → KeepsOut name sink old new → IsLater old new
out_later name sink old new k =
    let a = ap (λ (c : Counts). c.source_openings) k.here in
    let b = ap (λ (c : Counts). c.sink_openings) k.here in
    let d = ap (λ (c : Counts). c.source_faults) k.here in
    record {
      reads = omega (arith, k.reads);
      writes = k.later;
      counts = at_each (λ n. IsLaterAt (old.counts n) (new.counts n)) name
          (record { source_openings = omega (arith, a); sink_openings = omega (arith, b); source_faults = omega (arith, d); sink_faults = k.later_here })
          (λ n away. same_at (old.counts n) (new.counts n) (k.others n away));
    }

-- nor where many things are
pub each_later : {A : Type 0} (step : List ℕ → A → PlaceState → PlaceState → Type 0) → ((name : List ℕ) (x : A) (old new : PlaceState) → step name x old new → IsLater old new)
    → (names : List (List ℕ)) (xs : List A) (old new : PlaceState) → EachStep step names xs old new → IsLater old new
each_later step one names [] old new e = subst (λ s. IsLater old s) (sym e) (later_still old)
each_later step one [] (x ∷ xs) old new e = absurd e
each_later step one (n ∷ ns) (x ∷ xs) old new e = later_then old e.0 new (one n x old e.0 e.1) (each_later step one ns xs e.0 new e.2)

-- what is left of a source, and how often it failed
abbrev pub of_source : {S : Type 0} → (S → Option (List ℕ)) → (S → ℕ) → S → Option (List ℕ) × ℕ
of_source left faults x = (left x, faults x)

-- the first of these things were kept back, and the rest wait
pub record KeptSoFar {X : Type 0} (step : List ℕ → Option (List ℕ) × ℕ → PlaceState → PlaceState → Type 0) (shown : X → Option (List ℕ) × ℕ) (names : List (List ℕ)) (all done rest : List X) (at : ℕ) (first now : PlaceState) : Type 0 where
  pub each : EachStep step names (map shown done) first now
  pub parts : done ++ rest ≡ all
  pub count : at ≡ length done

pub kept_none : {X : Type 0} (step : List ℕ → Option (List ℕ) × ℕ → PlaceState → PlaceState → Type 0) (shown : X → Option (List ℕ) × ℕ) (names : List (List ℕ)) (all rest : List X) (first : PlaceState) → rest ≡ all
    → KeptSoFar step shown names all [] rest 0 first first
kept_none step shown names all rest first e = record { each = refl; parts = e; count = refl }

pub kept_within : {X : Type 0} (step : List ℕ → Option (List ℕ) × ℕ → PlaceState → PlaceState → Type 0) (shown : X → Option (List ℕ) × ℕ) (names : List (List ℕ)) (all done rest : List X) (at : ℕ) (first now : PlaceState) (x : X) (left : List X)
    → KeptSoFar step shown names all done rest at first now → rest ≡ x ∷ left → length all ≤ length names → at < length names
kept_within step shown names all done rest at first now x left k e enough =
    let a = ap (λ xs. length xs) k.parts in
    let b = length-append done rest in
    let c = ap (λ xs. length xs) e in
    let d = k.count in
    omega (arith, a, b, c, d, enough)

pub kept_next : {X : Type 0} (step : List ℕ → Option (List ℕ) × ℕ → PlaceState → PlaceState → Type 0) (shown : X → Option (List ℕ) × ℕ) (names : List (List ℕ)) (all done rest : List X) (at : ℕ) (first now new : PlaceState) (x : X) (left : List X) (name : List ℕ)
    → KeptSoFar step shown names all done rest at first now → rest ≡ x ∷ left → slice_get names at ≡ Some name → step name (shown x) now new
    → KeptSoFar step shown names all (done ++ x ∷ []) left (at + 1) first new
kept_next step shown names all done rest at first now new x left name k e g s =
    let shows = map-append shown done (x ∷ []) in
    let size = length-map done shown in
    record {
      each = subst (λ ys. EachStep step names ys first new) (sym shows)
          (step_behind step names (map shown done) (shown x) name first now new k.each (subst (λ n. slice_get names n ≡ Some name) (k.count ∙ sym size) g) s);
      parts = append_assoc done (x ∷ []) left ∙ ap (λ ys. done ++ ys) (sym e) ∙ k.parts;
      count = (let l = length-append done (x ∷ []) in let c = k.count in omega (arith, l, c));
    }
