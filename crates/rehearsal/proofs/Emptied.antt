-- Files that are emptied, and what was told stays so.
use Rattle.std.proofs.Common.{◌≡◌, ◌≤◌, ℕ, zero, suc, List, [], ◌∷◌, map, Option, Some, None, refl, sym, ◌∙◌, subst, arith, inr}
use Rattle.std.specs.Prelude.{slice_get}
use Rattle.std.specs.List.{AllByRecursion}
use Rattle.pcg_base.specs.Causes.{Rose}
use Rattle.pcg_base.specs.States.{PlaceState, SinkState}
use Rattle.pcg_base.specs.Told.{Files, KeepsFiles, TellsAt, TellsTo}
use Rattle.client_answers.specs.declared.answers.ClientAnswers.{ClientAnswers}
use Rattle.client_answers.specs.Written.{IsFresh}
use Rattle.job_files.specs.declared.opening.OpenFault.{OpenFault}
use Rattle.job_files.specs.declared.opening.OpenFault.TheVariants as opens
use Rattle.job_files.specs.Clients.{AreEmpty, AreOpened, Empties, RequestsShut}
use Rattle.job_files.specs.Kept.{KeepsOther}
use Rattle.call_lines.specs.declared.stops.FileName.TheVariants as files
use Rattle.call_lines.specs.declared.stops.Stop.{Stop}
use Rattle.call_lines.specs.declared.stops.Stop.TheVariants as stops
use Rattle.rehearsal.specs.Outcomes.{AreEmptyOrSame, SessionsStop}

-- what is told of files stays told
pub keeps_then : (a b c : Option Files) → KeepsFiles a b → KeepsFiles b c → KeepsFiles a c
keeps_then None b c h k = tt
keeps_then (Some m) b c h k = subst (λ f. KeepsFiles f c) h k

pub empties_behind : (a b c : Option Files) (names : List (List ℕ)) → KeepsFiles a b → Empties b names c → Empties a names c
empties_behind None b c names h k = tt
empties_behind (Some m) b c names h k = subst (λ f. Empties f names c) h k

pub empties_kept : (a b c : Option Files) (names : List (List ℕ)) → Empties a names b → KeepsFiles b c → Empties a names c
empties_kept None b c names h k = tt
empties_kept (Some m) b c names h k = subst (λ f. KeepsFiles f c) h k

pub tells_at : (a b : Option Files) (name : List ℕ) (left : Option (List ℕ)) → KeepsFiles a b → TellsAt b name left → TellsAt a name left
tells_at None b name left h k = tt
tells_at (Some m) b name left h k = subst (λ f. TellsAt f name left) h k

pub tells_to : (a b : Option Files) (held : Option (List ℕ)) (bytes : List ℕ) → KeepsFiles a b → TellsTo b held bytes → TellsTo a held bytes
tells_to None b held bytes h k = tt
tells_to (Some m) b held bytes h k = subst (λ f. TellsTo f held bytes) h k

pub other_kept : (a b : Option Files) (names : List (List ℕ)) → KeepsFiles a b → KeepsOther a names b
other_kept None b names h = tt
other_kept (Some m) b names h = subst (KeepsOther (Some m) names) (sym h) (λ name e. refl)

pub other_behind : (a b c : Option Files) (names : List (List ℕ)) → KeepsFiles a b → KeepsOther b names c → KeepsOther a names c
other_behind None b c names h k = tt
other_behind (Some m) b c names h k = subst (λ f. KeepsOther f names c) h k

pub other_then : (a b c : Option Files) (names : List (List ℕ)) → KeepsOther a names b → KeepsOther b names c → KeepsOther a names c
other_then None b c names h k = tt
other_then (Some m) None c names h k = absurd h
other_then (Some m) (Some n) None names h k = absurd k
other_then (Some m) (Some n) (Some o) names h k = λ name e. k name e ∙ h name e

module _ {S : Type 0} (left : S → Option (List ℕ)) (faults : S → ℕ) where
  pub opened_behind : (a b : Option Files) (names : List (List ℕ)) (xs : List S) → KeepsFiles a b → AreOpened left faults b names xs → AreOpened left faults a names xs
  opened_behind a b [] [] h k = tt
  opened_behind a b [] (x ∷ xs) h k = absurd k
  opened_behind a b (name ∷ names) [] h k = absurd k
  opened_behind a b (name ∷ names) (x ∷ xs) h k = (tells_at a b name (left x) h k.0, k.1, opened_behind a b names xs h k.2)

  -- sources that were opened never failed
  pub never_failed : (files : Option Files) (names : List (List ℕ)) (xs : List S) → AreOpened left faults files names xs → AllByRecursion (λ (x : Option (List ℕ) × ℕ). x.1 ≡ 0) (map (λ x. (left x, faults x)) xs)
  never_failed files [] [] k = tt
  never_failed files [] (x ∷ xs) k = absurd k
  never_failed files (name ∷ names) [] k = absurd k
  never_failed files (name ∷ names) (x ∷ xs) k = (k.1, never_failed files names xs k.2)

  pub unfailed_each : (files : Option Files) (names : List (List ℕ)) (xs : List S) → AreOpened left faults files names xs → AllByRecursion (λ x. faults x ≡ 0) xs
  unfailed_each files [] [] k = tt
  unfailed_each files [] (x ∷ xs) k = absurd k
  unfailed_each files (name ∷ names) [] k = absurd k
  unfailed_each files (name ∷ names) (x ∷ xs) k = (k.1, unfailed_each files names xs k.2)

  pub each_opened : (files : Option Files) (names : List (List ℕ)) (xs : List S) → AreOpened left faults files names xs → (k : ℕ) (name : List ℕ) → slice_get names k ≡ Some name
      → (x : S) × (slice_get {X = Option (List ℕ) × ℕ} (map (λ x. (left x, faults x)) xs) k ≡ Some (left x, faults x)) × TellsAt files name (left x)
  each_opened files [] [] h k name e = cc
  each_opened files [] (x ∷ xs) h k name e = absurd h
  each_opened files (n ∷ names) [] h k name e = absurd h
  each_opened files (n ∷ names) (x ∷ xs) h zero name e =
      let same : n ≡ name = cc in
      (x, refl, subst (λ z. TellsAt files z (left x)) same h.0)
  each_opened files (n ∷ names) (x ∷ xs) h (suc k) name e = each_opened files names xs h.2 k name e

module _ {K : Type 0} (state : K → SinkState) where
  pub empty_behind : (a b : Option Files) (names : List (List ℕ)) (xs : List (ClientAnswers K)) → KeepsFiles a b → AreEmpty state b names xs → AreEmpty state a names xs
  empty_behind a b [] [] h k = tt
  empty_behind a b [] (x ∷ xs) h k = absurd k
  empty_behind a b (name ∷ names) [] h k = absurd k
  empty_behind a b (name ∷ names) (x ∷ xs) h k = (tells_to a b (state x.sink).held [] h k.0, k.1, k.2, empty_behind a b names xs h k.3)

  pub fresh_each : (files : Option Files) (names : List (List ℕ)) (xs : List (ClientAnswers K)) → AreEmpty state files names xs → AllByRecursion IsFresh xs
  fresh_each files [] [] k = tt
  fresh_each files [] (x ∷ xs) k = absurd k
  fresh_each files (name ∷ names) [] k = absurd k
  fresh_each files (name ∷ names) (x ∷ xs) k = (k.2, fresh_each files names xs k.3)

pub same_keeps : (a b : Option Files) (names : List (List ℕ)) → KeepsFiles a b → AreEmptyOrSame names a b
same_keeps None b names h = tt
same_keeps (Some m) b names h = subst (AreEmptyOrSame names (Some m)) (sym h) (λ k name e. inr refl)

pub rose_on : (a b c : ℕ) → Rose a b → b ≤ c → Rose a c
rose_on a b c h k = omega (arith, h, k)

-- no requests were opened: so did no session begin
pub requests_stop : (requests answers : List (List ℕ)) (s t : PlaceState) (fault : OpenFault) (stop : Stop) → RequestsShut requests s t fault
    → ((client : ℕ) → fault ≡ opens.Failed client → stop ≡ stops.ReadFault client files.Requests) → (fault ≡ opens.NoMemory → stop ≡ stops.NoMemory) → SessionsStop requests answers s t stop
requests_stop requests answers s t (opens.Failed client) stop h f n = subst (SessionsStop requests answers s t) (sym (f client refl)) h
requests_stop requests answers s t opens.NoMemory stop h f n =
    subst (SessionsStop requests answers s t) (sym (n refl)) (same_keeps s.files t.files answers h.0, other_kept s.files t.files answers h.0)
