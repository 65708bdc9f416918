-- What sources have left that weren't kept back.
use Rattle.std.proofs.Common.{◌≡◌, ℕ, Bool, true, false, ◌||◌, List, [], ◌∷◌, map, Option, Some, None, bytes_eq, refl, sym, ◌∙◌, ap}
use Rattle.std.specs.List.{list_any}
use Rattle.std.proofs.lemmas.Bool.{false≢true}
use Rattle.std.proofs.lemmas.Slice.Eq.{bytes_eq-Decides}
use Rattle.pcg_base.specs.States.{PlaceState}
use Rattle.pcg_base.specs.Told.{Files}
use Rattle.pcg_words.specs.declared.job.RehearseJob.{RehearseJob}
use Rattle.pcg_words.specs.Job.{IsRehearse, request_file}
use Rattle.job_files.specs.Places.{EachStep, KeepsIn}
use Rattle.job_tables.specs.Stops.{AllRead, ScheduleRead, WasRead}
use Rattle.rehearsal.proofs.Apart.{edges_apart, schedule_apart, supervoxels_apart}

or_left : (x y : Bool) → (x || y) ≡ false → x ≡ false
or_left true y e = e
or_left false y e = refl

or_right : (x y : Bool) → (x || y) ≡ false → y ≡ false
or_right true y e = absurd (false≢true (sym e))
or_right false y e = e

differs : (xs ys : List ℕ) → bytes_eq xs ys ≡ false → xs ≡ ys → ⊥
differs xs ys e same = absurd (cc ((bytes_eq-Decides xs ys).1 same))

pub left_elsewhere : (names : List (List ℕ)) (xs : List (Option (List ℕ) × ℕ)) (s t : PlaceState) → EachStep KeepsIn names xs s t → (name : List ℕ) → list_any (bytes_eq name) names ≡ false → t.left name ≡ s.left name
left_elsewhere names [] s t h name e = ap (λ (x : PlaceState). x.left name) h
left_elsewhere [] (x ∷ xs) s t h name e = absurd h
left_elsewhere (n ∷ names) (x ∷ xs) s t h name e =
    left_elsewhere names xs h.0 t h.2 name (or_right (bytes_eq name n) _ e) ∙ h.1.only_left name (differs name n (or_left (bytes_eq name n) _ e))

read_so : (m : Option Files) (left left' : List ℕ → List ℕ) (name : List ℕ) → WasRead m left name → left' name ≡ left name → WasRead m left' name
read_so None left left' name h e = tt
read_so (Some m) left left' name h e = (e ∙ h.0, h.1, h.2)

-- what was read stays so where sources of other names were kept back
pub all_read : (job : RehearseJob) → IsRehearse job → (m : Option Files) (left left' : List ℕ → List ℕ) → AllRead m left job
    → ((name : List ℕ) → list_any (bytes_eq name) (map request_file job.stems) ≡ false → left' name ≡ left name) → AllRead m left' job
all_read job ok m left left' h e =
    ((read_so m left left' job.supervoxels h.0.0 (e job.supervoxels (supervoxels_apart job ok)), read_so m left left' job.edges h.0.1 (e job.edges (edges_apart job ok))), go job.schedule refl h.1)
  where
    go : (o : Option (List ℕ)) → job.schedule ≡ o → ScheduleRead m left o → ScheduleRead m left' o
    go None q h = tt
    go (Some name) q h = read_so m left left' name h (e name (schedule_apart job ok name q))
