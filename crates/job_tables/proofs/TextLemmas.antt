-- The texts of a job, and why they were not read.
use Rattle.std.proofs.Common.{◌≡◌, ℕ, List, ◌∷◌, ◌++◌, Bool, true, false, Option, Some, None, bytes_eq, refl, sym, ◌∙◌, inl, inr, subst}
use Rattle.std.specs.Prelude.{option_to_list, ◌≢◌, ◌||◌, ◌&&◌, not, IsTrue}
use Rattle.std.proofs.lemmas.Bool.{false≢true}
use Rattle.std.proofs.lemmas.Slice.Eq.{bytes_eq-Decides}
use Rattle.pcg_base.specs.States.{PlaceState}
use Rattle.pcg_base.specs.Told.{Files, KeepsFiles, IsLongerAt}
use Rattle.pcg_words.specs.declared.job.RehearseJob.{RehearseJob}
use Rattle.pcg_words.specs.Job.{IsRehearse, all_differ, client_files, file_names}
use Rattle.call_lines.specs.declared.stops.FileName.TheVariants as files
use Rattle.call_lines.specs.declared.stops.Stop.{Stop}
use Rattle.job_files.specs.Places.{IsLater}
use Rattle.job_tables.specs.Inputs.{HasText, limit}
use Rattle.job_tables.specs.Stops.{AllRead, InputStop, ScheduleLong, ScheduleRead, ScheduleRose, TablesRead, TextStop, WasRead}
use Rattle.job_tables.specs.Made.{IsOther, ScheduleStop}
use Rattle.job_tables.proofs.Later.{read_after}

-- what a place tells stays the same while it is read
pub kept_text : (old new : Option Files) (name bytes : List ℕ) → KeepsFiles old new → HasText new name bytes → HasText old name bytes
kept_text None new name bytes k h = tt
kept_text (Some m) new name bytes k h =
    let P : Option Files → Type 0 = λ f. HasText f name bytes in
    subst P k h

kept_long : (old new : Option Files) (name : List ℕ) → KeepsFiles old new → IsLongerAt new name limit → IsLongerAt old name limit
kept_long None new name k h = tt
kept_long (Some m) new name k h =
    let P : Option Files → Type 0 = λ f. IsLongerAt f name limit in
    subst P k h

kept_read : (old new : Option Files) (left : List ℕ → List ℕ) (name : List ℕ) → KeepsFiles old new → WasRead new left name → WasRead old left name
kept_read None new left name k w = tt
kept_read (Some m) new left name k w =
    let P : Option Files → Type 0 = λ f. WasRead f left name in
    subst P k w

-- a text that was read is still so where the same is left of it
still : (m : Option Files) (before after : List ℕ → List ℕ) (name : List ℕ) → after name ≡ before name → WasRead m before name → WasRead m after name
still None before after name same w = tt
still (Some m) before after name same w = (same ∙ w.0, w.1, w.2)

apart : (xs ys : List ℕ) → bytes_eq xs ys ≡ false → xs ≢ ys
apart xs ys e same = absurd (false≢true (sym e ∙ (bytes_eq-Decides xs ys).1 same))

first_differs : (x y z : Bool) → IsTrue (not (x || y) && z) → x ≡ false
first_differs true y z h = absurd (cc)
first_differs false y z h = refl

second_differs : (x y z w : Bool) → IsTrue (not (x || (y || z)) && w) → y ≡ false
second_differs true y z w h = absurd (cc)
second_differs false true z w h = absurd (cc)
second_differs false false z w h = refl

rest_differ : (x y : Bool) → IsTrue (x && y) → IsTrue y
rest_differ true y h = h
rest_differ false y h = absurd (cc)

-- the tables have two names
tables_differ : (job : RehearseJob) → IsRehearse job → job.supervoxels ≢ job.edges
unfolding all_differ file_names
tables_differ job ok = apart job.supervoxels job.edges (first_differs (bytes_eq job.supervoxels job.edges) _ _ ok.names)

-- the schedule has another one
schedule_differs : (supervoxels edges : List ℕ) (schedule : Option (List ℕ)) (stems : List (List ℕ)) → IsTrue (all_differ (supervoxels ∷ edges ∷ (option_to_list schedule ++ client_files stems)))
    → IsOther schedule supervoxels × IsOther schedule edges
unfolding all_differ
schedule_differs supervoxels edges None stems h = (tt, tt)
schedule_differs supervoxels edges (Some name) stems h =
    (apart supervoxels name (second_differs (bytes_eq supervoxels edges) _ _ _ h), apart edges name (first_differs _ _ _ (rest_differ _ _ h)))

others : (job : RehearseJob) → IsRehearse job → IsOther job.schedule job.supervoxels × IsOther job.schedule job.edges
unfolding file_names
others job ok = schedule_differs job.supervoxels job.edges job.schedule job.stems ok.names

-- both tables were read
pub both_read : (job : RehearseJob) (a b c : PlaceState) → IsRehearse job → KeepsFiles a.files b.files → WasRead a.files b.left job.supervoxels → ((n : List ℕ) → n ≢ job.edges → c.left n ≡ b.left n)
    → WasRead b.files c.left job.edges → TablesRead a.files c.left job
both_read job a b c ok k w same v =
    (still a.files b.left c.left job.supervoxels (same job.supervoxels (tables_differ job ok)) w, kept_read a.files b.files c.left job.edges k v)

-- the supervoxels weren't read
pub first_stop : (job : RehearseJob) (a c : PlaceState) (stop : Stop) → TextStop a.files job.supervoxels files.Supervoxels a c stop → InputStop job a c stop
first_stop job a c stop (inl h) = subst (InputStop job a c) (sym h.0) (refl, h.1)
first_stop job a c stop (inr (inl h)) = subst (InputStop job a c) (sym h.0) (refl, h.1)
first_stop job a c stop (inr (inr h)) = subst (InputStop job a c) (sym h) tt

-- the supervoxels were read, and the edges weren't
pub second_stop : (job : RehearseJob) (a b c : PlaceState) (stop : Stop) → IsRehearse job → KeepsFiles a.files b.files → IsLater a b → WasRead a.files b.left job.supervoxels
    → ((n : List ℕ) → n ≢ job.edges → c.left n ≡ b.left n) → TextStop b.files job.edges files.Edges b c stop → InputStop job a c stop
second_stop job a b c stop ok k later w same (inl h) =
    subst (InputStop job a c) (sym h.0)
    (refl, read_after a b c job.edges later h.1, still a.files b.left c.left job.supervoxels (same job.supervoxels (tables_differ job ok)) w)
second_stop job a b c stop ok k later w same (inr (inl h)) =
    subst (InputStop job a c) (sym h.0)
    (refl, kept_long a.files b.files job.edges k h.1, still a.files b.left c.left job.supervoxels (same job.supervoxels (tables_differ job ok)) w)
second_stop job a b c stop ok k later w same (inr (inr h)) = subst (InputStop job a c) (sym h) tt

-- the tables are still read behind the schedule
tables_still : (job : RehearseJob) (m : Option Files) (before after : List ℕ → List ℕ) → IsRehearse job → ((n : List ℕ) → IsOther job.schedule n → after n ≡ before n) → TablesRead m before job
    → TablesRead m after job
tables_still job m before after ok same r =
    let away = others job ok in
    (still m before after job.supervoxels (same job.supervoxels away.0) r.0, still m before after job.edges (same job.edges away.1) r.1)

schedule_stop : (job : RehearseJob) (a b c : PlaceState) (stop : Stop) (schedule : Option (List ℕ)) → job.schedule ≡ schedule → KeepsFiles a.files b.files → IsLater a b → TablesRead a.files c.left job
    → ScheduleStop b.files schedule b c stop → InputStop job a c stop
schedule_stop job a b c stop None is k later r h = absurd h
schedule_stop job a b c stop (Some name) is k later r (inl h) =
    subst (InputStop job a c) (sym h.0) (refl, subst (ScheduleRose a c) (sym is) (read_after a b c name later h.1), r)
schedule_stop job a b c stop (Some name) is k later r (inr (inl h)) =
    subst (InputStop job a c) (sym h.0) (refl, subst (ScheduleLong a.files) (sym is) (kept_long a.files b.files name k h.1), r)
schedule_stop job a b c stop (Some name) is k later r (inr (inr h)) = subst (InputStop job a c) (sym h) tt

-- the tables were read, and the schedule wasn't
pub third_stop : (job : RehearseJob) (a b c : PlaceState) (stop : Stop) → IsRehearse job → KeepsFiles a.files b.files → IsLater a b → TablesRead a.files b.left job
    → ((n : List ℕ) → IsOther job.schedule n → c.left n ≡ b.left n) → ScheduleStop b.files job.schedule b c stop → InputStop job a c stop
third_stop job a b c stop ok k later r same h = schedule_stop job a b c stop job.schedule refl k later (tables_still job a.files b.left c.left ok same r) h

kept_schedule : (old new : Option Files) (left : List ℕ → List ℕ) (schedule : Option (List ℕ)) → KeepsFiles old new → ScheduleRead new left schedule → ScheduleRead old left schedule
kept_schedule old new left None k w = tt
kept_schedule old new left (Some name) k w = kept_read old new left name k w

-- all texts were read
pub all_read : (job : RehearseJob) (a b c : PlaceState) → IsRehearse job → KeepsFiles a.files b.files → TablesRead a.files b.left job → ((n : List ℕ) → IsOther job.schedule n → c.left n ≡ b.left n)
    → ScheduleRead b.files c.left job.schedule → AllRead a.files c.left job
all_read job a b c ok k r same v = (tables_still job a.files b.left c.left ok same r, kept_schedule a.files b.files c.left job.schedule k v)
