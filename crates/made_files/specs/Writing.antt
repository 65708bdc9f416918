-- Files that were put at a place one after the other.
use Rattle.std.specs.Prelude.{◌≡◌, ◌≤◌, ◌⊎◌, ⊤, ℕ, List, [], ◌∷◌, ◌++◌, Option, Some, None, Bool, false, bytes_eq}
use Rattle.std.specs.List.{list_any}
use Rattle.std.specs.FinMap.{get, insert}
use Rattle.pcg_base.specs.Causes.{Rose}
use Rattle.pcg_base.specs.States.{SinkState}
use Rattle.pcg_base.specs.Told.{Counts, Files}
use Rattle.request_lines.specs.Sent.{Puts}
use Rattle.request_lines.specs.declared.page.Page.{Page}

-- a file: its name and its bytes
abbrev pub File : Type 0
File = List ℕ × List ℕ

-- the files with these put at their names, one after the other
unfoldable pub put_all : Files → List File → Files
put_all m [] = m
put_all m (f ∷ fs) = put_all (insert m f.0 f.1) fs

-- where the place tells its bytes, it got just these files
abbrev pub PutsAll : Option Files → Option Files → List File → Type 0
PutsAll None new fs = ⊤
PutsAll (Some m) new fs = new ≡ Some (put_all m fs)

-- the same of the first ones, and of a front of the first of the others
abbrev pub PutsNext : Option Files → Option Files → List File → List File → Type 0
PutsNext old new done [] = ⊥
PutsNext old new done (f ∷ fs) = (front end : List ℕ) × (f.1 ≡ front ++ end) × PutsAll old new (done ++ (f.0, front) ∷ [])

-- Where the place tells its bytes, it got some first ones of these files, and of the next one at most a front.
abbrev pub PutsSome : Option Files → Option Files → List File → Type 0
PutsSome old new fs = (done rest : List File) × (fs ≡ done ++ rest) × (PutsAll old new done ⊎ PutsNext old new done rest)

-- whether one of these files has the name
abbrev pub is_named : List File → List ℕ → Bool
is_named fs name = list_any (λ f. bytes_eq f.0 name) fs

-- where the place tells its bytes it still does, and none but these files have changed
abbrev pub KeepsBut : List File → Option Files → Option Files → Type 0
KeepsBut fs None after = ⊤
KeepsBut fs (Some before) None = ⊥
KeepsBut fs (Some before) (Some after) = (name : List ℕ) → is_named fs name ≡ false → get after name ≡ get before name

-- a front of a text was put on a page
abbrev pub PutsFront : SinkState → SinkState → Page → Page → List ℕ → Type 0
PutsFront sink sink' page page' text = (front rest : List ℕ) × (text ≡ front ++ rest) × Puts sink sink' page page' front

-- a count beside a name rose: that of failed openings for writing, or that of the faults of its sinks
abbrev pub RoseAt : Counts → Counts → Type 0
RoseAt old new = Rose old.sink_openings new.sink_openings ⊎ Rose old.sink_faults new.sink_faults

-- these two counts didn't fall
pub record WritesLater (old new : Counts) : Type 0 where
  pub openings : old.sink_openings ≤ new.sink_openings
  pub faults : old.sink_faults ≤ new.sink_faults
