-- Counts that don't fall.
use Rattle.std.proofs.Common.{◌≡◌, ◌≤◌, ℕ, Bool, true, false, List, bytes_eq, refl, sym, subst, arith, inl, inr}
use Rattle.std.specs.Prelude.{Result, Ok, Err, OnOk, ◌⊎◌, ◌≢◌}
use Rattle.std.proofs.lemmas.Slice.Eq.{bytes_eq-Decides}
use Rattle.pcg_base.specs.Causes.{Rose}
use Rattle.pcg_base.specs.States.{PlaceState}
use Rattle.pcg_base.specs.Told.{Counts, ReadsSource}
use Rattle.job_files.specs.Places.{IsLater, IsLaterAt, ReadRose}

same_at : (old new : Counts) → new ≡ old → IsLaterAt old new
same_at old new e =
    let P : Counts → Type 0 = λ c. IsLaterAt old c in
    subst P (sym e) (record { source_openings = omega arith; sink_openings = omega arith; source_faults = omega arith; sink_faults = omega arith })

reads_at : (old new : Counts) → ReadsSource old new → IsLaterAt old new
reads_at old new h = record {
  source_openings = h.source_openings;
  sink_openings = omega (arith, h.sink_openings);
  source_faults = h.source_faults;
  sink_faults = omega (arith, h.sink_faults);
}

differs : (xs ys : List ℕ) → bytes_eq xs ys ≡ false → xs ≡ ys → ⊥
differs xs ys e same = absurd (cc ((bytes_eq-Decides xs ys).1 same))

-- what holds of one name's counts, and of those that stayed, holds of all
at_each : (P : Counts → Counts → Type 0) (old new : List ℕ → Counts) (here : List ℕ) → ((a b : Counts) → b ≡ a → P a b) → P (old here) (new here) → ((n : List ℕ) → n ≢ here → new n ≡ old n)
    → (name : List ℕ) → P (old name) (new name)
at_each P old new here same h others name = go (bytes_eq name here) refl
  where
    go : (b : Bool) → bytes_eq name here ≡ b → P (old name) (new name)
    go true e =
        let Q : List ℕ → Type 0 = λ n. P (old n) (new n) in
        subst Q (sym ((bytes_eq-Decides name here).0 e)) h
    go false e = same (old name) (new name) (others name (differs name here e))

pub later_read : (old new : PlaceState) (here : List ℕ) → old.reads ≤ new.reads → new.writes ≡ old.writes → ReadsSource (old.counts here) (new.counts here)
    → ((n : List ℕ) → n ≢ here → new.counts n ≡ old.counts n) → IsLater old new
later_read old new here r w h others = record {
  reads = r;
  writes = omega (arith, w);
  counts = at_each IsLaterAt old.counts new.counts here same_at (reads_at (old.counts here) (new.counts here) h) others;
}

-- no count of any name changed
pub all_still : (old new : List ℕ → Counts) (here : List ℕ) → new here ≡ old here → ((n : List ℕ) → n ≢ here → new n ≡ old n) → (name : List ℕ) → new name ≡ old name
all_still old new here h others = at_each (λ a b. b ≡ a) old new here (λ a b e. e) h others

pub later_same : (s : PlaceState) → IsLater s s
later_same s = record { reads = omega arith; writes = omega arith; counts = λ name. same_at (s.counts name) (s.counts name) refl }

pub later_then : (a b c : PlaceState) → IsLater a b → IsLater b c → IsLater a c
later_then a b c h k = record {
  reads = omega (arith, h.reads, k.reads);
  writes = omega (arith, h.writes, k.writes);
  counts = λ name.
      let p = h.counts name in
      let q = k.counts name in
      record {
        source_openings = omega (arith, p.source_openings, q.source_openings);
        sink_openings = omega (arith, p.sink_openings, q.sink_openings);
        source_faults = omega (arith, p.source_faults, q.source_faults);
        sink_faults = omega (arith, p.sink_faults, q.sink_faults);
      };
}

rose_after : (a b c : ℕ) → a ≤ b → Rose b c → Rose a c
rose_after a b c h k = omega (arith, h, k)

-- what rose behind rose from before
pub read_after : (a b c : PlaceState) (name : List ℕ) → IsLater a b → ReadRose b c name → ReadRose a c name
read_after a b c name h k = record {
  place = rose_after a.reads b.reads c.reads h.reads k.place;
  here = go k.here;
}
  where
    go : Rose (b.counts name).source_openings (c.counts name).source_openings ⊎ Rose (b.counts name).source_faults (c.counts name).source_faults
        → Rose (a.counts name).source_openings (c.counts name).source_openings ⊎ Rose (a.counts name).source_faults (c.counts name).source_faults
    go (inl r) = inl (rose_after _ _ _ ((h.counts name).source_openings) r)
    go (inr r) = inr (rose_after _ _ _ ((h.counts name).source_faults) r)

pub on_ok : {A B : Type 0} {P : Type 0} (r : Result A B) → P → OnOk r P
on_ok (Ok x) p = p
on_ok (Err e) p = tt
