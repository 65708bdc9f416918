-- Counts that don't fall, and files that stay.
use Rattle.std.proofs.Common.{◌≡◌, ◌≤◌, ◌∙◌, ℕ, zero, suc, Bool, true, false, List, [], ◌∷◌, Option, Some, None, bytes_eq, slice_get, refl, sym, ap, subst, arith}
use Rattle.std.specs.Prelude.{◌≢◌}
use Rattle.std.specs.List.{AllByRecursion, list_any}
use Rattle.std.proofs.lemmas.Bool.{or_parts}
use Rattle.std.proofs.lemmas.Option.{none-some, same_Some}
use Rattle.std.proofs.lemmas.Slice.Eq.{bytes_eq-Decides}
use Rattle.pcg_base.specs.Causes.{Rose}
use Rattle.pcg_base.specs.States.{PlaceState}
use Rattle.pcg_base.specs.Told.{Counts, Files, KeepsFiles}
use Rattle.job_files.specs.Places.{IsLater, IsLaterAt, IsSame}

pub differs : (xs ys : List ℕ) → bytes_eq xs ys ≡ false → xs ≢ ys
differs xs ys e same = absurd (cc ((bytes_eq-Decides xs ys).1 same))

-- what holds at a name and at all others holds at each
pub at_each : (P : List ℕ → Type 0) (here : List ℕ) → P here → ((n : List ℕ) → n ≢ here → P n) → (n : List ℕ) → P n
at_each P here h others n = go (bytes_eq n here) refl
  where
    go : (b : Bool) → bytes_eq n here ≡ b → P n
    go true e = subst P (sym ((bytes_eq-Decides n here).0 e)) h
    go false e = others n (differs n here e)

-- an element of a list in which none passes a test
pub none_passes : {A : Type 0} (p : A → Bool) (xs : List A) (k : ℕ) (x : A) → slice_get xs k ≡ Some x → list_any p xs ≡ false → p x ≡ false
none_passes p [] k x g e = absurd (none-some x g)
none_passes p (y ∷ ys) zero x g e = ap p (sym (same_Some y x g)) ∙ (or_parts (p y) (list_any p ys) e).0
none_passes p (y ∷ ys) (suc k) x g e = none_passes p ys k x g (or_parts (p y) (list_any p ys) e).1

-- files that stay
pub files_keep : (f : Option Files) → KeepsFiles f f
files_keep None = tt
files_keep (Some m) = refl

pub files_then : (f g h : Option Files) → KeepsFiles f g → KeepsFiles g h → KeepsFiles f h
files_then None g h k l = tt
files_then (Some m) g h k l =
    let P : Option Files → Type 0 = λ x. KeepsFiles x h in
    subst P k l

-- counts that stay or rise
pub same_at : (old new : Counts) → new ≡ old → IsLaterAt old new
same_at old new e =
    let P : Counts → Type 0 = λ c. IsLaterAt old c in
    subst P (sym e) (record { source_openings = omega arith; sink_openings = omega arith; source_faults = omega arith; sink_faults = omega arith })

pub later_still : (s : PlaceState) → IsLater s s
later_still s = record { reads = omega arith; writes = omega arith; counts = λ name. same_at (s.counts name) (s.counts name) refl }

pub later_then : (a b c : PlaceState) → IsLater a b → IsLater b c → IsLater a c
later_then a b c h k = record {
  reads = omega (arith, h.reads, k.reads);
  writes = omega (arith, h.writes, k.writes);
  counts = λ name.
      let p = h.counts name in
      let q = k.counts name in
      record {
        source_openings = omega (arith, p.source_openings, q.source_openings);
        sink_openings = omega (arith, p.sink_openings, q.sink_openings);
        source_faults = omega (arith, p.source_faults, q.source_faults);
        sink_faults = omega (arith, p.sink_faults, q.sink_faults);
      };
}

pub rose_after : (a b c : ℕ) → a ≤ b → Rose b c → Rose a c
rose_after a b c h k = omega (arith, h, k)

pub rose_before : (a b c : ℕ) → Rose a b → b ≤ c → Rose a c
rose_before a b c h k = omega (arith, h, k)

-- nothing changed
pub same_still : (s : PlaceState) → IsSame s s
same_still s = record { files = files_keep s.files; left = λ name. refl; reads = refl; writes = refl; counts = λ name. refl }

pub same_then : (a b c : PlaceState) → IsSame a b → IsSame b c → IsSame a c
same_then a b c h k = record {
  files = files_then a.files b.files c.files h.files k.files;
  left = λ name. k.left name ∙ h.left name;
  reads = k.reads ∙ h.reads;
  writes = k.writes ∙ h.writes;
  counts = λ name. k.counts name ∙ h.counts name;
}

pub same_later : (a b : PlaceState) → IsSame a b → IsLater a b
same_later a b h = record {
  reads = omega (arith, h.reads);
  writes = omega (arith, h.writes);
  counts = λ name. same_at (a.counts name) (b.counts name) (h.counts name);
}

-- what holds of each, where it follows
pub all_then : {A : Type 0} (P Q : A → Type 0) → ((x : A) → P x → Q x) → (xs : List A) → AllByRecursion P xs → AllByRecursion Q xs
all_then P Q f [] h = tt
all_then P Q f (x ∷ xs) h = (f x h.0, all_then P Q f xs h.1)

pub all_at : {A : Type 0} (P : A → Type 0) (xs : List A) (k : ℕ) (x : A) → AllByRecursion P xs → slice_get xs k ≡ Some x → P x
all_at P [] k x h g = absurd (none-some x g)
all_at P (y ∷ ys) zero x h g = subst P (same_Some y x g) h.0
all_at P (y ∷ ys) (suc k) x h g = all_at P ys k x h.1 g
