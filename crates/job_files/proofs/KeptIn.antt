-- Sources that were kept back.
use Rattle.std.proofs.Common.{◌≡◌, ◌≤◌, ◌∙◌, ℕ, zero, suc, Bool, true, false, not, List, [], ◌∷◌, Option, Some, None, bytes_eq, slice_get, refl, sym, ap, subst, arith}
use Rattle.std.specs.Prelude.{IsTrue}
use Rattle.std.specs.List.{list_any}
use Rattle.std.proofs.lemmas.Bool.{and_parts, or_parts}
use Rattle.std.proofs.lemmas.Option.{none-some, same_Some}
use Rattle.pcg_base.specs.Causes.{added}
use Rattle.pcg_base.specs.States.{PlaceState}
use Rattle.pcg_base.specs.Told.{Counts, Files, KeepsFiles, TellsTo}
use Rattle.pcg_words.specs.Job.{all_differ}
use Rattle.job_files.specs.Places.{EachStep, IsLater, KeepsIn}
use Rattle.job_files.specs.Kept.{AreKeptIn, IsKeptIn}
use Rattle.job_files.proofs.Counting.{at_each, differs, files_keep, files_then, later_still, later_then, none_passes}
use Rattle.job_files.proofs.Steps.{in_later}

-- no two names are equal: the first is none of the others
pub first_differs : (name : List ℕ) (names : List (List ℕ)) → IsTrue (all_differ (name ∷ names)) → (list_any (bytes_eq name) names ≡ false) × IsTrue (all_differ names)
unfolding all_differ
first_differs name names h = let p = and_parts (not (list_any (bytes_eq name) names)) (all_differ names) h in (go (list_any (bytes_eq name) names) p.0, p.1)
  where
    go : (b : Bool) → not b ≡ true → b ≡ false
    go true e = sym e
    go false e = refl

-- what stands beside a name that none of the sources has
elsewhere : (names : List (List ℕ)) (xs : List (Option (List ℕ) × ℕ)) (old new : PlaceState) (n : List ℕ) → list_any (bytes_eq n) names ≡ false → EachStep KeepsIn names xs old new
    → (new.counts n ≡ old.counts n) × (new.left n ≡ old.left n)
elsewhere names [] old new n away e = (ap (λ (s : PlaceState). s.counts n) e, ap (λ (s : PlaceState). s.left n) e)
elsewhere [] (x ∷ xs) old new n away e = absurd e
elsewhere (m ∷ ms) (x ∷ xs) old new n away e =
    let p = or_parts (bytes_eq n m) (list_any (bytes_eq n) ms) away in
    let d = differs n m p.0 in
    let r = elsewhere ms xs e.0 new n p.1 e.2 in
    (r.0 ∙ e.1.others n d, r.1 ∙ e.1.only_left n d)

tells_then : (f g : Option Files) (known : Option (List ℕ)) (bytes : List ℕ) → KeepsFiles f g → TellsTo g known bytes → TellsTo f known bytes
tells_then None g known bytes k t = tt
tells_then (Some m) g known bytes k t =
    let P : Option Files → Type 0 = λ x. TellsTo x known bytes in
    subst P k t

-- the first source
first_kept : (name : List ℕ) (x : Option (List ℕ) × ℕ) (old mid new : PlaceState) → KeepsIn name x old mid → (new.counts name ≡ mid.counts name) × (new.left name ≡ mid.left name) → mid.reads ≤ new.reads
    → IsKeptIn name x old new
first_kept name x old mid new k s up =
    let here = ap (λ (c : Counts). c.source_faults) k.here in
    let then = ap (λ (c : Counts). c.source_faults) s.0 in
    record {
      left = subst (λ (l : List ℕ). TellsTo old.files x.0 l) (sym s.1) k.left;
      faults = then ∙ here;
      later = (let l = k.later_here in omega (arith, then, l));
      rose = λ one. (let t = k.reads in let l = k.later in omega (arith, one, t, l, up));
    }

-- one behind the first
later_kept : (name : List ℕ) (x : Option (List ℕ) × ℕ) (old mid new : PlaceState) → KeepsFiles old.files mid.files → old.reads ≤ mid.reads → mid.counts name ≡ old.counts name → IsKeptIn name x mid new
    → IsKeptIn name x old new
later_kept name x old mid new keeps up same k =
    let s = ap (λ (c : Counts). c.source_faults) same in
    record {
      left = tells_then old.files mid.files x.0 (new.left name) keeps k.left;
      faults = k.faults ∙ ap (λ n. added n x.1) s;
      later = (let l = k.later in omega (arith, s, l));
      rose = λ one. (let r = k.rose one in omega (arith, r, up));
    }

pub are_kept_in : (names : List (List ℕ)) (xs : List (Option (List ℕ) × ℕ)) (old new : PlaceState) → IsTrue (all_differ names) → EachStep KeepsIn names xs old new → AreKeptIn names xs old new
are_kept_in names [] old new differ e =
    subst (λ s. AreKeptIn names [] old s) (sym e) (record {
      files = files_keep old.files;
      writes = refl;
      later = later_still old;
      sinks = λ name. refl;
      still = λ none. refl;
      each = λ k name source g h. absurd (none-some source h);
    })
are_kept_in [] (x ∷ xs) old new differ e = absurd e
are_kept_in (n ∷ ns) (x ∷ xs) old new differ e =
    let d = first_differs n ns differ in
    let mid = e.0 in
    let step = e.1 in
    let rest = are_kept_in ns xs mid new d.1 e.2 in
    let up = in_later n x old mid step in
    record {
      files = files_then old.files mid.files new.files step.files rest.files;
      writes = rest.writes ∙ step.writes;
      later = later_then old mid new up rest.later;
      sinks = λ name. rest.sinks name ∙ at_each (λ m. (mid.counts m).sink_faults ≡ (old.counts m).sink_faults) n (ap (λ (c : Counts). c.sink_faults) step.here)
          (λ m away. ap (λ (c : Counts). c.sink_faults) (step.others m away)) name;
      still = λ none. rest.still none.1 ∙ (let t = step.reads in let l = step.later in let z = none.0 in omega (arith, t, l, z));
      each = λ k. go d rest up k;
    }
  where
    go : (d : (list_any (bytes_eq n) ns ≡ false) × IsTrue (all_differ ns)) → AreKeptIn ns xs e.0 new → IsLater old e.0
        → (k : ℕ) (name : List ℕ) (source : Option (List ℕ) × ℕ) → slice_get (n ∷ ns) k ≡ Some name → slice_get (x ∷ xs) k ≡ Some source → IsKeptIn name source old new
    go d rest up zero name source g h =
        subst (λ m. IsKeptIn m source old new) (same_Some n name g) (subst (λ s. IsKeptIn n s old new) (same_Some x source h)
        (first_kept n x old e.0 new e.1 (elsewhere ns xs e.0 new n d.0 e.2) rest.later.reads))
    go d rest up (suc k) name source g h =
        let away = differs n name (none_passes (bytes_eq n) ns k name g d.0) in
        later_kept name source old e.0 new e.1.files up.reads (e.1.others name (λ same. away (sym same))) (rest.each k name source g h)
