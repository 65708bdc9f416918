-- Sinks that were kept back.
use Rattle.std.proofs.Common.{◌≡◌, ◌≤◌, ◌∙◌, ℕ, zero, suc, false, List, [], ◌∷◌, Option, Some, None, bytes_eq, slice_get, refl, sym, ap, subst, arith}
use Rattle.std.specs.Prelude.{IsTrue}
use Rattle.std.specs.List.{list_any}
use Rattle.std.specs.FinMap.{insert}
use Rattle.std.proofs.lemmas.Bool.{or_parts}
use Rattle.std.proofs.lemmas.Option.{none-some, same_Some}
use Rattle.pcg_base.specs.Causes.{added}
use Rattle.pcg_base.specs.States.{PlaceState}
use Rattle.pcg_base.specs.Told.{Counts, Files, PutsHeld}
use Rattle.pcg_words.specs.Job.{all_differ}
use Rattle.job_files.specs.Places.{EachStep, IsLater, KeepsOut}
use Rattle.job_files.specs.Kept.{AreKeptOut, IsAt, IsKeptOut, KeepsOther}
use Rattle.job_files.proofs.Counting.{at_each, differs, later_still, later_then, none_passes}
use Rattle.job_files.proofs.Emptying.{put_elsewhere, put_here}
use Rattle.job_files.proofs.KeptIn.{first_differs}
use Rattle.job_files.proofs.Steps.{out_later}

-- what stands beside a name that none of the sinks has
elsewhere : (names : List (List ℕ)) (xs : List (Option (List ℕ) × ℕ)) (old new : PlaceState) (n : List ℕ) → list_any (bytes_eq n) names ≡ false → EachStep KeepsOut names xs old new → new.counts n ≡ old.counts n
elsewhere names [] old new n away e = ap (λ (s : PlaceState). s.counts n) e
elsewhere [] (x ∷ xs) old new n away e = absurd e
elsewhere (m ∷ ms) (x ∷ xs) old new n away e =
    let p = or_parts (bytes_eq n m) (list_any (bytes_eq n) ms) away in
    elsewhere ms xs e.0 new n p.1 e.2 ∙ e.1.others n (differs n m p.0)

-- other files stay
others_none : (f : Option Files) → KeepsOther f [] f
others_none None = tt
others_none (Some m) = λ name away. refl

others_more : (f g h : Option Files) (n : List ℕ) (held : Option (List ℕ)) (ns : List (List ℕ)) → PutsHeld f g n held → KeepsOther g ns h → KeepsOther f (n ∷ ns) h
others_more None g h n held ns p k = tt
others_more (Some m) g h n None ns p k = absurd p
others_more (Some m) g h n (Some b) ns p k =
    let P : Option Files → Type 0 = λ x. KeepsOther x ns h in
    go h (subst P p k)
  where
    go : (x : Option Files) → KeepsOther (Some (insert m n b)) ns x → KeepsOther (Some m) (n ∷ ns) x
    go None k = absurd k
    go (Some m') k = λ name away. (let q = or_parts (bytes_eq name n) (list_any (bytes_eq name) ns) away in k name q.1 ∙ put_elsewhere m n b name q.0)

-- the file of the first sink has what it holds
first_at : (f g h : Option Files) (n : List ℕ) (held : Option (List ℕ)) (ns : List (List ℕ)) → PutsHeld f g n held → KeepsOther g ns h → list_any (bytes_eq n) ns ≡ false → IsAt f h n held
first_at None g h n held ns p k away = tt
first_at (Some m) g h n None ns p k away = absurd p
first_at (Some m) g h n (Some b) ns p k away =
    let P : Option Files → Type 0 = λ x. KeepsOther x ns h in
    go h (subst P p k)
  where
    go : (x : Option Files) → KeepsOther (Some (insert m n b)) ns x → IsAt (Some m) x n (Some b)
    go None k = absurd k
    go (Some m') k = (b, m', refl, refl, k n away ∙ put_here m n b)

later_at : (f g h : Option Files) (n name : List ℕ) (held x : Option (List ℕ)) → PutsHeld f g n held → IsAt g h name x → IsAt f h name x
later_at None g h n name held x p at = tt
later_at (Some m) g h n name None x p at = absurd p
later_at (Some m) g h n name (Some b) x p at =
    let P : Option Files → Type 0 = λ f. IsAt f h name x in
    subst P p at

first_kept : (name : List ℕ) (x : Option (List ℕ) × ℕ) (old mid new : PlaceState) → KeepsOut name x old mid → new.counts name ≡ mid.counts name → IsAt old.files new.files name x.0 → mid.writes ≤ new.writes
    → IsKeptOut name x old new
first_kept name x old mid new k s at up =
    let here = ap (λ (c : Counts). c.sink_faults) k.here in
    let then = ap (λ (c : Counts). c.sink_faults) s in
    record {
      file = at;
      faults = then ∙ here;
      later = (let l = k.later_here in omega (arith, then, l));
      rose = λ one. (let t = k.writes in let l = k.later in omega (arith, one, t, l, up));
    }

later_kept : (name : List ℕ) (x : Option (List ℕ) × ℕ) (old mid new : PlaceState) → IsAt old.files new.files name x.0 → old.writes ≤ mid.writes → mid.counts name ≡ old.counts name → IsKeptOut name x mid new
    → IsKeptOut name x old new
later_kept name x old mid new at up same k =
    let s = ap (λ (c : Counts). c.sink_faults) same in
    record {
      file = at;
      faults = k.faults ∙ ap (λ n. added n x.1) s;
      later = (let l = k.later in omega (arith, s, l));
      rose = λ one. (let r = k.rose one in omega (arith, r, up));
    }

pub are_kept_out : (names : List (List ℕ)) (xs : List (Option (List ℕ) × ℕ)) (old new : PlaceState) → IsTrue (all_differ names) → EachStep KeepsOut names xs old new → AreKeptOut names xs old new
are_kept_out names [] old new differ e =
    subst (λ s. AreKeptOut names [] old s) (sym e) (record {
      reads = refl;
      later = later_still old;
      left = λ name. refl;
      sources = λ name. refl;
      others = others_same names old.files;
      still = λ none. refl;
      each = λ k name sink g h. absurd (none-some sink h);
    })
  where
    others_same : (ns : List (List ℕ)) (f : Option Files) → KeepsOther f ns f
    others_same ns None = tt
    others_same ns (Some m) = λ name away. refl
are_kept_out [] (x ∷ xs) old new differ e = absurd e
are_kept_out (n ∷ ns) (x ∷ xs) old new differ e =
    let d = first_differs n ns differ in
    let mid = e.0 in
    let step = e.1 in
    let rest = are_kept_out ns xs mid new d.1 e.2 in
    let up = out_later n x old mid step in
    record {
      reads = rest.reads ∙ step.reads;
      later = later_then old mid new up rest.later;
      left = λ name. rest.left name ∙ step.left name;
      sources = λ name. rest.sources name ∙ at_each (λ m. (mid.counts m).source_faults ≡ (old.counts m).source_faults) n (ap (λ (c : Counts). c.source_faults) step.here)
          (λ m away. ap (λ (c : Counts). c.source_faults) (step.others m away)) name;
      others = others_more old.files mid.files new.files n x.0 ns step.files rest.others;
      still = λ none. rest.still none.1 ∙ (let t = step.writes in let l = step.later in let z = none.0 in omega (arith, t, l, z));
      each = λ k. go d rest up k;
    }
  where
    go : (d : (list_any (bytes_eq n) ns ≡ false) × IsTrue (all_differ ns)) → AreKeptOut ns xs e.0 new → IsLater old e.0
        → (k : ℕ) (name : List ℕ) (sink : Option (List ℕ) × ℕ) → slice_get (n ∷ ns) k ≡ Some name → slice_get (x ∷ xs) k ≡ Some sink → IsKeptOut name sink old new
    go d rest up zero name sink g h =
        subst (λ m. IsKeptOut m sink old new) (same_Some n name g) (subst (λ s. IsKeptOut n s old new) (same_Some x sink h)
        (first_kept n x old e.0 new e.1 (elsewhere ns xs e.0 new n d.0 e.2) (first_at old.files e.0.files new.files n x.0 ns e.1.files rest.others d.0) rest.later.writes))
    go d rest up (suc k) name sink g h =
        let away = differs n name (none_passes (bytes_eq n) ns k name g d.0) in
        let r = rest.each k name sink g h in
        later_kept name sink old e.0 new (later_at old.files e.0.files new.files n name x.0 sink.0 e.1.files r.file) up.writes (e.1.others name (λ same. away (sym same))) r
