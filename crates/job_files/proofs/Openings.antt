-- Requests that are opened one by one.
use Rattle.std.proofs.Common.{◌≡◌, ◌≤◌, ◌<◌, ◌+◌, ◌∙◌, ℕ, zero, suc, pred, Bool, true, false, not, List, [], ◌∷◌, ◌++◌, Option, Some, None, bytes_eq, length, take, map, slice_get, option_map, refl, sym, ap, subst, arith, inl, inr}
use Rattle.std.specs.Prelude.{◌≢◌, ◌⊎◌, IsTrue, Result, Ok, Err, OnOk}
use Rattle.std.specs.List.{AllByRecursion, list_any}
use Rattle.std.proofs.lemmas.Bool.{and_from, or_from, or_parts, not_from_false}
use Rattle.std.proofs.lemmas.List.{take_all}
use Rattle.std.proofs.lemmas.Option.{none-some, same_Some, slice_get_within, slice_get-map}
use Rattle.pcg_base.specs.Causes.{Rose}
use Rattle.pcg_base.specs.States.{PlaceState}
use Rattle.pcg_base.specs.Told.{Counts, Files, KeepsFiles, OpensSource, TellsAt, TellsTo}
use Rattle.pcg_base.specs.declared.place.PlaceError.{PlaceError}
use Rattle.pcg_base.specs.declared.place.PlaceError.TheVariants as errors
use Rattle.pcg_words.specs.Job.{all_differ}
use Rattle.job_files.specs.Clients.{AreOpened, FrontWhole, RequestsShut}
use Rattle.job_files.specs.Fronts.{FailsIn, IsOpened, OpensFront, fault_of}
use Rattle.job_files.specs.Kept.{AreKeptIn}
use Rattle.job_files.specs.Places.{EachStep, IsLater, IsLaterAt, IsSame, KeepsIn, ReadRose, WasOpened}
use Rattle.job_files.specs.declared.opening.OpenFault.{OpenFault}
use Rattle.job_files.specs.declared.opening.OpenFault.TheVariants as faults
use Rattle.job_files.proofs.Counting.{all_then, at_each, differs, files_then, later_then, rose_after, rose_before, same_at, same_later, same_still, same_then}
use Rattle.job_files.proofs.KeptIn.{are_kept_in, first_differs}
use Rattle.job_files.proofs.Steps.{each_later, in_later, of_source}

-- ---- fronts of lists
pub take_more : {A : Type 0} (xs : List A) (k : ℕ) (x : A) → slice_get xs k ≡ Some x → take (k + 1) xs ≡ take k xs ++ x ∷ []
take_more [] k x g = absurd (none-some x g)
take_more (y ∷ ys) zero x g = ap (λ z. z ∷ []) (same_Some y x g)
take_more (y ∷ ys) (suc k) x g =
    let e : suc k + 1 ≡ suc (k + 1) = omega arith in
    ap (λ n. take n (y ∷ ys)) e ∙ ap (λ zs. y ∷ zs) (take_more ys k x g)

pub take_whole : {A : Type 0} (xs : List A) (n : ℕ) → n ≡ length xs → take n xs ≡ xs
take_whole xs n e = take_all n xs (omega (arith, e))

pub take_same : {A : Type 0} (xs ys : List A) (n m : ℕ) → ys ≡ take n xs → n ≡ m → ys ≡ take m xs
take_same xs ys n m e k = e ∙ ap (λ i. take i xs) k

pub get_front : {A : Type 0} (n k : ℕ) (xs : List A) (x : A) → k < n → slice_get xs k ≡ Some x → slice_get (take n xs) k ≡ Some x
get_front zero k xs x l g = absurd (omega (arith, l))
get_front (suc n) k [] x l g = absurd (none-some x g)
get_front (suc n) zero (y ∷ ys) x l g = g
get_front (suc n) (suc k) (y ∷ ys) x l g = let m : k < n = omega (arith, l) in get_front n k ys x m g

any_front : {A : Type 0} (p : A → Bool) (n : ℕ) (xs : List A) → list_any p xs ≡ false → list_any p (take n xs) ≡ false
any_front p zero xs e = refl
any_front p (suc n) [] e = refl
any_front p (suc n) (y ∷ ys) e = let q = or_parts (p y) (list_any p ys) e in or_from (p y) (list_any p (take n ys)) q.0 (any_front p n ys q.1)

pub differ_front : (n : ℕ) (names : List (List ℕ)) → IsTrue (all_differ names) → IsTrue (all_differ (take n names))
unfolding all_differ
differ_front zero names d = refl
differ_front (suc n) [] d = refl
differ_front (suc n) (x ∷ xs) d =
    let q = first_differs x xs d in
    and_from (not (list_any (bytes_eq x) (take n xs))) (all_differ (take n xs)) (not_from_false (list_any (bytes_eq x) (take n xs)) (any_front (bytes_eq x) n xs q.0)) (differ_front n xs q.1)

pub all_more : {A : Type 0} (P : A → Type 0) (xs : List A) (x : A) → AllByRecursion P xs → P x → AllByRecursion P (xs ++ x ∷ [])
all_more P [] x h p = (p, tt)
all_more P (y ∷ ys) x h p = (h.0, all_more P ys x h.1 p)

-- ---- one opening
pub opening_same : {A E : Type 0} (r : Result A E) (here : List ℕ) (old new : PlaceState) → KeepsFiles old.files new.files → ((n : List ℕ) → new.left n ≡ old.left n) → OnOk r (new.reads ≡ old.reads) → new.writes ≡ old.writes
    → OnOk r (new.counts here ≡ old.counts here) → ((n : List ℕ) → n ≢ here → new.counts n ≡ old.counts n) → OnOk r (IsSame old new)
opening_same (Ok x) here old new f l reads w c others = record {
  files = f;
  left = l;
  reads = reads;
  writes = w;
  counts = at_each (λ n. new.counts n ≡ old.counts n) here c others;
}
opening_same (Err x) here old new f l reads w c others = tt

source_at : (old new : Counts) → OpensSource old new → IsLaterAt old new
source_at old new h = record {
  source_openings = h.source_openings;
  sink_openings = omega (arith, h.sink_openings);
  source_faults = omega (arith, h.source_faults);
  sink_faults = omega (arith, h.sink_faults);
}

pub source_later : (here : List ℕ) (old new : PlaceState) → old.reads ≤ new.reads → new.writes ≡ old.writes → OpensSource (old.counts here) (new.counts here) → ((n : List ℕ) → n ≢ here → new.counts n ≡ old.counts n) → IsLater old new
source_later here old new r w h others = record {
  reads = r;
  writes = omega (arith, w);
  counts = at_each (λ n. IsLaterAt (old.counts n) (new.counts n)) here (source_at (old.counts here) (new.counts here) h) (λ n away. same_at (old.counts n) (new.counts n) (others n away));
}

-- ---- several openings
pub tells_before : (f g : Option Files) (name : List ℕ) (left : Option (List ℕ)) → KeepsFiles f g → TellsAt g name left → TellsAt f name left
tells_before None g name left k t = tt
tells_before (Some m) g name left k t =
    let P : Option Files → Type 0 = λ x. TellsAt x name left in
    subst P k t

pub opened_count : {S : Type 0} (left : S → Option (List ℕ)) (faults : S → ℕ) (files : Option Files) (names : List (List ℕ)) (xs : List S) → AreOpened left faults files names xs → length xs ≡ length names
opened_count left faults files [] [] h = refl
opened_count left faults files [] (x ∷ xs) h = absurd h
opened_count left faults files (n ∷ ns) [] h = absurd h
opened_count left faults files (n ∷ ns) (x ∷ xs) h = ap suc (opened_count left faults files ns xs h.2)

opened_more : {S : Type 0} (left : S → Option (List ℕ)) (faults : S → ℕ) (files : Option Files) (names : List (List ℕ)) (xs : List S) (name : List ℕ) (x : S)
    → AreOpened left faults files names xs → IsOpened left faults files name x → AreOpened left faults files (names ++ name ∷ []) (xs ++ x ∷ [])
opened_more left faults files [] [] name x h o = (o.0, o.1, tt)
opened_more left faults files [] (y ∷ ys) name x h o = absurd h
opened_more left faults files (n ∷ ns) [] name x h o = absurd h
opened_more left faults files (n ∷ ns) (y ∷ ys) name x h o = (h.0, h.1, opened_more left faults files ns ys name x h.2 o)

-- the first requests were opened
pub record OpenedSoFar {S : Type 0} (left : S → Option (List ℕ)) (faults : S → ℕ) (is_ready : List ℕ → Bool) (names : List (List ℕ)) (at : ℕ) (xs : List S) (first now : PlaceState) : Type 0 where
  pub opened : AreOpened left faults first.files (take at names) xs
  pub same : IsSame first now
  pub ready : AllByRecursion (λ name. is_ready name ≡ true) (take at names)
  pub count : length xs ≡ at

pub opened_none : {S : Type 0} (left : S → Option (List ℕ)) (faults : S → ℕ) (is_ready : List ℕ → Bool) (names : List (List ℕ)) (xs : List S) (first : PlaceState) → xs ≡ [] → OpenedSoFar left faults is_ready names 0 xs first first
opened_none left faults is_ready names xs first e =
    subst (λ ys. OpenedSoFar left faults is_ready names 0 ys first first) (sym e) (record { opened = tt; same = same_still first; ready = tt; count = refl })

pub opened_next : {S : Type 0} (left : S → Option (List ℕ)) (faults : S → ℕ) (is_ready is_ready' : List ℕ → Bool) (names : List (List ℕ)) (at : ℕ) (xs ys : List S) (first now new : PlaceState) (name : List ℕ) (x : S)
    → OpenedSoFar left faults is_ready names at xs first now → slice_get names at ≡ Some name → ys ≡ xs ++ x ∷ [] → IsOpened left faults now.files name x → IsSame now new
    → is_ready' name ≡ true → ((n : List ℕ) → is_ready n ≡ true → is_ready' n ≡ true) → OpenedSoFar left faults is_ready' names (at + 1) ys first new
opened_next left faults is_ready is_ready' names at xs ys first now new name x k g e o s here stays =
    let more = take_more names at name g in
    subst (λ zs. OpenedSoFar left faults is_ready' names (at + 1) zs first new) (sym e) (record {
      opened = subst (λ ns. AreOpened left faults first.files ns (xs ++ x ∷ [])) (sym more)
          (opened_more left faults first.files (take at names) xs name x k.opened (tells_before first.files now.files name (left x) k.same.files o.0, o.1));
      same = same_then first now new k.same s;
      ready = subst (λ ns. AllByRecursion (λ n. is_ready' n ≡ true) ns) (sym more)
          (all_more (λ n. is_ready' n ≡ true) (take at names) name (all_then (λ n. is_ready n ≡ true) (λ n. is_ready' n ≡ true) stays (take at names) k.ready) here);
      count = (let l = length_more xs x in let c = k.count in omega (arith, l, c));
    })
  where
    length_more : {A : Type 0} (zs : List A) (z : A) → length (zs ++ z ∷ []) ≡ length zs + 1
    length_more [] z = refl
    length_more (w ∷ ws) z = let r = length_more ws z in omega (arith, r)

pub read_after : (a b c : PlaceState) (name : List ℕ) → IsLater a b → ReadRose b c name → ReadRose a c name
read_after a b c name h k = record { place = rose_after a.reads b.reads c.reads h.reads k.place; here = go k.here }
  where
    go : Rose (b.counts name).source_openings (c.counts name).source_openings ⊎ Rose (b.counts name).source_faults (c.counts name).source_faults
        → Rose (a.counts name).source_openings (c.counts name).source_openings ⊎ Rose (a.counts name).source_faults (c.counts name).source_faults
    go (inl r) = inl (rose_after _ _ _ ((h.counts name).source_openings) r)
    go (inr r) = inr (rose_after _ _ _ ((h.counts name).source_faults) r)

pub read_before : (a b c : PlaceState) (name : List ℕ) → ReadRose a b name → IsLater b c → ReadRose a c name
read_before a b c name k h = record { place = rose_before a.reads b.reads c.reads k.place h.reads; here = go k.here }
  where
    go : Rose (a.counts name).source_openings (b.counts name).source_openings ⊎ Rose (a.counts name).source_faults (b.counts name).source_faults
        → Rose (a.counts name).source_openings (c.counts name).source_openings ⊎ Rose (a.counts name).source_faults (c.counts name).source_faults
    go (inl r) = inl (rose_before _ _ _ r ((h.counts name).source_openings))
    go (inr r) = inr (rose_before _ _ _ r ((h.counts name).source_faults))

-- the next requests weren't opened
pub opens_front : {S : Type 0} (left : S → Option (List ℕ)) (faults : S → ℕ) (is_ready is_ready' : List ℕ → Bool) (names : List (List ℕ)) (at : ℕ) (xs : List S) (first now new : PlaceState) (name : List ℕ) (error : PlaceError) (client : ℕ) (fault : OpenFault)
    → OpenedSoFar left faults is_ready names at xs first now → slice_get names at ≡ Some name → KeepsFiles now.files new.files → new.writes ≡ now.writes → IsLater now new
    → (error ≡ errors.Failed → ReadRose now new name) → ((n : List ℕ) → is_ready n ≡ true → is_ready' n ≡ true) → client ≡ at + 1 → fault ≡ fault_of error client
    → ((n : List ℕ) → new.left n ≡ now.left n) → OpensFront left faults is_ready' names xs first new fault
opens_front left faults is_ready is_ready' names at xs first now new name error client fault k g f w l rose stays one is now_left =
    let up = same_later first now k.same in
    let within = slice_get_within names at name g in
    record {
      few = (let c = k.count in omega (arith, within, c));
      opened = subst (λ n. AreOpened left faults first.files (take n names) xs) (sym k.count) k.opened;
      ready = subst (λ n. AllByRecursion (λ m. is_ready' m ≡ true) (take n names)) (sym k.count) (all_then (λ n. is_ready n ≡ true) (λ n. is_ready' n ≡ true) stays (take at names) k.ready);
      files = files_then first.files now.files new.files k.same.files f;
      writes = w ∙ k.same.writes;
      lefts = λ n. now_left n ∙ k.same.left n;
      later = later_then first now new up l;
      why = subst (λ x. FailsIn (length xs) names first new x) (sym is) (subst (λ n. FailsIn n names first new (fault_of error client)) (sym k.count) (go error rose));
    }
  where
    go : (e : PlaceError) → (e ≡ errors.Failed → ReadRose now new name) → FailsIn at names first new (fault_of e client)
    go errors.Failed r = (one, name, g, read_after first now new name (same_later first now k.same) (r refl))
    go errors.NoMemory r = tt

-- ---- those before are kept back
-- what sources of other names have left
left_elsewhere : (names : List (List ℕ)) (xs : List (Option (List ℕ) × ℕ)) (old new : PlaceState) → EachStep KeepsIn names xs old new → (name : List ℕ) → list_any (bytes_eq name) names ≡ false → new.left name ≡ old.left name
left_elsewhere names [] old new h name e = ap (λ (x : PlaceState). x.left name) h
left_elsewhere [] (x ∷ xs) old new h name e = absurd h
left_elsewhere (n ∷ names) (x ∷ xs) old new h name e =
    let q = or_parts (bytes_eq name n) (list_any (bytes_eq name) names) e in
    left_elsewhere names xs h.0 new h.2 name q.1 ∙ h.1.only_left name (differs name n q.0)

pub opened_at : {S : Type 0} (left : S → Option (List ℕ)) (faults : S → ℕ) (files : Option Files) (names : List (List ℕ)) (xs : List S) (k : ℕ) (name : List ℕ)
    → AreOpened left faults files names xs → slice_get names k ≡ Some name → (x : S) × (slice_get xs k ≡ Some x) × IsOpened left faults files name x
opened_at left faults files [] xs k name h g = absurd (none-some name g)
opened_at left faults files (n ∷ ns) [] k name h g = absurd h
opened_at left faults files (n ∷ ns) (x ∷ xs) zero name h g = (x, refl, subst (λ m. IsOpened left faults files m x) (same_Some n name g) (h.0, h.1))
opened_at left faults files (n ∷ ns) (x ∷ xs) (suc k) name h g = opened_at left faults files ns xs k name h.2 g

pub was_opened : (f g : Option Files) (lefts : List ℕ → List ℕ) (name : List ℕ) (left : Option (List ℕ)) → KeepsFiles f g → TellsAt f name left → TellsTo g left (lefts name) → WasOpened f lefts name
was_opened None g lefts name left k told to = tt
was_opened (Some m) g lefts name None k told to = absurd told
was_opened (Some m) g lefts name (Some bytes) k told to =
    let P : Option Files → Type 0 = λ x. TellsTo x (Some bytes) (lefts name) in
    let same : Some bytes ≡ Some (lefts name) = subst P k to in
    told ∙ same

module _ {S : Type 0} (left : S → Option (List ℕ)) (counts : S → ℕ) (is_ready : List ℕ → Bool) (names : List (List ℕ)) (xs : List S) (old mid new : PlaceState) (differ : IsTrue (all_differ names))
    (step : EachStep KeepsIn (take (length xs) names) (map (of_source left counts) xs) mid new) where
  front_whole : AreOpened left counts old.files (take (length xs) names) xs → KeepsFiles old.files mid.files → FrontWhole (length xs) names old.files new.left
  front_whole opened keeps k name l g =
      let t = get_front (length xs) k names name l g in
      let o = opened_at left counts old.files (take (length xs) names) xs k name opened t in
      let kept = are_kept_in (take (length xs) names) (map (of_source left counts) xs) mid new (differ_front (length xs) names differ) step in
      let shown : slice_get (map (of_source left counts) xs) k ≡ Some (of_source left counts o.0) = slice_get-map (of_source left counts) xs k ∙ ap (option_map (of_source left counts)) o.1 in
      was_opened old.files mid.files new.left name (left o.0) keeps o.2.0 (kept.each k name (of_source left counts o.0) t shown).left

  pub front_later : IsLater old mid → IsLater old new
  front_later up = later_then old mid new up (each_later KeepsIn in_later (take (length xs) names) (map (of_source left counts) xs) mid new step)

  pub front_left : ((name : List ℕ) → mid.left name ≡ old.left name) → (name : List ℕ) → list_any (bytes_eq name) names ≡ false → new.left name ≡ old.left name
  front_left same name e = left_elsewhere (take (length xs) names) (map (of_source left counts) xs) mid new step name (any_front (bytes_eq name) (length xs) names e) ∙ same name

  pub requests_shut : (fault : OpenFault) → OpensFront left counts is_ready names xs old mid fault → RequestsShut names old new fault
  requests_shut fault f = go fault f.why
    where
      kept : AreKeptIn (take (length xs) names) (map (of_source left counts) xs) mid new
      kept = are_kept_in (take (length xs) names) (map (of_source left counts) xs) mid new (differ_front (length xs) names differ) step

      go : (x : OpenFault) → FailsIn (length xs) names old mid x → RequestsShut names old new x
      go (faults.Failed client) w =
          let e : client ≡ suc (length xs) = (let q = w.0 in omega (arith, q)) in
          let p : pred client ≡ length xs = ap pred e in (
            w.1,
            ap (slice_get names) p ∙ w.2,
            omega (arith, e),
            read_before old mid new w.1 w.3 kept.later,
            files_then old.files mid.files new.files f.files kept.files,
            kept.writes ∙ f.writes,
            subst (λ n. FrontWhole n names old.files new.left) (sym p) (front_whole f.opened f.files),
          )
      go faults.NoMemory w = (files_then old.files mid.files new.files f.files kept.files, kept.writes ∙ f.writes)
