-- Streams that are read one by one.
use Rattle.std.proofs.Common.{◌≡◌, ◌≤◌, ◌<◌, ◌+◌, ◌^◌, ◌∙◌, ℕ, suc, Bool, true, false, ◌&&◌, List, [], ◌∷◌, ◌++◌, Option, Some, length, map, slice_get, refl, sym, ap, subst, arith, append_assoc, length-append}
use Rattle.std.specs.Prelude.{Result, Ok, IfOk}
use Rattle.std.specs.List.{AllByRecursion}
use Rattle.std.proofs.KnownBytes.{Consumes-nil}
use Rattle.std.proofs.lemmas.Bool.{and_parts, false≢true}
use Rattle.std.proofs.lemmas.List.{length-map, map-append}
use Rattle.pcg_base.specs.States.{PlaceState}
use Rattle.pcg_base.specs.Told.{LosesFront}
use Rattle.pcg_base.specs.declared.traits.NoMemory.{NoMemory}
use Rattle.stream_lines.specs.declared.reading.StreamLines.{StreamLines}
use Rattle.stream_lines.specs.Streams.{HasLines}
use Rattle.job_files.specs.Clients.{AreBegun, AreRead, ReadsAll, ReadsSome}
use Rattle.job_files.specs.Lines.{Gets, ReadsEach, ReadsNext}
use Rattle.job_files.specs.Places.{EachStep, KeepsIn}
use Rattle.job_files.proofs.Openings.{all_more}
use Rattle.job_files.proofs.Steps.{of_source, step_behind}

begun_more : (lefts : List (Option (List ℕ))) (xs : List (Option (List ℕ) × ℕ)) (left : Option (List ℕ)) (x : Option (List ℕ) × ℕ) → AreBegun lefts xs → LosesFront left x.0 → AreBegun (lefts ++ left ∷ []) (xs ++ x ∷ [])
begun_more [] [] left x h o = (o, tt)
begun_more [] (y ∷ ys) left x h o = absurd h
begun_more (l ∷ ls) [] left x h o = absurd h
begun_more (l ∷ ls) (y ∷ ys) left x h o = (h.0, begun_more ls ys left x h.1 o)

begun_count : (lefts : List (Option (List ℕ))) (xs : List (Option (List ℕ) × ℕ)) → AreBegun lefts xs → length xs ≡ length lefts
begun_count [] [] h = refl
begun_count [] (y ∷ ys) h = absurd h
begun_count (l ∷ ls) [] h = absurd h
begun_count (l ∷ ls) (y ∷ ys) h = ap suc (begun_count ls ys h.1)

read_more : (lefts : List (Option (List ℕ))) (xs : List (Option (List ℕ) × ℕ)) (rs : List StreamLines) (left : Option (List ℕ)) (x : Option (List ℕ) × ℕ) (r : StreamLines) → AreRead lefts xs rs
    → HasLines left x.0 0 x.1 r.lines.items r.end → AreRead (lefts ++ left ∷ []) (xs ++ x ∷ []) (rs ++ r ∷ [])
read_more [] [] [] left x r h o = (o, tt)
read_more [] [] (s ∷ ss) left x r h o = absurd h
read_more [] (y ∷ ys) rs left x r h o = absurd h
read_more (l ∷ ls) [] rs left x r h o = absurd h
read_more (l ∷ ls) (y ∷ ys) [] left x r h o = absurd h
read_more (l ∷ ls) (y ∷ ys) (s ∷ ss) left x r h o = (h.0, read_more ls ys ss left x r h.1 o)

read_count : (lefts : List (Option (List ℕ))) (xs : List (Option (List ℕ) × ℕ)) (rs : List StreamLines) → AreRead lefts xs rs → length rs ≡ length lefts
read_count [] [] [] h = refl
read_count [] [] (s ∷ ss) h = absurd h
read_count [] (y ∷ ys) rs h = absurd h
read_count (l ∷ ls) [] rs h = absurd h
read_count (l ∷ ls) (y ∷ ys) [] h = absurd h
read_count (l ∷ ls) (y ∷ ys) (s ∷ ss) h = ap suc (read_count ls ys ss h.1)

-- what holds of all of a list holds of the one behind a front
pub all_between : {A : Type 0} (P : A → Type 0) (all front rest : List A) (x : A) (after : List A) → front ++ rest ≡ all → rest ≡ x ∷ after → AllByRecursion P all → P x
all_between {A = A} P all front rest x after e k h = go front (subst (λ xs. AllByRecursion P xs) (sym (ap (λ xs. front ++ xs) (sym k) ∙ e)) h)
  where
    go : (xs : List A) → AllByRecursion P (xs ++ x ∷ after) → P x
    go [] h = h.0
    go (y ∷ ys) h = go ys h.1

-- nothing was read of sources that were kept back at once
none_begun : {S : Type 0} (left : S → Option (List ℕ)) (faults : S → ℕ) (xs : List S) → AreBegun (map left xs) (map (of_source left faults) xs)
none_begun left faults [] = tt
none_begun left faults (x ∷ xs) = (([], Consumes-nil (left x)), none_begun left faults xs)

pub some_begun : {S : Type 0} (left : S → Option (List ℕ)) (faults : S → ℕ) (names : List (List ℕ)) (xs : List S) (old new : PlaceState) → EachStep KeepsIn names (map (of_source left faults) xs) old new → ReadsSome left names xs old new
some_begun left faults names xs old new e = (map (of_source left faults) xs, none_begun left faults xs, e)

pub each_begun : {S : Type 0} (left : S → Option (List ℕ)) (names : List (List ℕ)) (xs : List S) (whole : Bool) (lines : List StreamLines) (old new : PlaceState) → ReadsEach left names xs whole lines old new → ReadsSome left names xs old new
each_begun left names xs whole lines old new r = (r.0, r.1, r.2)

pub each_read : {S : Type 0} (left : S → Option (List ℕ)) (names : List (List ℕ)) (xs : List S) (whole : Bool) (lines : List StreamLines) (old new : PlaceState) → ReadsEach left names xs whole lines old new → whole ≡ true → ReadsAll left names xs lines old new
each_read left names xs whole lines old new r e = (r.0, r.3 e, r.2)

pub each_count : {S : Type 0} (left : S → Option (List ℕ)) (names : List (List ℕ)) (xs : List S) (whole : Bool) (lines : List StreamLines) (old new : PlaceState) → ReadsEach left names xs whole lines old new → whole ≡ true
    → length xs ≡ length names → length lines ≡ length names
each_count left names xs whole lines old new r e enough = read_count (map left xs) r.0 lines (r.3 e) ∙ length-map xs left ∙ enough

-- one stream was read
pub reads_one : {S : Type 0} (left : S → Option (List ℕ)) (faults : S → ℕ) (name : List ℕ) (source back : S) (result : Result StreamLines NoMemory) (r : StreamLines) (lines lines' : List StreamLines) (old new : PlaceState)
    → result ≡ Ok r → IfOk result (λ x. HasLines (left source) (left back) (faults source) (faults back) x.lines.items x.end) → IfOk result (λ x. length x.lines.items < 2 ^ 32) → LosesFront (left source) (left back)
    → faults source ≡ 0 → KeepsIn name (of_source left faults back) old new → lines' ≡ lines ++ r ∷ [] → ReadsNext left name source true lines lines' old new
reads_one left faults name source back result r lines lines' old new is has few front fresh step put =
    let P : Result StreamLines NoMemory → Type 0 = λ x. IfOk x (λ y. HasLines (left source) (left back) (faults source) (faults back) y.lines.items y.end) in
    let Q : Result StreamLines NoMemory → Type 0 = λ x. IfOk x (λ y. length y.lines.items < 2 ^ 32) in
    (of_source left faults back, front, step, (r, put, subst (λ n. HasLines (left source) (left back) n (faults back) r.lines.items r.end) fresh (subst P is has), subst Q is few))

-- the first streams were read
pub record ReadSoFar {S : Type 0} (left : S → Option (List ℕ)) (names : List (List ℕ)) (all done rest : List S) (at : ℕ) (whole : Bool) (lines : List StreamLines) (first now : PlaceState) : Type 0 where
  pub reads : ReadsEach left names done whole lines first now
  pub few : AllByRecursion (λ r. length r.lines.items < 2 ^ 32) lines
  pub parts : done ++ rest ≡ all
  pub count : at ≡ length done
  pub room : length lines ≤ at

pub read_none : {S : Type 0} (left : S → Option (List ℕ)) (names : List (List ℕ)) (all rest : List S) (lines : List StreamLines) (first : PlaceState) → rest ≡ all → lines ≡ [] → ReadSoFar left names all [] rest 0 true lines first first
read_none left names all rest lines first e none =
    subst (λ ls. ReadSoFar left names all [] rest 0 true ls first first) (sym none) (record { reads = ([], tt, refl, λ h. tt); few = tt; parts = e; count = refl; room = omega arith })

pub read_within : {S : Type 0} (left : S → Option (List ℕ)) (names : List (List ℕ)) (all done rest : List S) (at : ℕ) (whole : Bool) (lines : List StreamLines) (first now : PlaceState) (x : S) (after : List S)
    → ReadSoFar left names all done rest at whole lines first now → rest ≡ x ∷ after → length all ≡ length names → at < length names
read_within left names all done rest at whole lines first now x after k e enough =
    let a = ap (λ xs. length xs) k.parts in
    let b = length-append done rest in
    let c = ap (λ xs. length xs) e in
    let d = k.count in
    omega (arith, a, b, c, d, enough)

pub read_next : {S : Type 0} (left : S → Option (List ℕ)) (names : List (List ℕ)) (all done rest : List S) (at : ℕ) (whole got : Bool) (lines lines' : List StreamLines) (first now new : PlaceState) (x : S) (after : List S) (name : List ℕ)
    → ReadSoFar left names all done rest at whole lines first now → rest ≡ x ∷ after → slice_get names at ≡ Some name → ReadsNext left name x got lines lines' now new
    → ReadSoFar left names all (done ++ x ∷ []) after (at + 1) (whole && got) lines' first new
read_next {S = S} left names all done rest at whole got lines lines' first now new x after name k e g n = record {
  reads = (
    k.reads.0 ++ n.0 ∷ [],
    subst (λ ls. AreBegun ls (k.reads.0 ++ n.0 ∷ [])) (sym lefts) (begun_more (map left done) k.reads.0 (left x) n.0 k.reads.1 n.1),
    step_behind KeepsIn names k.reads.0 n.0 name first now new k.reads.2 (subst (λ i. slice_get names i ≡ Some name) (k.count ∙ sym size) g) n.2,
    λ h. (let p = and_parts whole got h in more got p.1 n.3 (k.reads.3 p.0)),
  );
  few = few_more got n.3;
  parts = append_assoc done (x ∷ []) after ∙ ap (λ ys. done ++ ys) (sym e) ∙ k.parts;
  count = (let l = length-append done (x ∷ []) in let c = k.count in omega (arith, l, c));
  room = room_more got n.3;
}
  where
    lefts : map left (done ++ x ∷ []) ≡ map left done ++ left x ∷ []
    lefts = map-append left done (x ∷ [])

    size : length k.reads.0 ≡ length done
    size = begun_count (map left done) k.reads.0 k.reads.1 ∙ length-map done left

    more : (t : Bool) → t ≡ true → Gets t lines lines' (left x) n.0 → AreRead (map left done) k.reads.0 lines → AreRead (map left (done ++ x ∷ [])) (k.reads.0 ++ n.0 ∷ []) lines'
    more false h gets read = absurd (false≢true h)
    more true h gets read =
        subst (λ ls. AreRead ls (k.reads.0 ++ n.0 ∷ []) lines') (sym lefts)
        (subst (λ rs. AreRead (map left done ++ left x ∷ []) (k.reads.0 ++ n.0 ∷ []) rs) (sym gets.1)
        (read_more (map left done) k.reads.0 lines (left x) n.0 gets.0 read gets.2))

    few_more : (t : Bool) → Gets t lines lines' (left x) n.0 → AllByRecursion (λ r. length r.lines.items < 2 ^ 32) lines'
    few_more false gets = subst (λ rs. AllByRecursion (λ r. length r.lines.items < 2 ^ 32) rs) (sym gets) k.few
    few_more true gets = subst (λ rs. AllByRecursion (λ r. length r.lines.items < 2 ^ 32) rs) (sym gets.1) (all_more (λ r. length r.lines.items < 2 ^ 32) lines gets.0 k.few gets.3)

    room_more : (t : Bool) → Gets t lines lines' (left x) n.0 → length lines' ≤ at + 1
    room_more false gets = (let a = ap (λ rs. length rs) gets in let r = k.room in omega (arith, a, r))
    room_more true gets = (let a = ap (λ rs. length rs) gets.1 in let b = length-append lines (gets.0 ∷ []) in let r = k.room in omega (arith, a, b, r))
