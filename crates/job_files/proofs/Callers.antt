-- What callers learn of the files of clients, one by one.
use Rattle.std.proofs.Common.{◌≡◌, ◌∙◌, ℕ, zero, suc, List, [], ◌∷◌, ◌++◌, Option, Some, None, length, map, option_map, slice_get, refl, ap, subst}
use Rattle.std.specs.Prelude.{IsTrue}
use Rattle.std.specs.List.{AllByRecursion}
use Rattle.std.specs.Io.KnownBytes.{Consumes}
use Rattle.std.proofs.lemmas.Option.{none-some, same_Some, slice_get-map}
use Rattle.pcg_base.specs.States.{PlaceState, SinkState}
use Rattle.pcg_base.specs.Told.{Files, LosesFront, TellsAt, TellsTo}
use Rattle.pcg_words.specs.Job.{all_differ}
use Rattle.client_answers.specs.declared.answers.ClientAnswers.{ClientAnswers}
use Rattle.stream_lines.specs.declared.reading.StreamLines.{StreamLines}
use Rattle.stream_lines.specs.Streams.{HasLines}
use Rattle.job_files.specs.Clients.{AreBegun, AreEmpty, AreOpened, AreRead}
use Rattle.job_files.specs.Fronts.{IsEmptied}
use Rattle.job_files.specs.Kept.{KeepsOther}
use Rattle.job_files.specs.Places.{EachStep, KeepsIn, WasBegun}
use Rattle.job_files.proofs.KeptIn.{are_kept_in}
use Rattle.job_files.proofs.Openings.{opened_at}

-- sources that were opened never failed
pub opened_fresh : {S : Type 0} (left : S → Option (List ℕ)) (faults : S → ℕ) (files : Option Files) (names : List (List ℕ)) (xs : List S) → AreOpened left faults files names xs → AllByRecursion (λ x. faults x ≡ 0) xs
opened_fresh left faults files [] [] h = tt
opened_fresh left faults files [] (x ∷ xs) h = absurd h
opened_fresh left faults files (n ∷ ns) [] h = absurd h
opened_fresh left faults files (n ∷ ns) (x ∷ xs) h = (h.1, opened_fresh left faults files ns xs h.2)

-- there are as many answers as names
pub empty_count : {K : Type 0} (state : K → SinkState) (files : Option Files) (names : List (List ℕ)) (xs : List (ClientAnswers K)) → AreEmpty state files names xs → length xs ≡ length names
empty_count state files [] [] h = refl
empty_count state files [] (x ∷ xs) h = absurd h
empty_count state files (n ∷ ns) [] h = absurd h
empty_count state files (n ∷ ns) (x ∷ xs) h = ap suc (empty_count state files ns xs h.3)

-- the answers of one client
pub empty_at : {K : Type 0} (state : K → SinkState) (files : Option Files) (names : List (List ℕ)) (xs : List (ClientAnswers K)) (k : ℕ) (x : ClientAnswers K)
    → AreEmpty state files names xs → slice_get xs k ≡ Some x → IsEmptied state files x
empty_at state files [] [] k x h g = absurd (none-some x g)
empty_at state files [] (y ∷ ys) k x h g = absurd h
empty_at state files (n ∷ ns) [] k x h g = absurd h
empty_at state files (n ∷ ns) (y ∷ ys) zero x h g = subst (λ z. IsEmptied state files z) (same_Some y x g) (h.0, h.1, h.2)
empty_at state files (n ∷ ns) (y ∷ ys) (suc k) x h g = empty_at state files ns ys k x h.3 g

-- the lines of one client
pub read_at : (lefts : List (Option (List ℕ))) (kept : List (Option (List ℕ) × ℕ)) (rs : List StreamLines) (k : ℕ) (left : Option (List ℕ)) → AreRead lefts kept rs → slice_get lefts k ≡ Some left
    → (x : Option (List ℕ) × ℕ) × (r : StreamLines) × (slice_get kept k ≡ Some x) × (slice_get rs k ≡ Some r) × HasLines left x.0 0 x.1 r.lines.items r.end
read_at [] xs rs k left h g = absurd (none-some left g)
read_at (l ∷ ls) [] rs k left h g = absurd h
read_at (l ∷ ls) (x ∷ xs) [] k left h g = absurd h
read_at (l ∷ ls) (x ∷ xs) (r ∷ rs) zero left h g = (x, r, refl, refl, subst (λ z. HasLines z x.0 0 x.1 r.lines.items r.end) (same_Some l left g) h.0)
read_at (l ∷ ls) (x ∷ xs) (r ∷ rs) (suc k) left h g = read_at ls xs rs k left h.1 g

-- the front that was read of one client's stream
pub begun_at : (lefts : List (Option (List ℕ))) (kept : List (Option (List ℕ) × ℕ)) (k : ℕ) (left : Option (List ℕ)) → AreBegun lefts kept → slice_get lefts k ≡ Some left
    → (x : Option (List ℕ) × ℕ) × (slice_get kept k ≡ Some x) × LosesFront left x.0
begun_at [] xs k left h g = absurd (none-some left g)
begun_at (l ∷ ls) [] k left h g = absurd h
begun_at (l ∷ ls) (x ∷ xs) zero left h g = (x, refl, subst (λ z. LosesFront z x.0) (same_Some l left g) h.0)
begun_at (l ∷ ls) (x ∷ xs) (suc k) left h g = begun_at ls xs k left h.1 g

-- a stream that was read is one that was begun
pub read_begun : (lefts : List (Option (List ℕ))) (kept : List (Option (List ℕ) × ℕ)) (rs : List StreamLines) → AreRead lefts kept rs → AreBegun lefts kept
read_begun [] [] [] h = tt
read_begun [] [] (r ∷ rs) h = absurd h
read_begun [] (x ∷ xs) rs h = absurd h
read_begun (l ∷ ls) [] rs h = absurd h
read_begun (l ∷ ls) (x ∷ xs) [] h = absurd h
read_begun (l ∷ ls) (x ∷ xs) (r ∷ rs) h = ((h.0.taken, h.0.consumed), read_begun ls xs rs h.1)

-- what is left of a stream whose bytes were told is an end of them
pub was_begun : (f g : Option Files) (others : List (List ℕ)) (lefts : List ℕ → List ℕ) (name : List ℕ) (from after : Option (List ℕ)) → KeepsOther f others g → TellsAt f name from → LosesFront from after
    → TellsTo g after (lefts name) → WasBegun f lefts name
was_begun None g others lefts name from after k told loses to = tt
was_begun (Some m) None others lefts name from after k told loses to = absurd k
was_begun (Some m) (Some m') others lefts name None after k told loses to = absurd told
was_begun (Some m) (Some m') others lefts name (Some bytes) after k told loses to =
    let P : Option (List ℕ) → Type 0 = λ o. Consumes (Some bytes) o loses.0 in
    let parts : bytes ≡ loses.0 ++ lefts name = subst P to loses.1 in
    (loses.0, told ∙ ap (λ bs. Some bs) parts)

-- the same of each client, where other files were emptied between
pub were_begun : {S : Type 0} (left : S → Option (List ℕ)) (counts : S → ℕ) (files : Option Files) (others names : List (List ℕ)) (xs : List S) (kept : List (Option (List ℕ) × ℕ)) (old new : PlaceState) → AreOpened left counts files names xs
    → KeepsOther files others old.files → AreBegun (map left xs) kept → IsTrue (all_differ names) → EachStep KeepsIn names kept old new → (k : ℕ) (name : List ℕ) → slice_get names k ≡ Some name → WasBegun files new.left name
were_begun left counts files others names xs kept old new opened keeps begun differ step k name g =
    let o = opened_at left counts files names xs k name opened g in
    let shown : slice_get (map left xs) k ≡ Some (left o.0) = slice_get-map left xs k ∙ ap (option_map left) o.1 in
    let b = begun_at (map left xs) kept k (left o.0) begun shown in
    was_begun files old.files others new.left name (left o.0) b.0.0 keeps o.2.0 b.2 ((are_kept_in names kept old new differ step).each k name b.0 g b.1).left
