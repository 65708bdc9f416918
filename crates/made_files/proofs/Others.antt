-- Files that aren't written.
use Rattle.std.proofs.Common.{◌≡◌, ◌∙◌, ℕ, Bool, true, false, cond, refl, sym, ap, subst, inl, inr, List, [], ◌∷◌, ◌++◌, Option, Some, None, bytes_eq}
use Rattle.std.specs.Prelude.{◌||◌}
use Rattle.std.specs.FinMap.{get, insert, get-insert}
use Rattle.std.specs.Cmp.Lexicographic.{nat_list_cmp_total}
use Rattle.std.proofs.lemmas.List.Folds.{list_any-append}
use Rattle.std.proofs.lemmas.Map.Text.{is_eq-slice_cmp}
use Rattle.std.proofs.lemmas.Slice.Eq.{bytes_eq-Decides}
use Rattle.pcg_base.specs.States.{PlaceState}
use Rattle.pcg_base.specs.Told.{Files}
use Rattle.pcg_words.specs.declared.job.MakeJob.{MakeJob}
use Rattle.made_files.specs.Writing.{File, KeepsBut, PutsAll, PutsNext, PutsSome, is_named, put_all}
use Rattle.made_files.specs.Files.{StopsSo}
use Rattle.made_files.specs.declared.stops.MakeStop.{MakeStop}

-- two names are one way round as the other
swapped : (xs ys : List ℕ) (b c : Bool) → bytes_eq xs ys ≡ b → bytes_eq ys xs ≡ c → b ≡ c
swapped xs ys true true e f = refl
swapped xs ys false false e f = refl
swapped xs ys true false e f = sym ((bytes_eq-Decides ys xs).1 (sym ((bytes_eq-Decides xs ys).0 e))) ∙ f
swapped xs ys false true e f = sym (sym ((bytes_eq-Decides xs ys).1 (sym ((bytes_eq-Decides ys xs).0 f))) ∙ e)

neither : (b c : Bool) → (b || c) ≡ false → (b ≡ false) × (c ≡ false)
neither true c e = absurd (cc)
neither false c e = (refl, e)

put_elsewhere : (m : Files) (f : File) (name : List ℕ) → bytes_eq f.0 name ≡ false → get (insert m f.0 f.1) name ≡ get m name
put_elsewhere m f name away =
    let turned : bytes_eq name f.0 ≡ false = swapped name f.0 _ _ refl refl ∙ away in
    get-insert nat_list_cmp_total m f.0 f.1 name
    ∙ ap (λ b. cond b (Some f.1) (get m name)) (is_eq-slice_cmp name f.0 ∙ turned)

all_elsewhere : (m : Files) (fs : List File) (name : List ℕ) → is_named fs name ≡ false → get (put_all m fs) name ≡ get m name
unfolding put_all
all_elsewhere m [] name away = refl
all_elsewhere m (f ∷ fs) name away =
    let both = neither (bytes_eq f.0 name) (is_named fs name) away in
    all_elsewhere (insert m f.0 f.1) fs name both.1 ∙ put_elsewhere m f name both.0

keeps_all : (old new : Option Files) (fs gs : List File) → PutsAll old new fs → ((name : List ℕ) → is_named gs name ≡ false → is_named fs name ≡ false) → KeepsBut gs old new
keeps_all None new fs gs all among = tt
keeps_all (Some m) new fs gs all among =
    let P : Option Files → Type 0 = λ f. KeepsBut gs (Some m) f in
    subst P (sym all) (λ name away. all_elsewhere m fs name (among name away))

-- the names of a part
first_among : (fs done rest : List File) → fs ≡ done ++ rest → (name : List ℕ) → is_named fs name ≡ false → is_named done name ≡ false
first_among fs done rest e name away =
    (neither (is_named done name) (is_named rest name) (sym (list_any-append (λ (f : File). bytes_eq f.0 name) done rest) ∙ sym (ap (λ l. is_named l name) e) ∙ away)).0

next_among : (fs done rest : List File) (f : File) (front : List ℕ) → fs ≡ done ++ f ∷ rest → (name : List ℕ) → is_named fs name ≡ false → is_named (done ++ (f.0, front) ∷ []) name ≡ false
next_among fs done rest f front e name away =
    let both = neither (is_named done name) (is_named (f ∷ rest) name) (sym (list_any-append (λ (f : File). bytes_eq f.0 name) done (f ∷ rest)) ∙ sym (ap (λ l. is_named l name) e) ∙ away) in
    let here = neither (bytes_eq f.0 name) (is_named rest name) both.1 in
    list_any-append (λ (f : File). bytes_eq f.0 name) done ((f.0, front) ∷ []) ∙ ap (λ b. b || (bytes_eq f.0 name || false)) both.0 ∙ ap (λ b. b || false) here.0

keeps_next : (old new : Option Files) (fs done rest : List File) → fs ≡ done ++ rest → PutsNext old new done rest → KeepsBut fs old new
keeps_next old new fs done [] e b = absurd b
keeps_next old new fs done (f ∷ rest) e b = keeps_all old new (done ++ (f.0, b.0) ∷ []) fs b.3 (next_among fs done rest f b.0 e)

-- files that were written leave all others alone
pub part_keeps : (job : MakeJob) (a b : PlaceState) (fs : List File) (stop : MakeStop) → PutsSome a.files b.files fs × StopsSo job a b stop → KeepsBut fs a.files b.files
part_keeps job a b fs stop (w, s) = go w
  where
    go : PutsSome a.files b.files fs → KeepsBut fs a.files b.files
    go (done, rest, e, inl all) = keeps_all a.files b.files done fs all (first_among fs done rest e)
    go (done, rest, e, inr next) = keeps_next a.files b.files fs done rest e next

pub full_keeps : (a b : Option Files) (fs : List File) → PutsAll a b fs → KeepsBut fs a b
full_keeps a b fs w = keeps_all a b fs fs w (λ name away. away)
