use Rattle.std.proofs.Common.{◌≡◌, ℕ, suc, zero, ◌+◌, ◌<◌, List, [], ◌∷◌, ◌++◌, drop, set, length, get_or, Bool, true, false, cond, Option, Some, None, bytes_eq, true≢false, add-zero, zero-add, arith, refl, sym, ◌∙◌, ap, subst}
use Rattle.std.proofs.Common.{String, string_bytes}
use Rattle.std.specs.declared.alloc.Global.{Global}
use Rattle.std.proofs.lemmas.List.Sums.{sum_by-append}
use Rattle.std.proofs.lemmas.List.{drop_more}
use Rattle.std.proofs.lemmas.Slice.Eq.{bytes_eq-Decides}
use Rattle.std.proofs.Common.{map}
use Rattle.memory_devices.specs.Kept.{entry_of, name_of, FirstAt, Changes, times, unopened_file}
use Rattle.memory_devices.specs.declared.kept.MemFile.{MemFile}
use Rattle.memory_devices.specs.declared.kept.Kept.{Kept}

shadowed : {A : Type 0} (b : Bool) (x y z : A) → cond b x z ≡ cond b x (cond b y z)
shadowed true x y z = refl
shadowed false x y z = refl

swapped : {A : Type 0} (a b : Bool) (x y z : A) → (a ≡ true → b ≡ true → ⊥) → cond a x (cond b y z) ≡ cond b y (cond a x z)
swapped true true x y z apart = absurd (apart refl refl)
swapped true false x y z apart = refl
swapped false b x y z apart = refl

pub same : (xs ys : List ℕ) → bytes_eq xs ys ≡ true → xs ≡ ys
same xs ys = (bytes_eq-Decides xs ys).0

pub itself : (xs ys : List ℕ) → xs ≡ ys → bytes_eq xs ys ≡ true
itself xs ys = (bytes_eq-Decides xs ys).1

-- two names that differ are not both n
apart : (x name n : List ℕ) → bytes_eq x name ≡ false → bytes_eq x n ≡ true → bytes_eq name n ≡ true → ⊥
apart x name n h a b = true≢false (sym (itself x name (same x n a ∙ sym (same name n b))) ∙ h)

-- a write at a name's first entry changes what is kept beside that name alone
pub set_first : (name : List ℕ) (kept : List Kept) (i : ℕ) (k : Kept) → FirstAt name kept i → name_of k ≡ name → Changes name k kept (set kept i k)
set_first name [] i k h e n = absurd h
set_first name (x ∷ ks) zero k h e n = ap (λ m. cond (bytes_eq m n) (Some k) (entry_of n ks)) e ∙ shadowed (bytes_eq name n) (Some k) (Some x) (entry_of n ks)
    ∙ ap (λ m. cond (bytes_eq name n) (Some k) (cond (bytes_eq m n) (Some x) (entry_of n ks))) (sym h)
set_first name (x ∷ ks) (suc i) k h e n =
    ap (λ z. cond (bytes_eq (name_of x) n) (Some x) z) (set_first name ks i k h.1 e n)
    ∙ swapped (bytes_eq (name_of x) n) (bytes_eq name n) (Some x) (Some k) (entry_of n ks) (apart (name_of x) name n h.0)

not_first : (b : Bool) (x : Kept) (rest : Option Kept) → cond b (Some x) rest ≡ None → (b ≡ false) × (rest ≡ None)
not_first true x rest e = absurd (let P : Option Kept → Bool = λ o. elim o [ Some _ ↦ true | None ↦ false ] in true≢false (ap P e))
not_first false x rest e = (refl, e)

-- and so does an entry behind all others, of a name that none has
pub push_new : (name : List ℕ) (kept : List Kept) (k : Kept) → entry_of name kept ≡ None → name_of k ≡ name → Changes name k kept (kept ++ k ∷ [])
push_new name [] k h e n = ap (λ m. cond (bytes_eq m n) (Some k) None) e
push_new name (x ∷ ks) k h e n =
    let p = not_first (bytes_eq (name_of x) name) x (entry_of name ks) h in
    ap (λ z. cond (bytes_eq (name_of x) n) (Some x) z) (push_new name ks k p.1 e n)
    ∙ swapped (bytes_eq (name_of x) n) (bytes_eq name n) (Some x) (Some k) (entry_of n ks) (apart (name_of x) name n p.0)

-- what a search for a name keeps
abbrev pub Passed : List ℕ → List Kept → ℕ → Type 0
Passed name kept i = (entry_of name kept ≡ entry_of name (drop i kept)) × ((j : ℕ) → FirstAt name (drop i kept) j → FirstAt name kept (i + j))

pub first_found : (name : List ℕ) (kept : List Kept) (i : ℕ) (d : Kept) → i < length kept → name_of (get_or kept i d) ≡ name → Passed name kept i → FirstAt name kept i
first_found name kept i d lt e inv =
    let P : List Kept → Type 0 = λ ks. FirstAt name ks 0 in
    let Q : ℕ → Type 0 = λ m. FirstAt name kept m in
    subst Q (add-zero i) (inv.1 0 (subst P (sym (drop_more kept i d lt)) e))

pub passed_by : (name : List ℕ) (kept : List Kept) (i : ℕ) (d : Kept) → i < length kept → bytes_eq (name_of (get_or kept i d)) name ≡ false → Passed name kept i → Passed name kept (i + 1)
passed_by name kept i d lt e inv = (
  inv.0 ∙ ap (entry_of name) (drop_more kept i d lt) ∙ ap (λ b. cond b (Some (get_or kept i d)) (entry_of name (drop (i + 1) kept))) e,
  λ j h.
      let P : List Kept → Type 0 = λ ks. FirstAt name ks (suc j) in
      let Q : ℕ → Type 0 = λ m. FirstAt name kept m in
      let later : i + suc j ≡ i + 1 + j = omega arith in
      subst Q later (inv.1 (suc j) (subst P (sym (drop_more kept i d lt)) (e, h))),
)

-- the entry at a name's first index
pub entry_at : (name : List ℕ) (kept : List Kept) (i : ℕ) (d : Kept) → FirstAt name kept i → (entry_of name kept ≡ Some (get_or kept i d)) × (name_of (get_or kept i d) ≡ name)
entry_at name [] i d h = absurd h
entry_at name (x ∷ ks) zero d h = (ap (λ b. cond b (Some x) (entry_of name ks)) (itself (name_of x) name h), h)
entry_at name (x ∷ ks) (suc i) d h =
    let r = entry_at name ks i d h.1 in
    (ap (λ b. cond b (Some x) (entry_of name ks)) h.0 ∙ r.0, r.1)

view_case : {X : Type 0} (view : Option Kept → X) (name n : List ℕ) (old : List Kept) (k : Kept) (o : Option Kept) (b : Bool) → bytes_eq name n ≡ b → entry_of name old ≡ o → view (Some k) ≡ view o
    → view (cond b (Some k) (entry_of n old)) ≡ view (entry_of n old)
view_case view name n old k o true e had alike = alike ∙ sym (ap view (ap (λ m. entry_of m old) (sym (same name n e)) ∙ had))
view_case view name n old k o false e had alike = refl

-- what the write left as it was at that name, it left at each
pub view_kept : {X : Type 0} (view : Option Kept → X) (name n : List ℕ) (old new : List Kept) (k : Kept) (o : Option Kept) → Changes name k old new → entry_of name old ≡ o → view (Some k) ≡ view o → view (entry_of n new) ≡ view (entry_of n old)
view_kept view name n old new k o changes had alike = ap view (changes n) ∙ view_case view name n old k o _ refl had alike

pub changed_here : (name : List ℕ) (old new : List Kept) (k : Kept) → Changes name k old new → entry_of name new ≡ Some k
changed_here name old new k changes = changes name ∙ ap (λ b. cond b (Some k) (entry_of name old)) (itself name name refl)

differs : (xs ys : List ℕ) (b : Bool) → bytes_eq xs ys ≡ b → (ys ≡ xs → ⊥) → b ≡ false
differs xs ys true e h = absurd (h (sym (same xs ys e)))
differs xs ys false e h = refl

pub changed_elsewhere : (name n : List ℕ) (old new : List Kept) (k : Kept) → Changes name k old new → (n ≡ name → ⊥) → entry_of n new ≡ entry_of n old
changed_elsewhere name n old new k changes h = changes n ∙ ap (λ b. cond b (Some k) (entry_of n old)) (differs name n _ refl h)

flag_case : (view : Option Kept → Bool) (n : List ℕ) (old : List Kept) (k : Kept) (b : Bool) → view (Some k) ≡ true → view (entry_of n old) ≡ true → view (cond b (Some k) (entry_of n old)) ≡ true
flag_case view n old k true e h = e
flag_case view n old k false e h = h

-- a flag that the write set stays set at each name
pub flag_stays : (view : Option Kept → Bool) (name n : List ℕ) (old new : List Kept) (k : Kept) → Changes name k old new → view (Some k) ≡ true → view (entry_of n old) ≡ true → view (entry_of n new) ≡ true
flag_stays view name n old new k changes e h = ap view (changes n) ∙ flag_case view n old k (bytes_eq name n) e h

pub written : (name : List ℕ) (kept : List Kept) (i : ℕ) (l k : Kept) → FirstAt name kept i → l ≡ get_or kept i l → name_of k ≡ name_of l → Changes name k kept (set kept i k) × (entry_of name kept ≡ Some l)
written name kept i l k h is e =
    let at = entry_at name kept i l h in
    let named : name_of l ≡ name = ap name_of is ∙ at.1 in
    (set_first name kept i k h (e ∙ named), at.0 ∙ ap Some (sym is))

pub times_push : (n : List ℕ) (xs : List (String Global)) (s : String Global) → times n (xs ++ s ∷ []) ≡ times n xs + cond (bytes_eq (string_bytes s) n) 1 0
times_push n xs s = sum_by-append (λ t. cond (bytes_eq (string_bytes t) n) 1 0) xs (s ∷ []) ∙ ap (λ z. times n xs + z) (zero-add _)

pub missed_here : (n : List ℕ) (xs ys : List (String Global)) (s : String Global) → ys ≡ xs ++ s ∷ [] → string_bytes s ≡ n → times n ys ≡ times n xs + 1
missed_here n xs ys s e named = ap (times n) e ∙ times_push n xs s ∙ ap (λ b. times n xs + cond b 1 0) (itself (string_bytes s) n named)

pub missed_elsewhere : (n name : List ℕ) (xs ys : List (String Global)) (s : String Global) → ys ≡ xs ++ s ∷ [] → string_bytes s ≡ name → (n ≡ name → ⊥) → times n ys ≡ times n xs
missed_elsewhere n name xs ys s e named h =
    ap (times n) e ∙ times_push n xs s ∙ ap (λ b. times n xs + cond b 1 0) (ap (λ t. bytes_eq t n) named ∙ differs name n _ refl h) ∙ add-zero _

fresh_case : {X : Type 0} (view : Option Kept → X) (b : Bool) (k : Kept) (o : Option Kept) → view (Some k) ≡ view None → view o ≡ view None → view (cond b (Some k) o) ≡ view None
fresh_case view true k o e h = e
fresh_case view false k o e h = h

-- of files that were never opened a name shows what a missing one does
pub fresh : {X : Type 0} (view : Option Kept → X) → ((f : MemFile) → view (Some (unopened_file f)) ≡ view None) → (n : List ℕ) (files : List MemFile) → view (entry_of n (map unopened_file files)) ≡ view None
fresh view e n [] = refl
fresh view e n (f ∷ fs) = fresh_case view (bytes_eq (name_of (unopened_file f)) n) (unopened_file f) (entry_of n (map unopened_file fs)) (e f) (fresh view e n fs)

pub files_back : (files : List MemFile) → map (λ k. k.file) (map unopened_file files) ≡ files
files_back [] = refl
files_back (f ∷ fs) = ap (λ rest. f ∷ rest) (files_back fs)
