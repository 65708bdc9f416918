-- Files that are written, and files that are left alone.
use Rattle.std.proofs.Common.{◌≡◌, ◌∙◌, ℕ, Bool, true, false, cond, List, [], ◌∷◌, ◌++◌, Option, Some, None, bytes_eq, refl, sym, ap, subst}
use Rattle.std.specs.List.{AllByRecursion, list_any}
use Rattle.std.specs.FinMap.{get, insert, get-insert, same_map, slice_cmp-IsAntisymmetric, nat_cmp-IsAntisymmetric}
use Rattle.std.specs.Cmp.Lexicographic.{nat_list_cmp_total}
use Rattle.std.proofs.lemmas.Bool.{or_parts}
use Rattle.std.proofs.lemmas.Map.Text.{is_eq-slice_cmp}
use Rattle.std.proofs.lemmas.Slice.Eq.{bytes_eq-Decides}
use Rattle.pcg_base.specs.Told.{Files, KeepsFiles, PutsFile}
use Rattle.job_files.specs.Clients.{Empties, emptied}
use Rattle.job_files.specs.Kept.{KeepsOther}

-- what a map has at a name that is put there, and at others
pub put_here : (m : Files) (name bytes : List ℕ) → get (insert m name bytes) name ≡ Some bytes
put_here m name bytes =
    get-insert nat_list_cmp_total m name bytes name
    ∙ ap (λ b. cond b (Some bytes) (get m name)) (is_eq-slice_cmp name name ∙ (bytes_eq-Decides name name).1 refl)

pub put_elsewhere : (m : Files) (here bytes name : List ℕ) → bytes_eq name here ≡ false → get (insert m here bytes) name ≡ get m name
put_elsewhere m here bytes name away =
    get-insert nat_list_cmp_total m here bytes name
    ∙ ap (λ b. cond b (Some bytes) (get m name)) (is_eq-slice_cmp name here ∙ away)

-- what is put where it stands already changes nothing
pub put_again : (m : Files) (name bytes : List ℕ) → get m name ≡ Some bytes → insert m name bytes ≡ m
put_again m name bytes there =
    same_map nat_list_cmp_total (slice_cmp-IsAntisymmetric nat_cmp-IsAntisymmetric) (insert m name bytes) m
    (λ q. get-insert nat_list_cmp_total m name bytes q
    ∙ ap (λ b. cond b (Some bytes) (get m q)) (is_eq-slice_cmp q name) ∙ go q (bytes_eq q name) refl)
  where
    go : (q : List ℕ) (b : Bool) → bytes_eq q name ≡ b → cond b (Some bytes) (get m q) ≡ get m q
    go q true e = sym there ∙ ap (get m) (sym ((bytes_eq-Decides q name).0 e))
    go q false e = refl

-- files that are emptied
pub emptied_elsewhere : (m : Files) (names : List (List ℕ)) (name : List ℕ) → list_any (bytes_eq name) names ≡ false → get (emptied m names) name ≡ get m name
unfolding emptied
emptied_elsewhere m [] name away = refl
emptied_elsewhere m (n ∷ ns) name away =
    let p = or_parts (bytes_eq name n) (list_any (bytes_eq name) ns) away in
    emptied_elsewhere (insert m n []) ns name p.1 ∙ put_elsewhere m n [] name p.0

pub emptied_stays : (m : Files) (names : List (List ℕ)) (name : List ℕ) → get m name ≡ Some [] → get (emptied m names) name ≡ Some []
unfolding emptied
emptied_stays m [] name e = e
emptied_stays m (n ∷ ns) name e = emptied_stays (insert m n []) ns name (go (bytes_eq name n) refl)
  where
    go : (b : Bool) → bytes_eq name n ≡ b → get (insert m n []) name ≡ Some []
    go true q = ap (get (insert m n [])) ((bytes_eq-Decides name n).0 q) ∙ put_here m n []
    go false q = put_elsewhere m n [] name q ∙ e

-- each file that was emptied has no byte
pub emptied_all : (m : Files) (names : List (List ℕ)) → AllByRecursion (λ name. get (emptied m names) name ≡ Some []) names
unfolding emptied
emptied_all m [] = tt
emptied_all m (n ∷ ns) = (emptied_stays (insert m n []) ns n (put_here m n []), emptied_all (insert m n []) ns)

-- one file more
pub emptied_more : (m : Files) (names : List (List ℕ)) (name : List ℕ) → emptied m (names ++ name ∷ []) ≡ insert (emptied m names) name []
unfolding emptied
emptied_more m [] name = refl
emptied_more m (n ∷ ns) name = emptied_more (insert m n []) ns name

pub empties_more : (f g h : Option Files) (names : List (List ℕ)) (name : List ℕ) → Empties f names g → PutsFile g h name [] → Empties f (names ++ name ∷ []) h
empties_more None g h names name e p = tt
empties_more (Some m) g h names name e p =
    let P : Option Files → Type 0 = λ x. PutsFile x h name [] in
    let put : h ≡ Some (insert (emptied m names) name []) = subst P e p in
    put ∙ ap (λ n. Some n) (sym (emptied_more m names name))

pub empties_none : (f : Option Files) → Empties f [] f
unfolding emptied
empties_none None = tt
empties_none (Some m) = refl

pub empties_keep : (f g h : Option Files) (names : List (List ℕ)) → Empties f names g → KeepsFiles g h → Empties f names h
empties_keep None g h names e k = tt
empties_keep (Some m) g h names e k =
    let P : Option Files → Type 0 = λ x. KeepsFiles x h in
    subst P e k

-- files that aren't named stay
pub empties_others : (f g : Option Files) (names : List (List ℕ)) → Empties f names g → KeepsOther f names g
empties_others None g names e = tt
empties_others (Some m) g names e =
    let P : Option Files → Type 0 = λ x. KeepsOther (Some m) names x in
    subst P (sym e) (λ name away. emptied_elsewhere m names name away)
