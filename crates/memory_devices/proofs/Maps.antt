use Rattle.std.proofs.Common.{◌≡◌, ℕ, List, [], ◌∷◌, Bool, true, false, cond, Option, Some, bytes_eq, refl, sym, ◌∙◌, ap}
use Rattle.std.specs.FinMap.{get, insert, get-empty, get-insert, same_map, slice_cmp-IsAntisymmetric, nat_cmp-IsAntisymmetric}
use Rattle.std.specs.Ordering.{nat_cmp, eq_by_cmp}
use Rattle.std.specs.Cmp.Lexicographic.{slice_cmp, nat_list_cmp_total}
use Rattle.std.proofs.lemmas.Map.Text.{is_eq-slice_cmp}
use Rattle.pcg_base.specs.Told.{Files}
use Rattle.memory_devices.specs.Kept.{entry_of, name_of, Changes, map_of, bytes_at, bytes_of}
use Rattle.memory_devices.specs.declared.kept.Kept.{Kept}
use Rattle.memory_devices.proofs.Entries.{same, itself}

turned : (xs ys : List ℕ) (a b : Bool) → bytes_eq xs ys ≡ a → bytes_eq ys xs ≡ b → a ≡ b
turned xs ys true b e f = sym (itself ys xs (sym (same xs ys e))) ∙ f
turned xs ys false true e f = sym e ∙ itself xs ys (sym (same ys xs f))
turned xs ys false false e f = refl

-- the map's test of two names is that of their bytes, the other way round
tied : (xs ys : List ℕ) → eq_by_cmp (slice_cmp nat_cmp) xs ys ≡ bytes_eq ys xs
tied xs ys = is_eq-slice_cmp xs ys ∙ turned xs ys _ _ refl refl

bytes_case : (b : Bool) (k : Kept) (o : Option Kept) → bytes_of (cond b (Some k) o) ≡ cond b (Some k.file.bytes.items) (bytes_of o)
bytes_case true k o = refl
bytes_case false k o = refl

-- the map has at each name the bytes of its first entry
pub got : (n : List ℕ) (kept : List Kept) → get (map_of kept) n ≡ bytes_at n kept
got n [] = get-empty (slice_cmp nat_cmp) n
got n (k ∷ ks) = get-insert nat_list_cmp_total (map_of ks) (name_of k) k.file.bytes.items n
    ∙ ap (λ b. cond b (Some k.file.bytes.items) (get (map_of ks) n)) (tied n (name_of k))
    ∙ ap (cond (bytes_eq (name_of k) n) (Some k.file.bytes.items)) (got n ks)
    ∙ sym (bytes_case (bytes_eq (name_of k) n) k (entry_of n ks))

alike : (m p : Files) → ((n : List ℕ) → get m n ≡ get p n) → m ≡ p
alike m p h = same_map nat_list_cmp_total (slice_cmp-IsAntisymmetric nat_cmp-IsAntisymmetric) m p h

pub same_files : (old new : List Kept) → ((n : List ℕ) → bytes_at n new ≡ bytes_at n old) → map_of new ≡ map_of old
same_files old new h = alike _ _ (λ n. got n new ∙ h n ∙ sym (got n old))

-- a write at a name puts its bytes into the map
pub files_put : (name : List ℕ) (old new : List Kept) (k : Kept) (bytes : List ℕ) → Changes name k old new → k.file.bytes.items ≡ bytes → map_of new ≡ insert (map_of old) name bytes
files_put name old new k bytes changes e = alike _ _ (λ n. got n new ∙ ap bytes_of (changes n)
    ∙ bytes_case (bytes_eq name n) k (entry_of n old)
    ∙ ap (λ v. cond (bytes_eq name n) (Some v) (bytes_at n old)) e
    ∙ ap (cond (bytes_eq name n) (Some bytes)) (sym (got n old))
    ∙ ap (λ b. cond b (Some bytes) (get (map_of old) n)) (sym (tied n name))
    ∙ sym (get-insert nat_list_cmp_total (map_of old) name bytes n))
