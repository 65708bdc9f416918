-- Where the chains of records end whose owners stand behind each other, and where the owners stand.
use Rattle.std.proofs.Common.{◌≡◌, ℕ, zero, suc, ◌+◌, ◌*◌, ◌<◌, Bool, true, false, List, [], ◌∷◌, ◌++◌, length, length-append, map, get_or, refl, sym, ◌∙◌, ap, subst, arith, append_assoc, append-nil}
use Rattle.std.specs.List.{list_any}
use Rattle.record_rows.specs.Rows.{Row}
use Rattle.record_rows.specs.Words.{place_from}
use Rattle.row_append.specs.Ends.{Chain, has_part, EndsAt, IsFree, IsHeaded}
use Rattle.row_append.proofs.EndLaws.{ends_stay, headers_stay}
use Rattle.row_append.proofs.FoundLemmas.{found_stays, found_last}
use Rattle.row_append.proofs.Leaving.{or_none}
use Rattle.base_rows.specs.Lists.{IsOnce}
use Rattle.base_rows.proofs.Passing.{NonePass, none_both}

-- records that are no part of a chain leave its end
pub ends_stay_all : (chain : Chain) (rows more : List Row) (word : ℕ) → IsHeaded rows → EndsAt chain rows word → NonePass (has_part chain) more → EndsAt chain (rows ++ more) word
ends_stay_all chain rows [] word h e n = subst (λ rs. EndsAt chain rs word) (sym (append-nil rows)) e
ends_stay_all chain rows (r ∷ more) word h e n =
    let q = or_none (has_part chain r) (list_any (has_part chain) more) n in
    subst (λ rs. EndsAt chain rs word) (append_assoc rows (r ∷ []) more)
    (ends_stay_all chain (rows ++ r ∷ []) more word (headers_stay rows (r ∷ []) h) (ends_stay rows r chain word h e q.0) q.1)

-- a list without its first
pub once_rest : (x : ℕ) (xs : List ℕ) → IsOnce (x ∷ xs) → IsOnce xs
once_rest x xs o i j l m e = let s : suc i ≡ suc j = o (suc i) (suc j) (omega arith) (omega arith) e in omega arith

pub once_first : (x : ℕ) (xs : List ℕ) → IsOnce (x ∷ xs) → (i : ℕ) → i < length xs → get_or xs i 0 ≡ x → ⊥
once_first x xs o i l e = let s : suc i ≡ 0 = o (suc i) 0 (omega arith) (omega arith) e in omega arith

module _ {X : Type 0} (key : X → ℕ) (mk : X → Row) (test : ℕ → Row → Bool) (apart : (u : ℕ) (x : X) → (key x ≡ u → ⊥) → test u (mk x) ≡ false) where
  -- records with other keys
  pub others_fail : (u : ℕ) (xs : List X) → ((i : ℕ) → i < length (map key xs) → get_or (map key xs) i 0 ≡ u → ⊥) → NonePass (test u) (map mk xs)
  others_fail u [] f = refl
  others_fail u (x ∷ xs) f = rw (apart u x (f 0 (omega arith))) (others_fail u xs (λ i l. f (suc i) (omega arith)))

  module _ (own : (x : X) → test (key x) (mk x) ≡ true) where
    -- the record with a key is the first that its test passes
    pub found : (xs : List X) (before after : List Row) → 0 < length before → IsOnce (map key xs)
        → ((i : ℕ) → i < length (map key xs) → NonePass (test (get_or (map key xs) i 0)) before)
        → (i : ℕ) → i < length (map key xs) → place_from (test (get_or (map key xs) i 0)) 0 (before ++ (map mk xs ++ after)) ≡ length before + i
    found [] before after some once none i l = absurd (omega arith)
    found (x ∷ xs) before after some once none zero l =
        let here : place_from (test (key x)) 0 (before ++ mk x ∷ []) ≡ length before = found_last (test (key x)) before (mk x) (none 0 (omega arith)) (own x) in
        let e : length before ≡ length before + 0 = omega arith in
        ap (place_from (test (key x)) 0) (sym (append_assoc before (mk x ∷ []) (map mk xs ++ after)))
        ∙ (found_stays (test (key x)) (before ++ mk x ∷ []) (map mk xs ++ after) (omega (arith, here, some)) ∙ (here ∙ e))
    found (x ∷ xs) before after some once none (suc i) l =
        let n : length (before ++ mk x ∷ []) ≡ length before + 1 = length-append before (mk x ∷ []) in
        let e : length (before ++ mk x ∷ []) + i ≡ length before + suc i = omega (arith, n) in
        ap (place_from (test (get_or (map key xs) i 0)) 0) (sym (append_assoc before (mk x ∷ []) (map mk xs ++ after)))
        ∙ (found xs (before ++ mk x ∷ []) after (omega (arith, n)) (once_rest (key x) (map key xs) once)
        (λ j m. none_both (test (get_or (map key xs) j 0)) before (mk x ∷ []) (none (suc j) (omega arith)) (one j m)) i (omega arith)
        ∙ e)
      where
        one : (j : ℕ) → j < length (map key xs) → NonePass (test (get_or (map key xs) j 0)) (mk x ∷ [])
        one j m = rw (apart (get_or (map key xs) j 0) x (λ q. once_first (key x) (map key xs) once j m (sym q))) refl

module _ {X : Type 0} (key : X → ℕ) (mk : X → Row) (chain : ℕ → Chain) (k : ℕ)
    (begin : (rows : List Row) (x : X) → IsHeaded rows → IsFree (chain (key x)) rows → EndsAt (chain (key x)) (rows ++ mk x ∷ []) (8 * length rows + k))
    (apart : (u : ℕ) (x : X) → (key x ≡ u → ⊥) → has_part (chain u) (mk x) ≡ false) where
  -- the chain of each owner ends at the owner's own pointer
  pub begun : (xs : List X) (before after : List Row) → IsHeaded before → IsOnce (map key xs)
      → ((i : ℕ) → i < length (map key xs) → NonePass (has_part (chain (get_or (map key xs) i 0))) before)
      → ((i : ℕ) → i < length (map key xs) → NonePass (has_part (chain (get_or (map key xs) i 0))) after)
      → (i : ℕ) → i < length (map key xs) → EndsAt (chain (get_or (map key xs) i 0)) (before ++ (map mk xs ++ after)) (8 * (length before + i) + k)
  begun [] before after h once front back i l = absurd (omega arith)
  begun (x ∷ xs) before after h once front back zero l =
      let e : 8 * length before + k ≡ 8 * (length before + 0) + k = omega arith in
      subst (λ rs. EndsAt (chain (key x)) rs (8 * (length before + 0) + k)) (append_assoc before (mk x ∷ []) (map mk xs ++ after))
      (ends_stay_all (chain (key x)) (before ++ mk x ∷ []) (map mk xs ++ after) _ (headers_stay before (mk x ∷ []) h)
      (subst (EndsAt (chain (key x)) (before ++ mk x ∷ [])) e (begin before x h (front 0 (omega arith))))
      (none_both (has_part (chain (key x))) (map mk xs) after
      (others_fail key mk (λ u. has_part (chain u)) apart (key x) xs (λ i m q. once_first (key x) (map key xs) once i m q)) (back 0 (omega arith))))
  begun (x ∷ xs) before after h once front back (suc i) l =
      let n : length (before ++ mk x ∷ []) ≡ length before + 1 = length-append before (mk x ∷ []) in
      let e : 8 * (length (before ++ mk x ∷ []) + i) + k ≡ 8 * (length before + suc i) + k = omega (arith, n) in
      let u : ℕ = get_or (map key xs) i 0 in
      subst (λ rs. EndsAt (chain u) rs (8 * (length before + suc i) + k)) (append_assoc before (mk x ∷ []) (map mk xs ++ after))
      (subst (EndsAt (chain u) ((before ++ mk x ∷ []) ++ (map mk xs ++ after))) e
      (begun xs (before ++ mk x ∷ []) after (headers_stay before (mk x ∷ []) h) (once_rest (key x) (map key xs) once)
      (λ j m. none_both (has_part (chain (get_or (map key xs) j 0))) before (mk x ∷ []) (front (suc j) (omega arith)) (one j m))
      (λ j m. back (suc j) (omega arith)) i (omega arith)))
    where
      one : (j : ℕ) → j < length (map key xs) → NonePass (has_part (chain (get_or (map key xs) j 0))) (mk x ∷ [])
      one j m = rw (apart (get_or (map key xs) j 0) x (λ q. once_first (key x) (map key xs) once j m (sym q))) refl
