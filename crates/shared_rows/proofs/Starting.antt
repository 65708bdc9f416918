-- The rule holds at the start.
use Rattle.std.proofs.Common.{◌≡◌, ℕ, zero, suc, ◌+◌, ◌-◌, ◌*◌, ◌≤◌, Bool, false, get_or, is_some, ne_eqb, ◌⊎◌, List, [], ◌∷◌, ◌++◌, length, length-append, append_assoc, replicate, Some, ⊎_elim, inl, inr, refl, sym, ap, ◌∙◌, subst, arith}
use Rattle.std.specs.Prelude.{slice_get, slice_index}
use Rattle.std.specs.Option.{unwrap_or}
use Rattle.std.proofs.lemmas.Bool.{lt-leb}
use Rattle.std.proofs.lemmas.List.{get_or_append_left, length-replicate}
use mathlib.Core.Option.{some, some-injective, some-ne-none}
use lib.ListN.{get_elem?}
use Rattle.atomic_table.specs.Table.{opening}
use Rattle.atomic_table.specs.Seated.{TableId}
use Rattle.op_model.specs.declared.entry.Entry.{Entry}
use Rattle.op_model.specs.Records.{records}
use Rattle.record_rows.specs.LogRows.{rows_of}
use Rattle.record_rows.specs.Images.{trimmed, trimmed_word}
use Rattle.record_rows.specs.Readings.{Image}
use Rattle.record_rows.proofs.BaseCounts.{counted}
use Rattle.record_rows.proofs.TellLemmas.{length-words_of}
use Rattle.shared_rows.specs.declared.view.View.{View}
use Rattle.shared_rows.specs.Origin.{Origin}
use Rattle.shared_rows.specs.Logs.{ClientsTo}
use Rattle.shared_rows.specs.Board.{Board, total, weight}
use Rattle.shared_rows.specs.Rule.{Fits, Holds, first_view}
use Rattle.shared_rows.specs.Known.{Known, known}
use Rattle.shared_rows.specs.Starts.{Opens, Begins, begun_view, table_words}
use Rattle.shared_rows.proofs.Boards.{off}
use Rattle.shared_rows.proofs.Views.{total-snoc}
use Rattle.shared_rows.proofs.Words.{same-trimmed, image-trimmed, image-closed}

zeros-at : (n k : ℕ) → slice_index (replicate {A = ℕ} n 0) k ≡ 0
zeros-at zero k = refl
zeros-at (suc n) zero = refl
zeros-at (suc n) (suc k) = zeros-at n k

pub get_or-replicate : (k n : ℕ) → get_or (replicate {A = Bool} n false) k false ≡ false
get_or-replicate k zero = refl
get_or-replicate zero (suc n) = refl
get_or-replicate (suc k) (suc n) = get_or-replicate k n

pub zeros-more : (n : ℕ) → replicate {A = ℕ} (n + 1) 0 ≡ replicate n 0 ++ 0 ∷ []
zeros-more zero = refl
zeros-more (suc n) = let e : suc n + 1 ≡ suc (n + 1) = omega arith in ap (λ (m : ℕ). replicate {A = ℕ} m 0) e ∙ ap (λ (l : List ℕ). 0 ∷ l) (zeros-more n)

no_clients : (log : List Entry) → length log ≡ 1 → ClientsTo 0 log
no_clients [] e = tt
no_clients (e ∷ []) is = tt
no_clients (e ∷ f ∷ log) is = absurd (omega arith)

-- a store of words with room: the rows of the table
abbrev pub rows_at : Origin → List ℕ
rows_at a = a.words ++ replicate (8 * a.dataset.capacity - length a.words) 0

-- the records fit
pub in-room : (a : Origin) → Opens a → a.tail ≤ a.dataset.capacity
in-room a o =
    let i = o.stands in
    let c : length (rows_of a.dataset a.base a.log) ≡ records a.dataset a.base a.log = counted a.dataset a.base a.log i.dataset i.base i.legal in
    let n : length a.words ≡ 8 * length (rows_of a.dataset a.base a.log) = ap length i.stands ∙ length-words_of (rows_of a.dataset a.base a.log) in
    let f = i.fits in let t = o.tail_is in omega arith

rows-long : (a : Origin) → Opens a → length (rows_at a) ≡ 8 * a.dataset.capacity
rows-long a o =
    let z : ℕ = 8 * a.dataset.capacity - length a.words in
    let n : length (a.words ++ replicate z 0) ≡ length a.words + length (replicate {A = ℕ} z 0) = length-append a.words (replicate z 0) in
    let m : length (replicate {A = ℕ} z 0) ≡ z = length-replicate {A = ℕ} z 0 in let t = o.tail_is in let r = in-room a o in omega arith

pub table-long : (a : Origin) → Opens a → length (table_words a) ≡ 8 * a.dataset.capacity + 67
table-long a o =
    let n : length (replicate {A = ℕ} 64 0 ++ rows_at a) ≡ length (replicate {A = ℕ} 64 0) + length (rows_at a) = length-append (replicate 64 0) (rows_at a) in
    let m : length (replicate {A = ℕ} 64 0) ≡ 64 = length-replicate {A = ℕ} 64 0 in let r = rows-long a o in omega arith

pub table-words : (a : Origin) (tail capacity : ℕ) (ws : List ℕ) → tail ≡ a.tail → capacity ≡ a.dataset.capacity → ws ≡ a.words
    → ◌≡◌ {A = List ℕ} (tail ∷ 0 ∷ 0 ∷ (replicate 64 0 ++ (ws ++ replicate (8 * capacity - length ws) 0))) (table_words a)
table-words a tail capacity ws e f g = λ i. e i ∷ 0 ∷ 0 ∷ (replicate 64 0 ++ (g i ++ replicate (8 * f i - length (g i)) 0))

abbrev pub first_board : Origin → Board
first_board a = record { tail = a.tail; turn = 0; count = 0; locks = replicate 64 0; rows = rows_at a; log = a.log }

pub opens : (a : Origin) (words : List ℕ) → words ≡ table_words a → Opens a → Holds a (opening words [] (first_view a))
opens a words is o = (
  first_board a,
  is,
  record {
    wide = wide;
    lock_count = length-replicate {A = ℕ} 64 0;
    tail_in = in-room a o;
    stands = subst (λ (i : List ℕ). Image a.dataset a.base a.log i) image-is o.stands;
    holders = λ l low. sym (ap Rattle.shared_rows.specs.Board.once (zeros-at 64 l));
    turns = refl;
    linked = λ k low pointer high. let c = image-closed a.dataset a.base a.log a.words a.tail o.stands o.tail_is k low pointer in let t = o.tail_is in
        let e : slice_index (rows_at a) k ≡ slice_index a.words k = get_or_append_left a.words (replicate (8 * a.dataset.capacity - length a.words) 0) 0 k (omega arith) in absurd (omega arith);
    permits = refl;
    numbers = λ n pos. let x = ap weight (ne_eqb 0 n (λ same. omega arith)) in let y = ap weight (lt-leb n 0 pos) in omega arith;
    clients = no_clients a.log o.first;
    fits = one;
  },
)
  where
    wide : length (rows_at a) ≡ 8 * a.dataset.capacity
    wide = rows-long a o

    image-is : a.words ≡ trimmed (rows_at a) a.tail
    image-is =
        let t = o.tail_is in let r = in-room a o in let w = wide in
        sym (image-trimmed a.dataset a.base a.log a.words a.tail o.stands o.tail_is)
        ∙ same-trimmed a.words (rows_at a) a.tail (omega arith) (omega arith)
        (λ k low. ap (trimmed_word a.tail k) (sym (get_or_append_left a.words (replicate (8 * a.dataset.capacity - length a.words) 0) 0 k (omega arith))))

    fit : Fits a (first_board a) (first_view a)
    fit = record {
      sight = λ _. record { dataset_is = refl; base_is = refl; stands = o.stands };
      rows = record { tail_in = omega arith; image_is = image-is; drafted = λ k n e. absurd (off (ap is_some e)) };
      follows = λ _. record { newer = []; is = refl; spared = tt };
      turn = record { turn_is = λ t. absurd (off t); fresh_is = λ t. absurd (off t); begun = inl refl };
      locks = record { held_is = λ l h. absurd (off h); pinned_held = λ l h. absurd (off h) };
      number = record { floor_in = omega arith; number_in = omega arith; own_is = λ p. absurd (omega arith); olds_fit = tt };
      bare = λ _. record { no_locks = refl; no_turn = refl; no_draft = refl; no_entries = refl };
    }

    one : (id : ℕ) (v : View) → get_elem? (first_view a ∷ []) id ≡ some v → Fits a (first_board a) v
    one zero v e = subst (Fits a (first_board a)) (some-injective _ _ e) fit
    one (suc id) v e = absurd (some-ne-none v (sym e))

-- the words of the table as they are put one behind the other
pub laid-out : (tail z : ℕ) (ws one two three four : List ℕ) → one ≡ tail ∷ [] → two ≡ one ++ replicate 66 0 → three ≡ two ++ ws → four ≡ three ++ replicate z 0
    → four ≡ tail ∷ 0 ∷ 0 ∷ (replicate 64 0 ++ (ws ++ replicate z 0))
laid-out tail z ws one two three four a b c d =
    d ∙ ap (λ (l : List ℕ). l ++ replicate z 0) (c ∙ ap (λ (l : List ℕ). l ++ ws) (b ∙ ap (λ (l : List ℕ). l ++ replicate 66 0) a))
    ∙ append_assoc (tail ∷ replicate 66 0) ws (replicate z 0)

snoc-get : {A : Type 0} (xs : List A) (x p : A) (k : ℕ) → slice_get (xs ++ x ∷ []) k ≡ Some p → (slice_get xs k ≡ Some p) ⊎ ((k ≡ length xs) × (x ≡ p))
snoc-get [] x p zero e = inr (refl, ap (λ o. unwrap_or o x) e)
snoc-get [] x p (suc k) e = absurd (off (ap is_some e))
snoc-get (y ∷ ys) x p zero e = inl e
snoc-get (y ∷ ys) x p (suc k) e = ⊎_elim (λ was. inl was) (λ (t : (k ≡ length ys) × (x ≡ p)). inr (ap suc t.0, t.1)) (snoc-get ys x p k e)

-- one pass more
pub begins-more : (a : Origin) (table : TableId) (ps qs : List Known) (p : Known) (n permits : ℕ) → Begins a table ps → length ps ≡ n → qs ≡ ps ++ p ∷ [] → p ≡ known table (begun_view a (n + 1) permits) → Begins a table qs
begins-more a table ps qs p n permits h len more is k q e = ⊎_elim
    (λ was. h k q was)
    (λ (t : (k ≡ length ps) × (p ≡ q)). let e' : q ≡ known table (begun_view a (n + 1) permits) = sym t.1 ∙ is in let same : n ≡ k = sym len ∙ sym t.0 in
    (ap (λ (x : Known). x.table) e', (permits, ap (λ (x : Known). x.view) e' ∙ ap (λ (m : ℕ). begun_view a (m + 1) permits) same)))
    (snoc-get ps p q k (ap (λ (l : List Known). slice_get l k) (sym more) ∙ e))

pub permits-more : (a : Origin) (table : TableId) (ps qs : List Known) (p : Known) (n permits sum : ℕ) → total (λ (x : Known). x.view.permits) ps ≡ sum → qs ≡ ps ++ p ∷ [] → p ≡ known table (begun_view a (n + 1) permits)
    → total (λ (x : Known). x.view.permits) qs ≡ sum + permits
permits-more a table ps qs p n permits sum h more is =
    ap (total (λ (x : Known). x.view.permits)) more ∙ total-snoc (λ (x : Known). x.view.permits) ps p ∙ ap (λ (m : ℕ). m + p.view.permits) h ∙ ap (λ (q : Known). sum + q.view.permits) is
