-- Where an entry stands in a legal log, by its number.
use Rattle.std.proofs.Common.{◌≡◌, ℕ, ◌+◌, ◌<◌, ◌≤◌, true, List, [], ◌∷◌, ◌++◌, length, Some, refl, sym, ◌∙◌, ap, subst, inl, inr, arith, length-append, append_assoc}
use Rattle.std.specs.List.{AllByRecursion, list_any}
use Rattle.std.proofs.lemmas.Bool.{cases_order}
use Rattle.std.proofs.lemmas.Option.{same_Some}
use Rattle.op_model.specs.declared.base.Dataset.{Dataset}
use Rattle.op_model.specs.declared.base.Base.{Base}
use Rattle.op_model.specs.declared.entry.Entry.{Entry}
use Rattle.graph_model.specs.Lists.{has}
use Rattle.op_model.specs.Legal.{Legal}
use Rattle.op_model.specs.Operations.{entry_at}
use Rattle.op_model.specs.Transcript.{log_at}
use Rattle.op_model.specs.Valid.{IsDataset, IsBase}
use Rattle.op_model.proofs.HistoryLemmas.{legal_prefix}
use Rattle.record_rows.proofs.EntryRecords.{number_told}
use Rattle.record_rows.proofs.PrefixNodes.{prefix_parts}
use Rattle.log_rows.proofs.EntryParts.{found_again}
use Rattle.change_laws.proofs.Visiting.{retired_once}
use Rattle.change_reader.proofs.EntryFacts.{before_it, entry_stands, with_it}
use Rattle.change_reader.proofs.MadeRoots.{ends_in, passes}
use Rattle.change_reader.proofs.RootFacts.{made_again}

-- what holds of all entries of a log holds of each
pub each_entry : (P : Entry → Type 0) (newer : List Entry) (e : Entry) (older : List Entry) → AllByRecursion P (newer ++ e ∷ older) → P e
each_entry P [] e older a = a.0
each_entry P (f ∷ newer) e older a = each_entry P newer e older a.1

module _ (d : Dataset) (b : Base) where
  -- the entry of a number, with the logs before it and with it
  pub record At (log : List Entry) (m : ℕ) (e : Entry) : Type 0 where
    pub below : m < length log
    pub found : entry_at log m ≡ Some e
    pub newer : List Entry
    pub older : List Entry
    pub whole : log ≡ newer ++ e ∷ older
    pub count : m ≡ length older
    pub before : log_at d b log m ≡ older
    pub with_it : log_at d b log (m + 1) ≡ e ∷ older
    pub legal : Legal d b (e ∷ older)

  pub at_whole : (log newer : List Entry) (e : Entry) (older : List Entry) → Legal d b log → log ≡ newer ++ e ∷ older → At log (length older) e
  at_whole log newer e older legal w =
      let own : Legal d b (newer ++ e ∷ older) = subst (Legal d b) w legal in
      let old : Legal d b (e ∷ older) = legal_prefix d b newer e older own in
      let n : e.number ≡ length older = number_told d b e older old in
      let l : length log ≡ length newer + length (e ∷ older) = ap length w ∙ length-append newer (e ∷ older) in
      record {
        below = omega arith;
        found = subst (λ k. entry_at log k ≡ Some e) n (subst (λ xs. entry_at xs e.number ≡ Some e) (sym w) (found_again d b newer e older own));
        newer = newer;
        older = older;
        whole = w;
        count = refl;
        before = before_it d b log newer e older w;
        with_it = with_it d b log newer e older w;
        legal = old;
      }

  pub at_entry : (log : List Entry) (m : ℕ) (e : Entry) → Legal d b log → entry_at log m ≡ Some e → At log m e
  at_entry log m e legal h = let s = entry_stands d b log m e legal h in subst (λ k. At log k e) (sym s.count) (at_whole log s.newer e s.older legal s.whole)

  pub at_number : (log : List Entry) (m : ℕ) → Legal d b log → m < length log → (e : Entry) × At log m e
  at_number log m legal l =
      let s = prefix_parts d b log (m + 1) (omega arith) (omega arith) in
      let c : m + 1 ≡ length (s.1 ∷ s.2) = s.5 in
      let n : length s.2 ≡ m = omega arith in
      (s.1, subst (λ k. At log k s.1) n (at_whole log s.0 s.1 s.2 legal s.3))

  pub one_at : (log : List Entry) (m : ℕ) (e f : Entry) → At log m e → At log m f → e ≡ f
  one_at log m e f p q = same_Some _ _ (sym p.found ∙ q.found)

  -- an entry behind another one has it in the log before it
  later_at : (log : List Entry) (m k : ℕ) (e f : Entry) → (p : At log m e) → (q : At log k f) → m < k → (ms : List Entry) × (q.older ≡ ms ++ e ∷ p.older)
  later_at log m k e f p q l =
      let pc : m ≡ length p.older = p.count in
      let qc : k ≡ length q.older = q.count in
      ends_in (q.newer ++ f ∷ []) q.older p.newer (e ∷ p.older) (append_assoc q.newer (f ∷ []) q.older ∙ (sym q.whole ∙ p.whole)) (omega arith)

  -- where some entry of a prefix made a root
  pub any_at : (log : List Entry) (r k : ℕ) → Legal d b log → 1 ≤ k → k ≤ length log → list_any (λ e. has e.made r) (log_at d b log k) ≡ true
      → (m : ℕ) × (e : Entry) × At log m e × (m < k) × (has e.made r ≡ true)
  any_at log r k legal low high h =
      let s = prefix_parts d b log k low high in
      let p = passes (λ e. has e.made r) (s.1 ∷ s.2) (subst (λ l. list_any (λ e. has e.made r) l ≡ true) s.4 h) in
      let c : k ≡ length (s.1 ∷ s.2) = s.5 in
      let n : length (s.1 ∷ s.2) ≡ length p.0 + length (p.1 ∷ p.2) = ap length p.3 ∙ length-append p.0 (p.1 ∷ p.2) in
      let whole : log ≡ (s.0 ++ p.0) ++ p.1 ∷ p.2 = s.3 ∙ (ap (λ xs. s.0 ++ xs) p.3 ∙ sym (append_assoc s.0 p.0 (p.1 ∷ p.2))) in
      (length p.2, p.1, at_whole log (s.0 ++ p.0) p.1 p.2 legal whole, omega arith, p.4)

  module _ (valid : IsDataset d) (base : IsBase d b) where
    -- one entry alone made a root
    pub made_only : (log : List Entry) (r m k : ℕ) (e f : Entry) → At log m e → At log k f → has e.made r ≡ true → has f.made r ≡ true → m ≡ k
    made_only log r m k e f p q h g = elim (cases_order m k) [
      | inl same ↦ same
      | inr o ↦ elim o [ inl l ↦ absurd (later m k e f p q l h g) | inr l ↦ absurd (later k m f e q p l g h) ]
    ]
      where
        later : (m k : ℕ) (e f : Entry) → At log m e → At log k f → m < k → has e.made r ≡ true → has f.made r ≡ true → ⊥
        later m k e f p q l h g = let s = later_at log m k e f p q l in made_again d b valid base f s.0 e p.older r (subst (λ xs. Legal d b (f ∷ xs)) s.1 q.legal) g h

    -- and one alone retired it
    pub retired_only : (log : List Entry) (r m k : ℕ) (e f : Entry) → At log m e → At log k f → has e.retired r ≡ true → has f.retired r ≡ true → m ≡ k
    retired_only log r m k e f p q h g = elim (cases_order m k) [
      | inl same ↦ same
      | inr o ↦ elim o [ inl l ↦ absurd (later m k e f p q l h g) | inr l ↦ absurd (later k m f e q p l g h) ]
    ]
      where
        later : (m k : ℕ) (e f : Entry) → At log m e → At log k f → m < k → has e.retired r ≡ true → has f.retired r ≡ true → ⊥
        later m k e f p q l h g = let s = later_at log m k e f p q l in retired_once d b valid base f q.older r q.legal g (s.0, p.older, e, s.1, h)

-- the log at a prefix is legal
pub prefix_legal : (d : Dataset) (b : Base) (log : List Entry) (k : ℕ) → Legal d b log → 1 ≤ k → k ≤ length log → Legal d b (log_at d b log k)
prefix_legal d b log k legal low high =
    let s = prefix_parts d b log k low high in
    subst (Legal d b) (sym s.4) (legal_prefix d b s.0 s.1 s.2 (subst (Legal d b) s.3 legal))
