-- A walk along the changes of an operation's pair, from its own on, in search of the last entry about the operation.
use Rattle.std.proofs.Common.{◌≡◌, ℕ, ◌<◌, ◌≤◌, Bool, true, false, eqb, List, [], length, Option, Some, None, refl, sym, ◌∙◌, ap, subst, inl, inr, ◌⊎◌, arith}
use Rattle.std.proofs.lemmas.Bool.{cases_lt, eq-eqb, false≢true}
use Rattle.op_model.specs.declared.base.Dataset.{Dataset}
use Rattle.op_model.specs.declared.base.Base.{Base}
use Rattle.op_model.specs.declared.base.Pair.{Pair}
use Rattle.op_model.specs.declared.entry.Changed.{Changed}
use Rattle.op_model.specs.declared.entry.Entry.{Entry}
use Rattle.op_model.specs.Operations.{entry_at, last_about}
use Rattle.record_rows.specs.Rows.{ChangeRow}
use Rattle.record_rows.specs.Chains.{change_of, change_in}
use Rattle.record_rows.specs.LogRows.{rows_of}
use Rattle.record_rows.specs.Readings.{Image, ParentImage, HoldsChange, first_place, next_place}
use Rattle.record_rows.proofs.ImageFacts.{parent_image, within}
use Rattle.record_rows.proofs.WalkLemmas.{LeadsTo, Behind, next_behind, next_leads, steps_left}
use Rattle.log_rows.proofs.AboutChanges.{about, about_changed, last_is, turned_pair}
use Rattle.log_rows.specs.Entries.{IsFirstChange}
use Rattle.log_rows.proofs.ChainWalk.{begins, ends}
use Rattle.log_rows.proofs.ChangeWords.{change_at, change_picks, change_told, not_told}
use Rattle.log_rows.proofs.ChangeOrder.{Before, change_below, change_listed, change_met, change_stands, changes_order, none_between, one_change, own_pair}
use Rattle.log_rows.proofs.EntryParts.{number_found, of_log}
use Rattle.log_rows.proofs.WalkBack.{entry_there, same_count}

-- the place isn't before where the walk stands
abbrev pub Reached : Option ℕ → ℕ → Type 0
Reached None p = ⊥
Reached (Some q) p = q ≤ p

-- the walk stands at a change of the pair; the entry found is the last one about the operation of those whose change of it lies before
pub record Turned (d : Dataset) (b : Base) (log : List Entry) (op : ℕ) (q : Pair) (found : ℕ) (at : Option ℕ) : Type 0 where
  pub leads : LeadsTo (change_of q) (rows_of d b log) at
  pub entry : Entry
  pub here : entry_at log found ≡ Some entry
  pub about_it : about op entry ≡ true
  pub newest : (g : Entry) (p : ℕ) (c : Changed) → entry_at log g.number ≡ Some g → about op g ≡ true → HoldsChange d b log p g.number c → c.pair ≡ q → Before p at → g.number ≤ found
  pub later : (p k : ℕ) (c : Changed) → HoldsChange d b log p k c → Reached at p → found ≤ k

module _ (d : Dataset) (b : Base) (log : List Entry) (words : List ℕ) (i : Image d b log words) (op : ℕ) (x : Entry) (at_op : entry_at log op ≡ Some x) (q : Pair) where
  -- the walk begins at the operation's own change
  pub turned_first : (a : ℕ) (c : Changed) → 1 ≤ a → HoldsChange d b log a op c → c.pair ≡ q → Turned d b log op q op (Some a)
  turned_first a c l h e = record {
    leads = (l, ChangeRow op c, h, own_pair op c q e);
    entry = x;
    here = at_op;
    about_it = (let n : eqb x.number op ≡ true = eq-eqb x.number op (number_found log op x at_op) in rw n refl);
    newest = λ g p y found t m r k. (let s : p < a = k in changes_order d b log i.legal p a g.number op y c m h (omega arith));
    later = λ p k y m r. changes_order d b log i.legal a p op k c y h m r;
  }

  module _ (found a : ℕ) (w : Turned d b log op q found (Some a)) where
    -- a change of the pair stands where the walk does
    pub turn_here : (k : ℕ) × (c : Changed) × HoldsChange d b log a k c × (c.pair ≡ q)
    turn_here =
        let (l, row, h, t) = w.leads in
        let m = change_met q row t in
        (m.0, m.1, h ∙ ap (λ r. Some r) m.2, m.3)

    module _ (k : ℕ) (c : Changed) (e : Entry) (h : HoldsChange d b log a k c) (at_k : entry_at log k ≡ Some e) (next : Option ℕ) (leads : next ≡ next_place (change_of q) (rows_of d b log) a) where
      first_later : found ≤ k
      first_later = w.later a k c h (omega arith)

      beyond : (p : ℕ) → Reached next p → a ≤ p
      beyond p r = go next (subst (Behind a) (sym leads) (next_behind (change_of q) (rows_of d b log) a)) r
        where
          go : (o : Option ℕ) → Behind a o → Reached o p → a ≤ p
          go None z r = absurd r
          go (Some o) z r = let l : a < o = z in let m : o ≤ p = r in omega arith

      met : (g : Entry) (p : ℕ) (y : Changed) → entry_at log g.number ≡ Some g → about op g ≡ true → HoldsChange d b log p g.number y → y.pair ≡ q → Before p next → (g.number ≤ found) ⊎ ((g.number ≡ k) × (about op e ≡ true))
      met g p y there t m r before = go (cases_lt p a)
        where
          go2 : (a < p) ⊎ (p ≤ a) → a ≤ p → (g.number ≡ k) × (about op e ≡ true)
          go2 (inl l) n =
              let f = none_between (change_of q) (rows_of d b log) a p (ChangeRow g.number y) l (subst (Before p) leads before) m in
              absurd (false≢true (sym f ∙ own_pair g.number y q r))
          go2 (inr l) n =
              let s : p ≡ a = omega arith in
              let z : g.number ≡ k = one_change d b log a g.number k y c (subst (λ o. HoldsChange d b log o g.number y) s m) h in
              let z2 : Some g ≡ Some e = sym there ∙ (ap (entry_at log) z ∙ at_k) in
              let z3 : g ≡ e = cc in
              (z, ap (about op) (sym z3) ∙ t)

          go : (p < a) ⊎ (a ≤ p) → (g.number ≤ found) ⊎ ((g.number ≡ k) × (about op e ≡ true))
          go (inl l) = inl (w.newest g p y there t m r l)
          go (inr l) = inr (go2 (cases_lt a p) l)

      -- the walk goes on, and finds the entry if it is about the operation
      pub turned_on : about op e ≡ true → Turned d b log op q k next
      turned_on t = record {
        leads = subst (LeadsTo (change_of q) (rows_of d b log)) (sym leads) (next_leads (change_of q) (rows_of d b log) a);
        entry = e;
        here = at_k;
        about_it = t;
        newest = λ g p y there u m r z. elim (met g p y there u m r z) [ inl l ↦ (let f = first_later in omega (arith, l, f)) | inr l ↦ (let s = l.0 in omega (arith, s)) ];
        later = λ p j y m r. changes_order d b log i.legal a p k j c y h m (beyond p r);
      }

      pub turned_past : about op e ≡ false → Turned d b log op q found next
      turned_past t = record {
        leads = subst (LeadsTo (change_of q) (rows_of d b log)) (sym leads) (next_leads (change_of q) (rows_of d b log) a);
        entry = w.entry;
        here = w.here;
        about_it = w.about_it;
        newest = λ g p y there u m r z. elim (met g p y there u m r z) [ inl l ↦ l | inr l ↦ absurd (false≢true (sym t ∙ l.1)) ];
        later = λ p j y m r. w.later p j y m (beyond p r);
      }

  -- the walk is at its end: the last entry about the operation is found
  pub turned_end : (found a : ℕ) (c : Changed) → HoldsChange d b log a op c → c.pair ≡ q → Turned d b log op q found None → (e : Entry) × (last_about log op ≡ Some e) × (found ≡ e.number)
  turned_end found a c h e w =
      last_is d b log i.legal op found x w.entry at_op w.here w.about_it
      (λ g there t. elim (about_changed d b i.dataset.layout log op x g i.legal at_op there t) [
        | inl n ↦ w.newest g a c there t (subst (λ j. HoldsChange d b log a j c) (sym n) h) e tt
        | inr r ↦ (let n : x.number ≡ op = number_found log op x at_op in
            let own = change_listed d b log i.legal x a c (subst (λ j. entry_at log j ≡ Some x) (sym n) at_op) (subst (λ j. HoldsChange d b log a j c) (sym n) h) in
            let (y, at, s) = turned_pair g.changed x.changed own.0 c r.0 own.1 in
            let p = change_stands d b log i.legal g own.0 y there at in
            w.newest g p.0 y there t p.1 (s ∙ e) tt)
      ])

module _ (d : Dataset) (b : Base) (log : List Entry) (words : List ℕ) (i : Image d b log words) (op : ℕ) (x : Entry) (at_op : entry_at log op ≡ Some x) where
  -- where the operation changed no pair it is itself the last entry about it
  pub unchanged_end : None ≡ first_place (change_in op) (rows_of d b log) → (e : Entry) × (last_about log op ≡ Some e) × (op ≡ e.number)
  unfolding change_in
  unchanged_end none =
      let all = begins d b log words i (change_in op) (change_told op) (not_told op) (λ d s c. refl) None none in
      let e : x.changed ≡ [] = sym (of_log d b op (change_told op) (λ y. y.changed) (change_picks op) log x i.legal at_op) ∙ ends d b log words i (change_in op) (change_told op) (not_told op) [] all in
      let n : eqb x.number op ≡ true = eq-eqb x.number op (number_found log op x at_op) in
      last_is d b log i.legal op op x x at_op at_op (rw n refl)
      (λ g there t. elim (about_changed d b i.dataset.layout log op x g i.legal at_op there t) [
        | inl m ↦ omega (arith, m)
        | inr r ↦ absurd (let l = subst (λ cs. 0 < length cs) e r.1 in omega (arith, l))
      ])

-- the first change of an operation is one of it
pub first_turn : (d : Dataset) (b : Base) (log : List Entry) (words : List ℕ) → Image d b log words → (op a : ℕ) → Some a ≡ first_place (change_in op) (rows_of d b log) → (1 ≤ a) × (c : Changed) × HoldsChange d b log a op c
unfolding change_in
first_turn d b log words i op a first =
    let all = begins d b log words i (change_in op) (change_told op) (not_told op) (λ d s c. refl) (Some a) first in
    let (l, row, h, t) = all.leads in
    let c = change_at d b log op a row h t in
    (l, c.0, c.1)

-- so it is for each log that the words are the image of
abbrev pub AllTurned : List ℕ → ℕ → ℕ → ℕ → Option ℕ → Type 0
AllTurned words op first found at = (d : Dataset) (b : Base) (log : List Entry) → Image d b log words → (c : Changed) × HoldsChange d b log first op c × Turned d b log op c.pair found at

-- the operation is an entry of each of these logs
abbrev pub AllBelow : List ℕ → ℕ → Type 0
AllBelow words op = (d : Dataset) (b : Base) (log : List Entry) → Image d b log words → op < length log

pub all_below : (d : Dataset) (b : Base) (log : List Entry) (words : List ℕ) (op : ℕ) → Image d b log words → op < length log → AllBelow words op
all_below d b log words op i l d' b' log' j = let n = same_count d b log d' b' log' words (parent_image d b log words i) (parent_image d' b' log' words j) in omega (arith, n, l)

module _ (words : List ℕ) (op first : ℕ) (below : AllBelow words op) where
  pub all_first : IsFirstChange words op first → AllTurned words op first op (Some first)
  all_first starts d b log i =
      let x = entry_there d b log op i.legal (below d b log i) in
      let f = first_turn d b log words i op first (starts d b log i) in
      (f.1, f.2, turned_first d b log words i op x.0 x.1 f.1.pair first f.1 f.0 f.2 refl)

  pub all_end : (found : ℕ) → AllTurned words op first found None → (d : Dataset) (b : Base) (log : List Entry) → Image d b log words → (e : Entry) × (last_about log op ≡ Some e) × (found ≡ e.number)
  all_end found all d b log i =
      let x = entry_there d b log op i.legal (below d b log i) in
      let v = all d b log i in
      turned_end d b log words i op x.0 x.1 v.0.pair found first v.0 v.1 refl v.2

  module _ (found a : ℕ) (all : AllTurned words op first found (Some a)) where
    pub all_here : (d : Dataset) (b : Base) (log : List Entry) → Image d b log words → (k : ℕ) × (c : Changed) × HoldsChange d b log a k c × (k < length log)
    all_here d b log i =
        let x = entry_there d b log op i.legal (below d b log i) in
        let v = all d b log i in
        let h = turn_here d b log words i op x.0 x.1 v.0.pair found a v.2 in
        (h.0, h.1, h.2, change_below d b log i.legal a h.0 h.1 h.2)

    module _ (k : ℕ) (number : (d : Dataset) (b : Base) (log : List Entry) (j : ℕ) (c : Changed) → Image d b log words → HoldsChange d b log a j c → k ≡ j) (next : Option ℕ)
        (leads : (d : Dataset) (b : Base) (log : List Entry) (j : ℕ) (c : Changed) → Image d b log words → HoldsChange d b log a j c → next ≡ next_place (change_of c.pair) (rows_of d b log) a) where
      module _ (t : Bool) (turn : (d : Dataset) (b : Base) (log : List Entry) (e : Entry) → ParentImage d b log words → entry_at log k ≡ Some e → t ≡ about op e) where
        pub all_on : t ≡ true → AllTurned words op first k next
        all_on y d b log i =
            let x = entry_there d b log op i.legal (below d b log i) in
            let v = all d b log i in
            let h = turn_here d b log words i op x.0 x.1 v.0.pair found a v.2 in
            let n : k ≡ h.0 = number d b log h.0 h.1 i h.2 in
            let low = change_below d b log i.legal a h.0 h.1 h.2 in
            let e = entry_there d b log k i.legal (omega (arith, n, low)) in
            let to : next ≡ next_place (change_of v.0.pair) (rows_of d b log) a = subst (λ q. next ≡ next_place (change_of q) (rows_of d b log) a) h.3 (leads d b log h.0 h.1 i h.2) in
            let held : HoldsChange d b log a k h.1 = subst (λ m. HoldsChange d b log a m h.1) (sym n) h.2 in
            (v.0, v.1, turned_on d b log words i op x.0 x.1 v.0.pair found a v.2 k h.1 e.0 held e.1 next to (sym (turn d b log e.0 (parent_image d b log words i) e.1) ∙ y))

        pub all_past : t ≡ false → AllTurned words op first found next
        all_past y d b log i =
            let x = entry_there d b log op i.legal (below d b log i) in
            let v = all d b log i in
            let h = turn_here d b log words i op x.0 x.1 v.0.pair found a v.2 in
            let n : k ≡ h.0 = number d b log h.0 h.1 i h.2 in
            let low = change_below d b log i.legal a h.0 h.1 h.2 in
            let e = entry_there d b log k i.legal (omega (arith, n, low)) in
            let to : next ≡ next_place (change_of v.0.pair) (rows_of d b log) a = subst (λ q. next ≡ next_place (change_of q) (rows_of d b log) a) h.3 (leads d b log h.0 h.1 i h.2) in
            let held : HoldsChange d b log a k h.1 = subst (λ m. HoldsChange d b log a m h.1) (sym n) h.2 in
            (v.0, v.1, turned_past d b log words i op x.0 x.1 v.0.pair found a v.2 k h.1 e.0 held e.1 next to (sym (turn d b log e.0 (parent_image d b log words i) e.1) ∙ y))

      -- fewer records are left
      pub all_fall : (d : Dataset) (b : Base) (log : List Entry) → Image d b log words → steps_left (length words) next < steps_left (length words) (Some a)
      unfolding steps_left
      all_fall d b log i =
          let h = all_here d b log i in
          let w = within d b log words (parent_image d b log words i) a (ChangeRow h.0 h.1) h.2 in
          fewer next (subst (Behind a) (sym (leads d b log h.0 h.1 i h.2)) (next_behind (change_of h.1.pair) (rows_of d b log) a)) (omega (arith, w))
        where
          fewer : (o : Option ℕ) → Behind a o → a < length words → steps_left (length words) o < steps_left (length words) (Some a)
          fewer None z l = omega arith
          fewer (Some o) z l = let m : a < o = z in omega arith
