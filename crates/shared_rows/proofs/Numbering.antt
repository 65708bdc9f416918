-- A seat draws its number.
use Rattle.std.proofs.Common.{cond, ◌≡◌, ◌≢◌, ℕ, suc, ◌+◌, ◌%◌, ◌^◌, ◌<◌, ◌≤◌, true, false, eqb, eq-eqb, ne_eqb, List, [], ◌∷◌, ◌++◌, set, refl, sym, ap, ◌∙◌, arith}
use Rattle.std.specs.Prelude.{leb, IsSome}
use Rattle.std.proofs.lemmas.Bool.{le-leb, lt-leb}
use mathlib.Core.Logic.{dite}
use mathlib.Core.Option.{some, none}
use native.Mathlib.Decide.{ℕ_discrete, dec_le}
use lib.ListN.{get_elem?}
use Rattle.atomic_table.specs.Table.{Allows, step}
use Rattle.graph_model.specs.Lists.{has}
use Rattle.op_model.specs.declared.base.Dataset.{Dataset}
use Rattle.op_model.specs.declared.base.Base.{Base}
use Rattle.op_model.specs.declared.entry.Entry.{Entry}
use Rattle.op_model.specs.Legal.{Legal}
use Rattle.op_model.specs.Operations.{first_entry}
use Rattle.shared_rows.specs.declared.view.View.{View}
use Rattle.shared_rows.specs.declared.view.Old.{Old}
use Rattle.shared_rows.specs.Origin.{Origin}
use Rattle.shared_rows.specs.Logs.{entries_by, ClientsTo}
use Rattle.shared_rows.specs.Board.{Board, stored_at, weight}
use Rattle.shared_rows.specs.Rule.{has_number, FitsOld, Fits, Kept, Holds}
use Rattle.shared_rows.specs.Plays.{M, numbered, Numbers}
use Rattle.shared_rows.proofs.Views.{part, sum-set, sum-same, each-set, some-set}
use Rattle.shared_rows.proofs.Boards.{by_boards, off}
use Rattle.shared_rows.proofs.Looking.{all-map, clients-more}

-- one number more
weight_more : (n count : ℕ) → weight (leb n (suc count)) ≡ weight (leb n count) + weight (eqb (suc count) n)
weight_more n count = dite (ℕ_discrete (suc count) n)
    (λ same. let a : leb n (suc count) ≡ true = le-leb n (suc count) (omega arith) in let b : leb n count ≡ false = lt-leb n count (omega arith) in
    λ i. sides (sym (ap weight a)) (sym (ap weight b)) (sym (ap weight (eq-eqb (suc count) n same))) i)
    (λ apart. by_order apart (dec_le n count))
  where
    sides : {x y z : ℕ} → 1 ≡ x → 0 ≡ y → 1 ≡ z → x ≡ y + z
    sides p q r = omega arith

    by_order : suc count ≢ n → Dec (n ≤ count) → weight (leb n (suc count)) ≡ weight (leb n count) + weight (eqb (suc count) n)
    by_order apart (yes low) = let a = ap weight (le-leb n (suc count) (omega arith)) in let b = ap weight (le-leb n count low) in let c = ap weight (ne_eqb (suc count) n apart) in omega arith
    by_order apart (no high) = let a = ap weight (lt-leb n (suc count) (omega arith)) in let b = ap weight (lt-leb n count (omega arith)) in let c = ap weight (ne_eqb (suc count) n apart) in omega arith

-- the first entry of a legal log is of client 0
first-by : (d : Dataset) (b : Base) (e : Entry) → Legal d b (e ∷ []) → e.client ≡ 0
unfolding first_entry
first-by d b e h = ap (λ (x : Entry). x.client) h.0

-- a number that nobody has yet has no entries
none-by : (d : Dataset) (b : Base) (count : ℕ) (log : List Entry) → Legal d b log → ClientsTo count log → entries_by (suc count) log ≡ []
none-by d b count [] legal h = refl
none-by d b count (e ∷ []) legal h = let z = first-by d b e legal in ap (λ c. cond c (e ∷ []) []) (ne_eqb e.client (suc count) (λ same. omega arith))
none-by d b count (e ∷ f ∷ log) legal h =
    ap (λ c. cond c (e ∷ entries_by (suc count) (f ∷ log)) (entries_by (suc count) (f ∷ log))) (ne_eqb e.client (suc count) (λ same. let low = h.1 in omega arith)) ∙ none-by d b count (f ∷ log) legal.1 h.2

old-more : (count : ℕ) (log : List Entry) (o : Old) → FitsOld count log o → FitsOld (suc count) log o
old-more count log o f = let low = f.number_in in record { numbered = f.numbered; number_in = omega arith; seen = f.seen; own_is = f.own_is }

number : (a : Origin) (b : Board) (views : List View) (id : ℕ) (v : View) → Kept a b views → get_elem? views id ≡ some v → v.number ≡ 0 → 0 < v.permits → Kept a (record b { count = suc b.count }) (set views id (numbered v (suc b.count)))
number a b views id v h at bare some_left =
    let w = numbered v (suc b.count) in
    let mine = h.fits id v at in
    let nothing = mine.bare bare in record {
      wide = h.wide;
      lock_count = h.lock_count;
      tail_in = h.tail_in;
      stands = h.stands;
      holders = λ l low. sum-same (λ (u : View). weight (has u.held l)) views id v w at refl ∙ h.holders l low;
      turns = sum-same (λ (u : View). weight u.turn) views id v w at refl ∙ h.turns;
      linked = λ k low pointer high. some-set (λ (u : View). IsSome (stored_at k u.draft)) views id v w at (λ s. s) (h.linked k low pointer high);
      permits = let s = sum-set (λ (u : View). u.permits) views id v w at in let e = h.permits in omega arith;
      numbers = λ n pos. let s = sum-set (has_number n) views id v w at in let e = h.numbers n pos in let m = weight_more n b.count in
          let z : weight (eqb v.number n) ≡ 0 = ap weight (ne_eqb v.number n (λ same. omega arith)) in omega arith;
      clients = clients-more b.count (suc b.count) (omega arith) b.log h.clients;
      fits = each-set (Fits a (record b { count = suc b.count })) views id w
          (λ j u _ e. let f = h.fits j u e in let fl = f.number.floor_in in let nu = f.number.number_in in record {
            sight = f.sight;
            rows = f.rows;
            follows = f.follows;
            turn = f.turn;
            locks = f.locks;
            number = record {
              floor_in = omega arith;
              number_in = omega arith;
              own_is = f.number.own_is;
              olds_fit = all-map (FitsOld b.count b.log) (FitsOld (suc b.count) b.log) (old-more b.count b.log) u.olds f.number.olds_fit;
            };
            bare = f.bare;
          })
          record {
            sight = mine.sight;
            rows = mine.rows;
            follows = mine.follows;
            turn = record { turn_is = λ t. absurd (off (sym nothing.no_turn ∙ t)); fresh_is = mine.turn.fresh_is; begun = mine.turn.begun };
            locks = record { held_is = λ l is. absurd (off (sym (ap (λ (ls : List ℕ). has ls l) nothing.no_locks) ∙ is)); pinned_held = mine.locks.pinned_held };
            number = record {
              floor_in = omega arith;
              number_in = omega arith;
              own_is = λ _. nothing.no_entries ∙ sym (none-by a.dataset a.base b.count b.log h.stands.legal h.clients);
              olds_fit = all-map (FitsOld b.count b.log) (FitsOld (suc b.count) b.log) (old-more b.count b.log) v.olds mine.number.olds_fit;
            };
            bare = λ z. absurd (omega arith);
          };
    }

pub numbers : (a : Origin) (slots id : ℕ) (me : M) → me.0.number ≡ 0 → 0 < me.0.permits → Allows (Holds a) slots id me 2 (λ n. (n + 1) % 2 ^ 64) (Numbers (step slots 2 1 0 none) me)
numbers a slots id me bare some_left = by_boards a slots id me 2 (λ n. (n + 1) % 2 ^ 64) (Numbers (step slots 2 1 0 none) me) (λ b views h at _.
    let v = me.0 in
    let sum = h.permits in
    let mine = part (λ (u : View). u.permits) views id v at in
    let floor = (h.fits id v at).number.floor_in in
    let up : (b.count + 1) % 18446744073709551616 ≡ suc b.count = omega arith in (
      numbered v (suc b.count),
      record b { count = suc b.count },
      ap (λ (n : ℕ). b.tail ∷ b.turn ∷ n ∷ (b.locks ++ b.rows)) up,
      number a b views id v h at bare some_left,
      (ap (numbered v) (omega arith), refl, λ full. omega arith),
    ))
