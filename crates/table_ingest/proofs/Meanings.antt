-- What a loop over the records of a table keeps, for either table.
use Rattle.std.proofs.Common.{◌≡◌, ℕ, ◌+◌, List, [], ◌∷◌, ◌++◌, Bool, true, false, cond, Result, Ok, Err, refl, sym, ◌∙◌, ap, subst}
use Rattle.std.specs.Borrow.{Bor}
use Rattle.csv.specs.declared.reader.Reader.{Reader}
use Rattle.table_ingest.specs.Records.{HasLeft, Takes, UnderHeader, HasNoHeader}
use Rattle.table_ingest.specs.Faults.{Fault}
use Rattle.table_ingest.specs.Tables.{at_record, meanings, table_of, Gives, Took}
use Rattle.table_ingest.specs.declared.errors.Table.{Table}
use Rattle.table_ingest.specs.declared.errors.Cause.{Cause}
use Rattle.table_ingest.specs.declared.errors.Cause.TheVariants as cause
use Rattle.table_ingest.specs.declared.errors.TableError.{TableError}
use Rattle.table_ingest.specs.declared.errors.TableError.TheVariants as errors

abbrev Rows : Type 0
Rows = List (List (List ℕ))

abbrev Rdr : Type 0
Rdr = Reader (Bor (List ℕ))

-- what a read says of the records that were left
abbrev pub Read : Rdr → Rdr → List (List ℕ) → Bool → Type 0
Read old new fields found = (rows : Rows) → HasLeft old rows → Takes new fields rows found

abbrev bad : Table → ℕ → Cause → Fault
bad t n c = record { table = t; row = n; cause = c }

module _ {A : Type 0} (t : Table) (read : List A → List (List ℕ) → Result A Cause) where
  -- these items were taken, and the rest decides
  abbrev pub Going : Rdr → Rdr → List A → ℕ → Type 0
  Going start rdr items n = (rows : Rows) → HasLeft start rows → (rest : Rows) × HasLeft rdr rest × (meanings t read [] 1 rows ≡ meanings t read items n rest)

  -- nothing was taken yet
  pub begun : (start : Rdr) (items : List A) → items ≡ [] → Going start start items 1
  begun start items e rows h = (rows, h, ap (λ is. meanings t read is 1 rows) (sym e))

  -- no record is left
  pub ended : (start rdr new : Rdr) (items : List A) (n : ℕ) (fields : List (List ℕ)) (found : Bool) → Going start rdr items n → Read rdr new fields found → found ≡ false
      → (rows : Rows) → HasLeft start rows → meanings t read [] 1 rows ≡ Ok items
  unfolding meanings
  ended start rdr new items n fields true going took gone rows h = cc gone
  ended start rdr new items n fields false going took gone rows h =
      let (rest, left, e) = going rows h in
      e ∙ ap (meanings t read items n) (took rest left)

  -- what the next record means decides
  next_is : (items : List A) (n : ℕ) (fields : List (List ℕ)) (rest more : Rows) (m : Result A Cause) → rest ≡ fields ∷ more → read items fields ≡ m
      → meanings t read items n rest ≡ at_record t n m (λ x. meanings t read (items ++ x ∷ []) (n + 1) more)
  unfolding meanings
  next_is items n fields rest more m split is = ap (meanings t read items n) split ∙ ap (λ r. at_record t n r (λ x. meanings t read (items ++ x ∷ []) (n + 1) more)) is

  stopped : {W : Type 0} (V : Type 0) (view : W → List A) (items after : List A) (n : ℕ) (fields : List (List ℕ)) (rest more : Rows) (e : TableError) (whole : Result (List A) Fault)
      → whole ≡ meanings t read items n rest → rest ≡ fields ∷ more → Took {V = V} t n items (Err e) after (read items fields) → Gives view (Err e) whole
  stopped V view items after n fields rest more errors.NoMemory whole is split took = tt
  stopped V view items after n fields rest more (errors.Bad t2 n2 c) whole is split took =
      is ∙ next_is items n fields rest more (Err c) split took.2 ∙ ap (λ x. Err (bad x n c)) (sym took.0) ∙ ap (λ x. Err (bad t2 x c)) (sym took.1)

  -- the next record has a cause
  pub refused : {W : Type 0} (V : Type 0) (view : W → List A) (start rdr new : Rdr) (items after : List A) (n : ℕ) (fields : List (List ℕ)) (found : Bool) (e : TableError) (r : Result W TableError) → Going start rdr items n
      → Read rdr new fields found → found ≡ true → Took {V = V} t n items (Err e) after (read items fields) → r ≡ Err e → (rows : Rows) → HasLeft start rows → Gives view r (meanings t read [] 1 rows)
  refused V view start rdr new items after n fields false e r going reads there took back rows h = cc there
  refused V view start rdr new items after n fields true e r going reads there took back rows h =
      let (rest, left, is) = going rows h in
      let (more, split, left2) = reads rest left in
      subst (λ x. Gives view x (meanings t read [] 1 rows)) (sym back) (stopped V view items after n fields rest more e _ is split took)

  -- the next record is taken
  pub taken : {V : Type 0} (u : V) (start rdr new : Rdr) (items after : List A) (n : ℕ) (fields : List (List ℕ)) (found : Bool) → Going start rdr items n
      → Read rdr new fields found → found ≡ true → Took t n items (Ok u) after (read items fields) → Going start new after (n + 1)
  taken u start rdr new items after n fields false going reads there took rows h = cc there
  taken u start rdr new items after n fields true going reads there took rows h =
      let (rest, left, is) = going rows h in
      let (more, split, left2) = reads rest left in
      (more, left2, is ∙ next_is items n fields rest more (Ok took.0) split took.1 ∙ ap (λ x. meanings t read x (n + 1) more) (sym took.2))

  module _ (is_header : List (List ℕ) → Bool) where
    by_test : (b : Bool) (x y : Result (List A) Fault) → b ≡ true → cond b x y ≡ x
    by_test true x y e = refl
    by_test false x y e = cc e

    by_fail : (b : Bool) (x y : Result (List A) Fault) → b ≡ false → cond b x y ≡ y
    by_fail false x y e = refl
    by_fail true x y e = cc e

    headless : (rows : Rows) → HasNoHeader is_header rows → table_of t is_header read rows ≡ Err (bad t 0 cause.BadHeader)
    unfolding table_of
    headless [] h = refl
    headless (header ∷ rows) h = by_fail (is_header header) _ _ h

    -- the first record isn't the header
    pub under_none : (new : Rdr) (rows : Rows) (b : Bool) → UnderHeader is_header new rows b → b ≡ false → table_of t is_header read rows ≡ Err (bad t 0 cause.BadHeader)
    under_none new rows true h e = cc e
    under_none new rows false h e = headless rows h

    headed : (rows : Rows) (header : List (List ℕ)) (rest : Rows) → rows ≡ header ∷ rest → is_header header ≡ true → meanings t read [] 1 rest ≡ table_of t is_header read rows
    unfolding table_of
    headed rows header rest split is = sym (ap (table_of t is_header read) split ∙ by_test (is_header header) _ _ is)

    -- the first record is the header
    pub under_header : {V : Type 0} (view : V → List A) (new : Rdr) (rows : Rows) (b : Bool) (r : Result V TableError) → UnderHeader is_header new rows b → b ≡ true
        → ((rest : Rows) → HasLeft new rest → Gives view r (meanings t read [] 1 rest)) → Gives view r (table_of t is_header read rows)
    under_header view new rows true r h e more = subst (Gives view r) (headed rows h.0 h.1 h.2 h.3) (more h.1 h.4)
    under_header view new rows false r h e more = cc e

-- whether the next record is the header
module _ (is_header : List (List ℕ) → Bool) where
  pub no_record : (old new : Rdr) (fields : List (List ℕ)) (found : Bool) → Read old new fields found → found ≡ false → (rows : Rows) → HasLeft old rows → UnderHeader is_header new rows false
  no_record old new fields true reads gone rows h = cc gone
  no_record old new fields false reads gone rows h = subst (HasNoHeader is_header) (sym (reads rows h)) tt

  judged : (new : Rdr) (fields : List (List ℕ)) (rest : Rows) (b : Bool) → b ≡ is_header fields → HasLeft new rest → UnderHeader is_header new (fields ∷ rest) b
  judged new fields rest true is left = (fields, rest, refl, sym is, left)
  judged new fields rest false is left = sym is

  pub first_record : (old new : Rdr) (fields : List (List ℕ)) (found b : Bool) → Read old new fields found → found ≡ true → b ≡ is_header fields → (rows : Rows) → HasLeft old rows → UnderHeader is_header new rows b
  first_record old new fields false b reads there is rows h = cc there
  first_record old new fields true b reads there is rows h =
      let (rest, split, left) = reads rows h in
      subst (λ rs. UnderHeader is_header new rs b) (sym split) (judged new fields rest b is left)

-- a record was refused with its number
pub bad_took : {A : Type 0} (V : Type 0) (t : Table) (n : ℕ) (before after : List A) (meaning : Result A Cause) (c : Cause) (e : TableError) → e ≡ errors.Bad t n c → meaning ≡ Err c
    → Took {V = V} t n before (Err e) after meaning
bad_took V t n before after meaning c e is m = subst (λ x. Took {V = V} t n before (Err x) after meaning) (sym is) (refl, refl, m)

-- a fault was given
pub bad_given : {A : Type 0} (V : Type 0) (view : V → A) (t : Table) (n : ℕ) (c : Cause) (e : TableError) (wanted : Result A Fault) → e ≡ errors.Bad t n c → wanted ≡ Err (bad t n c) → Gives view (Err e) wanted
bad_given V view t n c e wanted is w = subst (λ x. Gives view (Err x) wanted) (sym is) w

-- a fault is the same, whatever would have been given
pub still_bad : {A : Type 0} (V W : Type 0) (view : V → A) (other : W → A) (e : TableError) (wanted : Result A Fault) → Gives view (Err e) wanted → Gives other (Err e) wanted
still_bad V W view other errors.NoMemory wanted h = tt
still_bad V W view other (errors.Bad t n c) wanted h = h
