-- A table: a header and, behind it, records that each mean something, or else the first record that doesn't.
use Rattle.std.specs.Prelude.{◌≡◌, ⊤, ℕ, ◌+◌, Bool, if◌then◌else◌, List, [], ◌∷◌, ◌++◌, Result, Ok, Err}
use Rattle.table_ingest.specs.Faults.{Fault}
use Rattle.table_ingest.specs.declared.errors.Table.{Table}
use Rattle.table_ingest.specs.declared.errors.Cause.{Cause}
use Rattle.table_ingest.specs.declared.errors.Cause.TheVariants as cause
use Rattle.table_ingest.specs.declared.errors.TableError.{TableError}
use Rattle.table_ingest.specs.declared.errors.TableError.TheVariants as errors

-- what a record means decides how it goes on, or its cause is the fault of the record with this number
abbrev pub at_record : {A B : Type 0} → Table → ℕ → Result A Cause → (A → Result B Fault) → Result B Fault
at_record t n (Ok x) more = more x
at_record t n (Err c) more = Err (record { table = t; row = n; cause = c })

-- what the records mean, each read with the meanings of those before it, from the record with this number on
unfoldable pub meanings : {A : Type 0} → Table → (List A → List (List ℕ) → Result A Cause) → List A → ℕ → List (List (List ℕ)) → Result (List A) Fault
meanings t read before n [] = Ok before
meanings t read before n (fields ∷ rows) = at_record t n (read before fields) (λ x. meanings t read (before ++ x ∷ []) (n + 1) rows)

-- the meanings of the records behind the header
unfoldable pub table_of : {A : Type 0} → Table → (List (List ℕ) → Bool) → (List A → List (List ℕ) → Result A Cause) → List (List (List ℕ)) → Result (List A) Fault
table_of t is_header read [] = Err (record { table = t; row = 0; cause = cause.BadHeader })
table_of t is_header read (header ∷ rows) =
    if is_header header then meanings t read [] 1 rows else Err (record { table = t; row = 0; cause = cause.BadHeader })

-- this was wanted, unless memory ran out
abbrev pub Gives : {A V : Type 0} → (V → A) → Result V TableError → Result A Fault → Type 0
Gives view (Ok found) wanted = wanted ≡ Ok (view found)
Gives view (Err (errors.Bad t n c)) wanted = wanted ≡ Err (record { table = t; row = n; cause = c })
Gives view (Err errors.NoMemory) wanted = ⊤

-- a record was taken behind these items or refused with its number, as its meaning says, unless memory ran out
abbrev pub Took : {A V : Type 0} → Table → ℕ → List A → Result V TableError → List A → Result A Cause → Type 0
Took {A} t n before (Ok u) after meaning = (x : A) × (meaning ≡ Ok x) × (after ≡ before ++ x ∷ [])
Took t n before (Err (errors.Bad t2 n2 c)) after meaning = (t2 ≡ t) × (n2 ≡ n) × (meaning ≡ Err c)
Took t n before (Err errors.NoMemory) after meaning = ⊤
