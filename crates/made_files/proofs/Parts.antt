-- The files of a job, one after the other.
use Rattle.std.proofs.Common.{◌≡◌, ◌∙◌, ℕ, zero, suc, ◌+◌, ◌-◌, ◌<◌, ◌≤◌, refl, sym, ap, subst, arith, List, [], ◌∷◌, ◌++◌, map, take, length, get_or, append_assoc, append-nil, Option}
use Rattle.std.proofs.lemmas.List.{length-append, length-take-le, take_all, take_more}
use Rattle.pcg_words.specs.Job.{request_file}
use Rattle.pcg_words.specs.declared.job.MakeJob.{MakeJob}
use Rattle.made_input.specs.Edges.{Made, edges_below}
use Rattle.made_input.specs.Rows.{Text, table_text}
use Rattle.made_input.specs.Texts.{edge_fields, edge_header, edge_rows, input_of, stream_of, streams_of, supervoxel_rows}
use Rattle.made_input.specs.declared.edges.MadeEdge.{MadeEdge}
use Rattle.made_input.specs.declared.wish.Wish.{Wish}
use Rattle.pcg_base.specs.States.{PlaceState}
use Rattle.pcg_base.specs.Told.{Files}
use Rattle.made_files.specs.Writing.{File, PutsAll, PutsSome}
use Rattle.made_files.specs.Files.{IsLater, StopsSo, files_of, streams_at, tables_of, wish_of}
use Rattle.made_files.specs.declared.stops.MakeStop.{MakeStop}
use Rattle.made_files.specs.declared.stops.MakeStop.TheVariants as stops
use Rattle.made_files.proofs.Written.{all_none, all_then, file_unmade, keeps_self, some_more, some_then, stops_then}

-- what is said of files that were written whole, and of those that weren't
abbrev pub Full : PlaceState → PlaceState → List File → Type 0
Full a b fs = PutsAll a.files b.files fs × (b.writes ≡ a.writes)

abbrev pub Part : MakeJob → PlaceState → PlaceState → List File → MakeStop → Type 0
Part job a b fs stop = PutsSome a.files b.files fs × StopsSo job a b stop

pub tables_so : (job : MakeJob) (w : Wish) (edges : List MadeEdge) (s : ℕ) → w ≡ wish_of job → edges_below w w.size ≡ (edges, s)
    → ((job.supervoxels, table_text (supervoxel_rows w)) ∷ (job.edges, table_text (edge_header ∷ map (edge_fields w) edges)) ∷ []) ≡ tables_of job
unfolding input_of edge_rows
tables_so job w edges s e made =
    let rows : (edge_header ∷ map (edge_fields w) edges) ≡ edge_rows w = ap (λ (m : Made). edge_header ∷ map (edge_fields w) m.0) (sym made) in
    ap (λ rows. (job.supervoxels, table_text (supervoxel_rows w)) ∷ (job.edges, table_text rows) ∷ []) rows
    ∙ ap (λ v. (job.supervoxels, (input_of v).supervoxels) ∷ (job.edges, (input_of v).edges) ∷ []) e

-- ---- streams

streams_more : (stems : List (List ℕ)) (texts : List Text) (stem : List ℕ) (text : Text) → length stems ≡ length texts
    → streams_at (stems ++ stem ∷ []) (texts ++ text ∷ []) ≡ streams_at stems texts ++ (request_file stem, text) ∷ []
unfolding streams_at
streams_more [] [] stem text e = refl
streams_more [] (t ∷ texts) stem text e = absurd (omega (arith, e))
streams_more (s ∷ stems) [] stem text e = absurd (omega (arith, e))
streams_more (s ∷ stems) (t ∷ texts) stem text e = ap (λ fs. (request_file s, t) ∷ fs) (streams_more stems texts stem text (omega (arith, e)))

stream_count : (w : Wish) (n : ℕ) → length (streams_of w n).0 ≡ n
unfolding streams_of
stream_count w zero = refl
stream_count w (suc n) = length-append (streams_of w n).0 ((stream_of w (streams_of w n).1 w.requests).0 ∷ []) ∙ omega (arith, stream_count w n)

abbrev pub upto : Wish → List (List ℕ) → ℕ → List File
upto w stems n = streams_at (take n stems) (streams_of w n).0

pub streams_next : (w : Wish) (n : ℕ) → streams_of w (n + 1) ≡ ((streams_of w n).0 ++ (stream_of w (streams_of w n).1 w.requests).0 ∷ [], (stream_of w (streams_of w n).1 w.requests).1)
unfolding streams_of
streams_next w n =
    let one : n + 1 ≡ suc n = omega arith in
    ap (streams_of w) one

pub next_file : (w : Wish) (stems : List (List ℕ)) (n : ℕ) → n < length stems
    → upto w stems (n + 1) ≡ upto w stems n ++ (request_file (get_or stems n []), (stream_of w (streams_of w n).1 w.requests).0) ∷ []
next_file w stems n lt =
    ap (λ (m : List Text × ℕ). streams_at (take (n + 1) stems) m.0) (streams_next w n)
    ∙ ap (λ ss. streams_at ss ((streams_of w n).0 ++ (stream_of w (streams_of w n).1 w.requests).0 ∷ [])) (take_more stems n [] lt)
    ∙ streams_more (take n stems) (streams_of w n).0 (get_or stems n []) ((stream_of w (streams_of w n).1 w.requests).0)
    (length-take-le n stems (omega (arith, lt)) ∙ sym (stream_count w n))

files_after : (w : Wish) (stems : List (List ℕ)) (n d : ℕ) → n + d ≤ length stems → (rest : List File) × (upto w stems (n + d) ≡ upto w stems n ++ rest)
files_after w stems n zero le =
    let e : n + 0 ≡ n = omega arith in
    ([], ap (upto w stems) e ∙ sym (append-nil (upto w stems n)))
files_after w stems n (suc d) le =
    let e : n + suc d ≡ (n + d) + 1 = omega arith in
    let r = files_after w stems n d (omega (arith, le)) in
    let f = (request_file (get_or stems (n + d) []), (stream_of w (streams_of w (n + d)).1 w.requests).0) ∷ [] in
    (r.0 ++ f, ap (upto w stems) e ∙ next_file w stems (n + d) (omega (arith, le)) ∙ ap (λ l. l ++ f) r.1 ∙ append_assoc (upto w stems n) r.0 f)

pub all_streams : (w : Wish) (stems : List (List ℕ)) → upto w stems (length stems) ≡ streams_at stems (streams_of w (length stems)).0
all_streams w stems = ap (λ ss. streams_at ss (streams_of w (length stems)).0) (take_all (length stems) stems (omega arith))

-- the first streams are a front of all
pub front_files : (w : Wish) (stems : List (List ℕ)) (n : ℕ) → n ≤ length stems → (rest : List File) × (streams_at stems (streams_of w (length stems)).0 ≡ upto w stems n ++ rest)
front_files w stems n le =
    let e : n + (length stems - n) ≡ length stems = omega (arith, le) in
    let r = files_after w stems n (length stems - n) (omega (arith, le)) in
    (r.0, sym (ap (upto w stems) e ∙ all_streams w stems) ∙ r.1)

-- ---- one stream more

abbrev file_at : Wish → List (List ℕ) → ℕ → ℕ → List File
file_at w stems i s = (request_file (get_or stems i []), (stream_of w s w.requests).0) ∷ []

one_more : (w : Wish) (stems : List (List ℕ)) (i s : ℕ) → i < length stems → s ≡ (streams_of w i).1 → upto w stems i ++ file_at w stems i s ≡ upto w stems (i + 1)
one_more w stems i s lt e = ap (λ n. upto w stems i ++ file_at w stems i n) e ∙ sym (next_file w stems i lt)

pub step_all : (w : Wish) (stems : List (List ℕ)) (i s : ℕ) (f0 f f' : Option Files) → i < length stems → s ≡ (streams_of w i).1 → PutsAll f0 f (upto w stems i) → PutsAll f f' (file_at w stems i s) → PutsAll f0 f' (upto w stems (i + 1))
step_all w stems i s f0 f f' lt e a b =
    subst (λ fs. PutsAll f0 f' fs) (one_more w stems i s lt e) (all_then f0 f f' (upto w stems i) (file_at w stems i s) a b)

pub step_state : (w : Wish) (i s s' : ℕ) → s ≡ (streams_of w i).1 → s' ≡ (stream_of w s w.requests).1 → s' ≡ (streams_of w (i + 1)).1
step_state w i s s' e b = b ∙ ap (λ n. (stream_of w n w.requests).1) e ∙ sym (ap (λ (m : List Text × ℕ). m.1) (streams_next w i))

pub step_some : (w : Wish) (stems : List (List ℕ)) (i s : ℕ) (f0 f f' : Option Files) → i < length stems → s ≡ (streams_of w i).1 → PutsAll f0 f (upto w stems i) → PutsSome f f' (file_at w stems i s)
    → PutsSome f0 f' (streams_at stems (streams_of w (length stems)).0)
step_some w stems i s f0 f f' lt e a b =
    let here = subst (λ fs. PutsSome f0 f' fs) (one_more w stems i s lt e) (some_then f0 f f' (upto w stems i) (file_at w stems i s) a b) in
    let front = front_files w stems (i + 1) (omega (arith, lt)) in
    subst (λ fs. PutsSome f0 f' fs) (sym front.1) (some_more f0 f' (upto w stems (i + 1)) front.0 here)

pub last_all : (w : Wish) (stems : List (List ℕ)) (i : ℕ) (f0 f : Option Files) → i ≡ length stems → PutsAll f0 f (upto w stems i) → PutsAll f0 f (streams_at stems (streams_of w (length stems)).0)
last_all w stems i f0 f e a = subst (λ fs. PutsAll f0 f fs) (ap (upto w stems) e ∙ all_streams w stems) a

clients : (job : MakeJob) → length job.stems ≡ (wish_of job).clients
unfolding wish_of
clients job = refl

-- how many edges there are
pub edges_so : (job : MakeJob) (w : Wish) (edges : List MadeEdge) (s : ℕ) → w ≡ wish_of job → edges_below w w.size ≡ (edges, s) → length edges ≡ (input_of (wish_of job)).edge_count
unfolding input_of
edges_so job w edges s e made = sym (ap (λ (m : Made). length m.0) made) ∙ ap (λ v. (input_of v).edge_count) e

-- all files of a job, from what its tables and streams are
pub files_so : (job : MakeJob) (w : Wish) (edges : List MadeEdge) (s : ℕ) → w ≡ wish_of job → edges_below w w.size ≡ (edges, s)
    → ((job.supervoxels, table_text (supervoxel_rows w)) ∷ []) ++ (((job.edges, table_text (edge_header ∷ map (edge_fields w) edges)) ∷ []) ++ streams_at job.stems (streams_of w (length job.stems)).0) ≡ files_of job
unfolding input_of
files_so job w edges s e made =
    ap (λ fs. fs ++ streams_at job.stems (streams_of w (length job.stems)).0) (tables_so job w edges s e made)
    ∙ ap (λ v. tables_of job ++ streams_at job.stems (streams_of v (length job.stems)).0) e
    ∙ ap (λ n. tables_of job ++ streams_at job.stems (streams_of (wish_of job) n).0) (clients job)

-- want of memory before any file was opened
pub none_wrote : (job : MakeJob) (a : PlaceState) (fs : List File) → Part job a a fs stops.NoMemory
none_wrote job a fs = (file_unmade a.files a.files fs (keeps_self a.files), tt)

pub none_upto : (w : Wish) (stems : List (List ℕ)) (f : Option Files) → PutsAll f f (upto w stems 0)
unfolding streams_at streams_of
none_upto w stems f = all_none f

pub start_state : (w : Wish) (s : ℕ) → s ≡ (edges_below w w.size).1 → s ≡ (streams_of w 0).1
unfolding streams_of
start_state w s e = e

full_then : (a b c : PlaceState) (xs ys : List File) → Full a b xs → Full b c ys → Full a c (xs ++ ys)
full_then a b c xs ys h k = (all_then a.files b.files c.files xs ys h.0 k.0, k.1 ∙ h.1)

part_then : (job : MakeJob) (a b c : PlaceState) (xs ys : List File) (stop : MakeStop) → IsLater a b → Full a b xs → Part job b c ys stop → Part job a c (xs ++ ys) stop
part_then job a b c xs ys stop later h k = (some_then a.files b.files c.files xs ys h.0 k.0, stops_then job a b c stop later k.1)

part_more : (job : MakeJob) (a b : PlaceState) (xs ys : List File) (stop : MakeStop) → Part job a b xs stop → Part job a b (xs ++ ys) stop
part_more job a b xs ys stop h = (some_more a.files b.files xs ys h.0, h.1)

module _ (job : MakeJob) (w : Wish) (edges : List MadeEdge) (s : ℕ) (same : w ≡ wish_of job) (made : edges_below w w.size ≡ (edges, s)) where
  abbrev pub first : List File
  first = (job.supervoxels, table_text (supervoxel_rows w)) ∷ []

  abbrev pub second : List File
  second = (job.edges, table_text (edge_header ∷ map (edge_fields w) edges)) ∷ []

  abbrev pub third : List File
  third = streams_at job.stems (streams_of w (length job.stems)).0

  -- what a job wrote, by where it ended
  pub first_stopped : (a b : PlaceState) (stop : MakeStop) → Part job a b first stop → Part job a b (files_of job) stop
  first_stopped a b stop h = subst (λ fs. Part job a b fs stop) (files_so job w edges s same made) (part_more job a b first (second ++ third) stop h)

  pub second_stopped : (a b c : PlaceState) (stop : MakeStop) → IsLater a b → Full a b first → Part job b c second stop → Part job a c (files_of job) stop
  second_stopped a b c stop later h k =
      subst (λ fs. Part job a c fs stop) (files_so job w edges s same made) (part_then job a b c first (second ++ third) stop later h (part_more job b c second third stop k))

  pub third_stopped : (a b c d : PlaceState) (stop : MakeStop) → IsLater a b → IsLater b c → Full a b first → Full b c second → Part job c d third stop → Part job a d (files_of job) stop
  third_stopped a b c d stop early late h k l =
      subst (λ fs. Part job a d fs stop) (files_so job w edges s same made) (part_then job a b d first (second ++ third) stop early h (part_then job b c d second third stop late k l))

  pub all_done : (a b c d : PlaceState) → Full a b first → Full b c second → Full c d third → Full a d (files_of job)
  all_done a b c d h k l =
      subst (λ fs. Full a d fs) (files_so job w edges s same made) (full_then a b d first (second ++ third) h (full_then b c d second third k l))
