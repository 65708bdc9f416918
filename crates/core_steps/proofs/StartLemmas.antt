-- The core at the start.
use Rattle.std.proofs.Common.{◌≡◌, ℕ, zero, suc, ◌+◌, ◌*◌, ◌^◌, ◌<◌, ◌≤◌, List, [], ◌∷◌, length, map, replicate, refl, sym, ◌∙◌, ap, subst, arith, Some}
use Rattle.std.specs.Prelude.{slice_get}
use Rattle.std.specs.List.{AllByRecursion}
use Rattle.std.proofs.lemmas.List.{length-map}
use Rattle.std.proofs.lemmas.Nat.{mul-le}
use Rattle.op_model.specs.declared.base.Dataset.{Dataset}
use Rattle.op_model.specs.declared.base.Base.{Base}
use Rattle.op_model.specs.declared.entry.Entry.{Entry}
use Rattle.op_model.specs.Operations.{first_entry}
use Rattle.op_model.specs.Valid.{IsDataset, IsBase}
use Rattle.op_model.specs.Transcript.{Line}
use Rattle.session_machine.specs.Machine as machine
use Rattle.session_machine.specs.Play.{cost, client_work, total, work}
use Rattle.session_machine.specs.Laws.{IsFirst}
use Rattle.session_machine.proofs.StepLemmas.{start_locked}
use Rattle.session_machine.proofs.RunLemmas.{start_log}
use Rattle.client_events.specs.declared.clients.Client.{Client}
use Rattle.core_steps.specs.declared.starting.ClientLines.{ClientLines}
use Rattle.client_events.specs.Phases.{line_of}
use Rattle.client_events.specs.Acts.{ClientIs}
use Rattle.core_steps.specs.Places.{CoreIs, IsGood}
use Rattle.core_steps.specs.Starts.{lines_of, new_client}

map_size : {X Y : Type 0} (f : X → Y) (xs : List X) → length (map f xs) ≡ length xs
map_size f xs = simp length-map refl

-- a place of a list that is mapped
at_map : {X Y : Type 0} (f : X → Y) (xs : List X) (k : ℕ) (y : Y) → slice_get (map f xs) k ≡ Some y → (x : X) × (slice_get xs k ≡ Some x) × (y ≡ f x)
at_map f [] k y q = cc
at_map f (x ∷ xs) zero y q = (x, refl, cc)
at_map f (x ∷ xs) (suc k) y q = at_map f xs k y q

map_at : {X Y : Type 0} (f : X → Y) (xs : List X) (k : ℕ) (x : X) → slice_get xs k ≡ Some x → slice_get (map f xs) k ≡ Some (f x)
map_at f [] k x q = cc
map_at f (y ∷ ys) zero x q = let e : y ≡ x = cc in ap (λ z. Some (f z)) e
map_at f (y ∷ ys) (suc k) x q = map_at f ys k x q

all_at : {X : Type 0} (P : X → Type 0) (xs : List X) (k : ℕ) (x : X) → AllByRecursion P xs → slice_get xs k ≡ Some x → P x
all_at P [] k x a q = cc
all_at P (y ∷ ys) zero x a q = let e : y ≡ x = cc in subst P e a.0
all_at P (y ∷ ys) (suc k) x a q = all_at P ys k x a.1 q

-- how much there is to do at the start
start_total : (m : ℕ) → m ≤ 8960 → (asked : List ℕ → Line) (ls : List ClientLines) → AllByRecursion (λ l. length l.lines.items < 2 ^ 32) ls
    → total (client_work m 1) (map machine.new_client (map (lines_of asked) ls)) ≤ length ls * 39084202393601
unfolding total client_work cost
start_total m le asked [] a = omega arith
start_total m le asked (l ∷ ls) a =
    let f : length l.lines.items * (140 + m) ≤ 4294967296 * 9100 = mul-le (length l.lines.items) (140 + m) 4294967296 9100 (omega (arith, a.0)) (omega (arith, le)) in
    let e : length (map (line_of asked) l.lines.items) ≡ length l.lines.items = map_size (line_of asked) l.lines.items in
    let g : length (map (line_of asked) l.lines.items) * (140 + m) ≤ 4294967296 * 9100 = subst (λ n. n * (140 + m) ≤ 4294967296 * 9100) (sym e) f in
    omega (arith, g, start_total m le asked ls a.1)

pub start_good : (asked : List ℕ → Line) (ls : List ClientLines) (d : Dataset) (b : Base) (at : ℕ) → length ls ≤ 64 → AllByRecursion (λ l. length l.lines.items < 2 ^ 32) ls
    → IsDataset d → IsBase d b → IsFirst d b at → IsGood d b (machine.start d b at (map (lines_of asked) ls))
unfolding work
start_good asked ls d b at few no_memory dataset base first =
    let n : length (map machine.new_client (map (lines_of asked) ls)) ≡ length ls = map_size machine.new_client (map (lines_of asked) ls) ∙ map_size (lines_of asked) ls in
    let t = start_total (140 * length (map machine.new_client (map (lines_of asked) ls))) (omega (arith, n, few)) asked ls no_memory in
    record {
      dataset = dataset;
      base = base;
      locks_agree = start_locked d b at (map (lines_of asked) ls);
      log_agrees = start_log d b at (map (lines_of asked) ls) first;
      bounded = omega (arith, t, few);
    }

pub start_core : {V : Type 0} (asked : List ℕ → Line) (stands : V → Dataset → Base → List Entry → Type 0) (drafts : V → Dataset → Base → List Entry → Entry → Type 0) (rows : V) (ls : List ClientLines) (d : Dataset) (b : Base) (at : ℕ) (clients : List Client)
    → AllByRecursion (λ l. length l.lines.items < 2 ^ 32) ls → stands rows d b (first_entry d b at ∷ []) → clients ≡ map new_client ls
    → CoreIs asked (stands rows) (drafts rows) d b (record { locks = replicate 64 0; turn = 0 }) clients (machine.start d b at (map (lines_of asked) ls))
start_core asked stands drafts rows ls d b at clients no_memory stood e =
    subst (λ cs. CoreIs asked (stands rows) (drafts rows) d b (record { locks = replicate 64 0; turn = 0 }) cs (machine.start d b at (map (lines_of asked) ls))) (sym e)
    (record {
      table = record { locks = refl; turn = refl };
      rows = stood;
      count = map_size machine.new_client (map (lines_of asked) ls) ∙ (map_size (lines_of asked) ls ∙ sym (map_size new_client ls));
      clients_are = λ k me q.
          let l = at_map new_client ls k me q in
          let there : slice_get (map machine.new_client (map (lines_of asked) ls)) k ≡ Some (machine.new_client (lines_of asked l.0)) = map_at machine.new_client (map (lines_of asked) ls) k (lines_of asked l.0) (map_at (lines_of asked) ls k l.0 l.1) in (
            machine.new_client (lines_of asked l.0),
            there,
            subst (λ y. ClientIs asked (drafts rows) d b (first_entry d b at ∷ []) (suc k) y (machine.new_client (lines_of asked l.0))) (sym l.2)
                (record { rest = record { lines = refl; line = refl; faulty = refl; seen = refl; within = omega arith }; phase = refl; draft = tt }),
          );
      small = λ k me q. let l = at_map new_client ls k me q in subst (λ (y : Client). length y.lines.items < 2 ^ 32) (sym l.2) (all_at (λ x. length x.lines.items < 2 ^ 32) ls k l.0 no_memory l.1);
    })
