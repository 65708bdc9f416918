-- Inner: no clause of `run` is made of it.
-- What one step tells: of the step, the seat before, the number found and the seat after. Locks begin at word 3, rows at word 67.
use Rattle.std.specs.Prelude.{◌≡◌, ◌≢◌, ℕ, suc, ◌+◌, ◌*◌, ◌-◌, ◌<◌, ◌≤◌, List, [], ◌∷◌, ◌++◌, true, false, length, slice_index}
use Rattle.std.specs.List.{AllByRecursion}
use Rattle.atomic_table.specs.Table.{Me, Step}
use Rattle.op_model.specs.declared.entry.Asked.TheVariants as asked
use Rattle.op_model.specs.declared.entry.Entry.{Entry}
use Rattle.record_rows.specs.Images.{trimmed_word}
use Rattle.record_rows.specs.Readings.{Image}
use Rattle.shared_rows.specs.declared.view.View.{View}
use Rattle.shared_rows.specs.declared.view.Old.{Old}
use Rattle.shared_rows.specs.Logs.{Extends, entries_by, ClientsTo}
use Rattle.shared_rows.specs.Locks.{Follows, without}
use Rattle.shared_rows.specs.Drafting.{image_after}

abbrev pub M : Type 0
M = Me (Unit {0}) View

abbrev pub S : Type 0
S = Step (Unit {0})

-- the view after a look that found this tail, with this image and log
abbrev pub looked : View → ℕ → List ℕ → List Entry → View
looked v tail image log = record v { tail = tail; image = image; log = log; looks = suc v.looks; fresh = v.turn }

-- the view whose pinned locks are those that it holds
abbrev pub pinning : View → View
pinning v = record v { pinned = v.held }

-- what is known of a pass that was joined into another: the log that it saw is a prefix of this one, and its own entries are those with its number
pub record KnowsOld (log : List Entry) (o : Old) : Type 0 where
  pub seen : Extends log o.log
  pub own_is : o.own ≡ entries_by o.number log

-- what is known of a view that has just looked
pub record Knows (w : View) : Type 0 where
  pub stands : Image w.dataset w.base w.log w.image
  pub long : length w.image ≡ 8 * w.tail
  pub room : w.tail ≤ w.dataset.capacity
  pub own_is : 0 < w.number → w.own ≡ entries_by w.number w.log
  pub olds : AllByRecursion (KnowsOld w.log) w.olds
  pub clients : ClientsTo (64 - w.permits) w.log

-- A look: `before` saw a log, `chosen` is that view with its pins chosen anew or kept, and `after` is it with what it sees now. No entry in between retired a root whose lock `before` had pinned.
pub record Later (before chosen after : View) : Type 0 where
  pub tail : ℕ
  pub image : List ℕ
  pub log : List Entry
  pub is : after ≡ looked chosen tail image log
  pub more : before.tail ≤ tail
  pub follows : Follows before.dataset.layout log before.log before.pinned
  pub knows : Knows after

abbrev pub Looks : S → M → ℕ → M → Type 0
Looks s m found m' = Later m.0 m.0 m'.0 × (m'.0.tail ≡ found) × (m'.1 ≡ m.1)

abbrev pub Pins : S → M → ℕ → M → Type 0
Pins s m found m' = Later m.0 (pinning m.0) m'.0 × (m'.0.tail ≡ found) × (m'.1 ≡ m.1)

-- nothing changed, and the word of the image was read, if it is below the seen tail
abbrev pub Reads : S → M → ℕ → M → Type 0
Reads s m found m' = (m' ≡ m) × ((k : ℕ) → s.word ≡ k + 67 → k < 8 * m.0.tail → trimmed_word m.0.tail k found ≡ slice_index m.0.image k)

-- the view with its number
abbrev pub numbered : View → ℕ → View
numbered v n = record v { permits = v.permits - 1; floor = n; number = n }

-- the number is one more than what was found, which is known where the floor and the permits are 64
abbrev pub Numbers : S → M → ℕ → M → Type 0
Numbers s m found m' = (m'.0 ≡ numbered m.0 (found + 1)) × (m'.1 ≡ m.1) × (m.0.floor + m.0.permits ≡ 64 → found ≡ m.0.floor)

abbrev pub with_turn : View → View
with_turn v = record v { turn = true; fresh = false }

-- the turn was free and is taken, or another has it and nothing changed
abbrev pub Takes : S → M → ℕ → M → Type 0
Takes s m found m' = (found ≡ 0 → m'.0 ≡ with_turn m.0) × (found ≢ 0 → m'.0 ≡ m.0) × (m'.1 ≡ m.1)

abbrev pub without_turn : View → View
without_turn v = record v { turn = false; fresh = false }

abbrev pub Gives : S → M → ℕ → M → Type 0
Gives s m found m' = (m'.0 ≡ without_turn m.0) × (m'.1 ≡ m.1)

abbrev pub with_lock : View → ℕ → View
with_lock v l = record v { held = l ∷ v.held }

-- the view after a lock was found with the pass of this number
abbrev pub with_loss : View → ℕ → View
with_loss v met = record v { losses = suc v.losses; met = met }

abbrev pub without_lock : View → ℕ → View
without_lock v l = record v { held = without l v.held; pinned = [] }

-- the lock was free and is held, or another pass has it, whose number was found
abbrev pub Locks : S → M → ℕ → M → Type 0
Locks s m found m' =
    ((l : ℕ) → s.word ≡ l + 3 → found ≡ 0 → m'.0 ≡ with_lock m.0 l)
    × (found ≢ 0 → (m'.0 ≡ with_loss m.0 found) × (found ≢ m.0.number))
    × (m'.1 ≡ m.1)

abbrev pub Frees : S → M → ℕ → M → Type 0
Frees s m found m' = ((l : ℕ) → s.word ≡ l + 3 → m'.0 ≡ without_lock m.0 l) × (m'.1 ≡ m.1)

-- the view after a store of n at the row word k
abbrev pub with_store : View → ℕ → ℕ → View
with_store v k n = record v { draft = (k, n) ∷ v.draft }

abbrev pub Stores : S → M → ℕ → M → Type 0
Stores s m found m' = ((k : ℕ) → s.word ≡ k + 67 → m'.0 ≡ with_store m.0 k s.first) × (m'.1 ≡ m.1)

-- the view after its draft was published up to t, with this entry
abbrev pub published : View → ℕ → Entry → View
published v t e = record v { tail = t; image = image_after v t; log = e ∷ v.log; draft = []; own = e ∷ v.own }

abbrev pub Publishes : Entry → S → M → ℕ → M → Type 0
Publishes e s m found m' = (m'.0 ≡ published m.0 s.first e) × (m'.1 ≡ m.1)

-- where no entry is picked
abbrev pub no_entry : Entry
no_entry = record { number = 0; client = 0; line = 0; at = 0; asked = asked.Ingest; changed = []; retired = []; made = [] }

-- the older view, less its permits
abbrev pub kept_back : View → View
kept_back v = record v { permits = 0 }

-- the view of a new pass that has seen as much, and has all permits
abbrev pub handed : View → View
handed v = record v {
  number = 0;
  held = [];
  pinned = [];
  turn = false;
  fresh = false;
  draft = [];
  own = [];
  olds = [];
  looks = 0;
  losses = 0;
  met = 0;
}

abbrev pub old_of : View → Old
old_of v = record { number = v.number; log = v.log; own = v.own }

-- a view that has taken in another
abbrev pub joined : View → View → View
joined v w = record v { permits = v.permits + w.permits; olds = v.olds ++ old_of w ∷ w.olds }

-- what a joined seat is left with
abbrev pub spent : View
spent = record {
  gone = true;
  dataset = record { layout = record { version = 1; bits = 1 }; grid = record { x = 1; y = 1; z = 1 }; merge_affinity = 1; capacity = 2 };
  base = record { supervoxels = []; edges = [] };
  permits = 0;
  floor = 0;
  number = 0;
  tail = 0;
  image = [];
  log = [];
  held = [];
  pinned = [];
  turn = false;
  fresh = false;
  draft = [];
  own = [];
  olds = [];
  looks = 0;
  losses = 0;
  met = 0;
}
