-- Inner: no clause of `run` is made of it.
-- What a read is replied.
use Rattle.std.specs.Prelude.{◌≡◌, ℕ, ◌≤◌, ◌⊎◌, List, length, Option, None, Result, Ok, Err}
use Rattle.std.specs.Option.{option_map_or}
use Rattle.op_model.specs.declared.base.Dataset.{Dataset}
use Rattle.op_model.specs.declared.base.Base.{Base}
use Rattle.op_model.specs.declared.entry.Entry.{Entry}
use Rattle.op_model.specs.declared.request.Read.{Read}
use Rattle.op_model.specs.declared.request.Read.TheVariants as read
use Rattle.op_model.specs.declared.reply.Refusal.{Refusal}
use Rattle.op_model.specs.declared.reply.Reply.{Reply}
use Rattle.op_model.specs.declared.reply.Reply.TheVariants as reply
use Rattle.op_model.specs.Answers.{answer, leaves}
use Rattle.op_model.specs.Refusals.{first_of, prefix_for, refuse_read, refuse_time, refuse_root}
use Rattle.op_model.specs.Transcript.{log_at, read_reply}
use Rattle.record_rows.specs.Rows.{Node}
use Rattle.record_rows.specs.Readings.{HoldsNode, HoldsSupervoxel, Image, ParentImage}

-- the reply to a read of a form that is answered: the first refusal, else the defined answer
unfoldable pub reply_to : Dataset → Base → List Entry → Read → Reply
reply_to d b log request = read_reply (refuse_read d b log request) log (answer d b log request)

-- that reply, unless there is no memory for a read that isn't refused
abbrev pub IsReply : Dataset → Base → List Entry → Read → Reply → Type 0
IsReply d b log request r = (r ≡ reply_to d b log request) ⊎ ((r ≡ reply.NoMemory) × (refuse_read d b log request ≡ None))

-- the reply to a read of a root or a path is that reply; to one of leaves or changes too, unless there is no memory for a read that isn't refused
abbrev pub IsAnswer : Dataset → Base → List Entry → Read → Reply → Type 0
IsAnswer d b log (read.Root v at) r = r ≡ reply_to d b log (read.Root v at)
IsAnswer d b log (read.Path v at) r = r ≡ reply_to d b log (read.Path v at)
IsAnswer d b log (read.Leaves root at) r = IsReply d b log (read.Leaves root at) r
IsAnswer d b log (read.Changes root at) r = IsReply d b log (read.Changes root at) r

-- a read of changes needs the whole image, and another one what tells of the nodes and parents
abbrev pub ImageFor : Read → Dataset → Base → List Entry → List ℕ → Type 0
ImageFor (read.Root v at) = ParentImage
ImageFor (read.Path v at) = ParentImage
ImageFor (read.Leaves root at) = ParentImage
ImageFor (read.Changes root at) = Image

-- how many entries a read of this time is asked of, where the time isn't refused
unfoldable pub prefix_of_read : List Entry → Option ℕ → Result ℕ Refusal
prefix_of_read log at = option_map_or (λ r. Err r) (first_of (refuse_time log at)) (Ok (length (prefix_for log at)))

-- the supervoxel's record stands at the place, and a read of it at this time isn't refused and is asked of so many entries
pub record IsAsked (d : Dataset) (b : Base) (log : List Entry) (v : ℕ) (at : Option ℕ) (place prefix : ℕ) : Type 0 where
  pub unrefused : refuse_read d b log (read.Root v at) ≡ None
  pub stands : HoldsSupervoxel d b log place v
  pub low : 1 ≤ prefix
  pub high : prefix ≤ length log
  pub entries : log_at d b log prefix ≡ prefix_for log at

-- the record at the place has the leaves of a root that one of these older entries made
pub record HoldsRoot (d : Dataset) (b : Base) (log older : List Entry) (root place : ℕ) : Type 0 where
  pub unrefused : first_of (refuse_root d b older root) ≡ None
  pub node : Node
  pub stands : HoldsNode d b log place node
  pub shown : node.leaves ≡ leaves d b older root

-- such a record stands at the place, and a read of the root at this time isn't refused and is asked of so many entries
pub record IsAskedRoot (d : Dataset) (b : Base) (log : List Entry) (root : ℕ) (at : Option ℕ) (place prefix : ℕ) : Type 0 where
  pub unrefused : refuse_read d b log (read.Leaves root at) ≡ None
  pub held : HoldsRoot d b log (prefix_for log at) root place
  pub low : 1 ≤ prefix
  pub high : prefix ≤ length log
  pub entries : log_at d b log prefix ≡ prefix_for log at
