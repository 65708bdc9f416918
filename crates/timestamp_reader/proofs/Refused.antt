-- What a read is refused for, one cause after the other.
use Rattle.std.proofs.Common.{◌≡◌, ℕ, Bool, true, false, cond, not, List, [], ◌∷◌, ◌++◌, length, Option, Some, None, refl, sym, ◌∙◌, ap, ap₂, subst, inl, inr}
use Rattle.std.specs.Prelude.{MatchOption}
use Rattle.std.specs.List.{list_any, slice_get}
use Rattle.std.proofs.lemmas.Bool.{cases_Bool, eqb-true, false≢true}
use Rattle.op_model.specs.declared.base.Dataset.{Dataset}
use Rattle.op_model.specs.declared.base.Base.{Base}
use Rattle.op_model.specs.declared.entry.Entry.{Entry}
use Rattle.op_model.specs.declared.reply.Refusal.{Refusal}
use Rattle.op_model.specs.declared.reply.Refusal.TheVariants.{NoSuchSupervoxel, NotARoot, NoSuchRoot}
use Rattle.op_model.specs.declared.request.Read.{Read}
use Rattle.op_model.specs.declared.request.Read.TheVariants as read
use Rattle.op_model.specs.declared.reply.Reply.TheVariants as reply
use Rattle.graph_model.specs.Lists.{has}
use Rattle.op_model.specs.declared.reply.Summary.{Summary}
use Rattle.op_model.specs.Answers.{ancestors, answer, changes}
use Rattle.op_model.specs.Labels.{path, root as root_of}
use Rattle.op_model.specs.Refusals.{first_of, is_root_id, prefix_for, refuse_first, refuse_if, refuse_read, refuse_root, refuse_time, refuse_unknown}
use Rattle.op_model.specs.Transcript.{log_at, read_reply}
use Rattle.record_rows.specs.Rows.{Row, SupervoxelRow}
use Rattle.record_rows.specs.LogRows.{rows_of}
use Rattle.record_rows.specs.Readings.{HoldsSupervoxel, ParentImage}
use Rattle.record_rows.specs.Sorted.{FoundAmong, supervoxel_count}
use Rattle.record_rows.specs.Walks.{is_supervoxel}
use Rattle.record_rows.proofs.BaseRows.{supervoxel_found, supervoxel_known, supervoxel_spot}
use Rattle.timestamp_reader.specs.Replies.{HoldsRoot, IsAsked, IsAskedRoot, reply_to}
use Rattle.change_reader.specs.Walks.{IsMadeRoot}
use Rattle.change_reader.proofs.RowSearches.{stands_there}
use Rattle.timestamp_reader.proofs.ReadPrefixes.{IsPrefix}

-- the first refusal of a list is that of a longer one
first_some : (xs ys : List (Option Refusal)) (r : Refusal) → first_of xs ≡ Some r → first_of (xs ++ ys) ≡ Some r
unfolding first_of
first_some [] ys r h = cc
first_some (None ∷ xs) ys r h = first_some xs ys r h
first_some (Some q ∷ xs) ys r h = h

-- where a list has none, that of the rest counts
first_rest : (xs ys : List (Option Refusal)) → first_of xs ≡ None → first_of (xs ++ ys) ≡ first_of ys
unfolding first_of
first_rest [] ys h = refl
first_rest (None ∷ xs) ys h = first_rest xs ys h
first_rest (Some q ∷ xs) ys h = cc

module _ (d : Dataset) (b : Base) where
  unknown_none : (v : ℕ) → has b.supervoxels v ≡ true → first_of (refuse_unknown d b (v ∷ []) ∷ []) ≡ None
  unfolding first_of refuse_unknown refuse_first
  unknown_none v h = rw h refl

  unknown_some : (v : ℕ) → has b.supervoxels v ≡ false → first_of (refuse_unknown d b (v ∷ []) ∷ []) ≡ Some (NoSuchSupervoxel v)
  unfolding first_of refuse_unknown refuse_first
  unknown_some v h = rw h refl

  -- a read of a supervoxel is refused for its time
  pub supervoxel_early : (log : List Entry) (v : ℕ) (at : Option ℕ) (r : Refusal) → first_of (refuse_time log at) ≡ Some r → refuse_read d b log (read.Root v at) ≡ Some r
  unfolding refuse_read
  supervoxel_early log v at r h = first_some (refuse_time log at) (refuse_unknown d b (v ∷ []) ∷ []) r h

  -- then for the supervoxel
  pub supervoxel_missing : (log : List Entry) (v : ℕ) (at : Option ℕ) → first_of (refuse_time log at) ≡ None → has b.supervoxels v ≡ false → refuse_read d b log (read.Root v at) ≡ Some (NoSuchSupervoxel v)
  unfolding refuse_read
  supervoxel_missing log v at h u = first_rest (refuse_time log at) (refuse_unknown d b (v ∷ []) ∷ []) h ∙ unknown_some v u

  -- and else not
  pub supervoxel_asked : (log : List Entry) (words : List ℕ) → ParentImage d b log words → (v : ℕ) (at : Option ℕ) (p k : ℕ) → IsPrefix d b log at k → HoldsSupervoxel d b log p v → IsAsked d b log v at p k
  unfolding refuse_read
  supervoxel_asked log words i v at p k q h = record {
    unrefused = first_rest (refuse_time log at) (refuse_unknown d b (v ∷ []) ∷ []) q.timely ∙ unknown_none v (supervoxel_known d b log words i p v h);
    stands = h;
    low = q.low;
    high = q.high;
    entries = q.entries;
  }

  -- what is found among the supervoxels
  pub supervoxel_sought : (log : List Entry) (words : List ℕ) → ParentImage d b log words → (v : ℕ) (found : Option ℕ) → FoundAmong words 1 (supervoxel_count words) v found
      → MatchOption found (has b.supervoxels v ≡ false) (λ p. HoldsSupervoxel d b log p v)
  unfolding is_supervoxel
  supervoxel_sought log words i v None f = elim (cases_Bool (has b.supervoxels v)) [
    | inl t ↦ absurd (let s = supervoxel_spot d b log words i v t None f in let q : None ≡ Some s.0 = s.1 in cc)
    | inr q ↦ q
  ]
  supervoxel_sought log words i v (Some p) f = let s = stands_there d b log (is_supervoxel v) refl p (sym (supervoxel_found d b log words i v (Some p) f)) in from s.0 s.1 s.2
    where
      from : (row : Row) → slice_get (rows_of d b log) p ≡ Some row → is_supervoxel v row ≡ true → HoldsSupervoxel d b log p v
      from (SupervoxelRow u) g t = subst (λ x. slice_get (rows_of d b log) p ≡ Some (SupervoxelRow x)) (eqb-true u v t) g
      from row g t = absurd (false≢true t)

  -- a read of leaves is refused for its time
  pub leaves_early : (log : List Entry) (r : ℕ) (at : Option ℕ) (q : Refusal) → first_of (refuse_time log at) ≡ Some q → refuse_read d b log (read.Leaves r at) ≡ Some q
  unfolding refuse_read
  leaves_early log r at q h = first_some (refuse_time log at) (refuse_root d b (prefix_for log at) r) q h

  -- then as the root is at its prefix
  pub leaves_later : (log : List Entry) (r : ℕ) (at : Option ℕ) (k : ℕ) → IsPrefix d b log at k → refuse_read d b log (read.Leaves r at) ≡ first_of (refuse_root d b (log_at d b log k) r)
  unfolding refuse_read
  leaves_later log r at k q = first_rest (refuse_time log at) (refuse_root d b (prefix_for log at) r) q.timely ∙ ap (λ l. first_of (refuse_root d b l r)) (sym q.entries)

  -- a root is refused for its form
  pub not_a_root : (log : List Entry) (r : ℕ) → is_root_id d r ≡ false → first_of (refuse_root d b log r) ≡ Some (NotARoot r)
  unfolding first_of refuse_root refuse_if
  not_a_root log r h = rw h refl

  -- then where no entry made it
  pub no_such_root : (log : List Entry) (r : ℕ) → is_root_id d r ≡ true → list_any (λ e. has e.made r) log ≡ false → first_of (refuse_root d b log r) ≡ Some (NoSuchRoot r)
  unfolding first_of refuse_root refuse_if
  no_such_root log r h n = rw (h, n) refl

  -- and else not
  pub root_there : (log : List Entry) (r : ℕ) → is_root_id d r ≡ true → list_any (λ e. has e.made r) log ≡ true → first_of (refuse_root d b log r) ≡ None
  unfolding first_of refuse_root refuse_if
  root_there log r h n = rw (h, n) refl

  -- so the record that is found is that of the root at the read's prefix
  pub root_asked : (log : List Entry) (r : ℕ) (at : Option ℕ) (k p : ℕ) → IsPrefix d b log at k → HoldsRoot d b log (log_at d b log k) r p → IsAskedRoot d b log r at p k
  root_asked log r at k p q h = record {
    unrefused = leaves_later log r at k q ∙ h.unrefused;
    held = subst (λ l. HoldsRoot d b log l r p) q.entries h;
    low = q.low;
    high = q.high;
    entries = q.entries;
  }

  -- or its refusal is the read's
  pub root_unasked : (log : List Entry) (r : ℕ) (at : Option ℕ) (k : ℕ) (e : Refusal) → IsPrefix d b log at k → first_of (refuse_root d b (log_at d b log k) r) ≡ Some e → refuse_read d b log (read.Leaves r at) ≡ Some e
  root_unasked log r at k e q h = leaves_later log r at k q ∙ h

  -- a root that isn't refused was made
  root_made : (log : List Entry) (r : ℕ) → first_of (refuse_root d b log r) ≡ None → list_any (λ e. has e.made r) log ≡ true
  unfolding first_of refuse_root refuse_if
  root_made log r h = go (is_root_id d r) (list_any (λ e. has e.made r) log) h
    where
      go : (x y : Bool) → first_of (cond (not x) (Some (NotARoot r)) None ∷ cond (not y) (Some (NoSuchRoot r)) None ∷ []) ≡ None → y ≡ true
      go true true e = refl
      go true false e = cc
      go false y e = cc

  pub changes_asked : (log : List Entry) (words : List ℕ) → ParentImage d b log words → (r : ℕ) (at : Option ℕ) (p k : ℕ) → IsAskedRoot d b log r at p k → IsMadeRoot d b log words r k
  changes_asked log words i r at p k a = record {
    image = i;
    low = a.low;
    high = a.high;
    made = subst (λ l. list_any (λ e. has e.made r) l ≡ true) (sym a.entries) (root_made (prefix_for log at) r a.held.unrefused);
  }

  -- a read that is refused
  pub refused_reply : (log : List Entry) (request : Read) (r : Refusal) (n : ℕ) → refuse_read d b log request ≡ Some r → n ≡ length log → reply.Refused r n ≡ reply_to d b log request
  unfolding reply_to read_reply
  refused_reply log request r n h s = ap (λ k. reply.Refused r k) s ∙ ap (λ o. read_reply o log (answer d b log request)) (sym h)

  -- a read of a root, of a path or of leaves that isn't
  pub root_reply : (log : List Entry) (v : ℕ) (at : Option ℕ) (p k root n : ℕ) → IsAsked d b log v at p k → root ≡ root_of d b (log_at d b log k) v → n ≡ length log → reply.Root root n ≡ reply_to d b log (read.Root v at)
  unfolding reply_to read_reply refuse_read answer
  root_reply log v at p k root n a e s =
      ap₂ (λ x y. reply.Root x y) (e ∙ ap (λ l. root_of d b l v) a.entries) s ∙ ap (λ o. read_reply o log (answer d b log (read.Root v at))) (sym a.unrefused)

  pub path_reply : (log : List Entry) (v : ℕ) (at : Option ℕ) (p k : ℕ) (nodes : List ℕ) (n : ℕ) → IsAsked d b log v at p k → nodes ≡ path d b (log_at d b log k) v → n ≡ length log → reply.Path nodes n ≡ reply_to d b log (read.Path v at)
  unfolding reply_to read_reply refuse_read answer
  path_reply log v at p k nodes n a e s =
      ap₂ (λ x y. reply.Path x y) (e ∙ ap (λ l. path d b l v) a.entries) s ∙ ap (λ o. read_reply o log (answer d b log (read.Path v at))) (sym a.unrefused)

  pub leaves_reply : (log : List Entry) (r : ℕ) (at : Option ℕ) (p k : ℕ) (ids : List ℕ) (n : ℕ) → (a : IsAskedRoot d b log r at p k) → ids ≡ a.held.node.leaves → n ≡ length log
      → reply.Leaves ids n ≡ reply_to d b log (read.Leaves r at)
  unfolding reply_to read_reply refuse_read answer
  leaves_reply log r at p k ids n a e s =
      ap₂ (λ x y. reply.Leaves x y) (e ∙ a.held.shown) s ∙ ap (λ o. read_reply o log (answer d b log (read.Leaves r at))) (sym a.unrefused)

  pub changes_reply : (log : List Entry) (r : ℕ) (at : Option ℕ) (p k : ℕ) (ops : List Summary) (n : ℕ) → (a : IsAskedRoot d b log r at p k)
      → ops ≡ changes d b (log_at d b log k) (ancestors d b (log_at d b log k) (r ∷ [])) → n ≡ length log → reply.Changes ops n ≡ reply_to d b log (read.Changes r at)
  unfolding reply_to read_reply refuse_read answer
  changes_reply log r at p k ops n a e s =
      ap₂ (λ x y. reply.Changes x y) (e ∙ ap (λ l. changes d b l (ancestors d b l (r ∷ []))) a.entries) s
      ∙ ap (λ o. read_reply o log (answer d b log (read.Changes r at))) (sym a.unrefused)

  -- a read of changes is refused as one of leaves is
  pub changes_refused : (log : List Entry) (root : ℕ) (at : Option ℕ) (r : Refusal) (n : ℕ) → refuse_read d b log (read.Leaves root at) ≡ Some r → n ≡ length log → reply.Refused r n ≡ reply_to d b log (read.Changes root at)
  unfolding refuse_read
  changes_refused log root at r n h s = refused_reply log (read.Changes root at) r n h s

  pub changes_unrefused : (log : List Entry) (root : ℕ) (at : Option ℕ) → refuse_read d b log (read.Leaves root at) ≡ None → refuse_read d b log (read.Changes root at) ≡ None
  unfolding refuse_read
  changes_unrefused log root at h = h

  -- a path is refused as a root is
  pub path_refused : (log : List Entry) (v : ℕ) (at : Option ℕ) (r : Refusal) (n : ℕ) → refuse_read d b log (read.Root v at) ≡ Some r → n ≡ length log → reply.Refused r n ≡ reply_to d b log (read.Path v at)
  unfolding refuse_read
  path_refused log v at r n h s = refused_reply log (read.Path v at) r n h s
