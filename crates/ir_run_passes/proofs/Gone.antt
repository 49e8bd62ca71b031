-- Records before and after blocks were swept: how many operations went.
use mathlib.Core.Path.{◌≡◌, sym, ap, ◌∙◌, subst}
use Rattle.std.proofs.Common.{ℕ, ◌+◌, ◌-◌, ◌≤◌, ◌<◌, length, arith}
use Rattle.ir_model.specs.declared.ids.ArenaIndex.{ArenaIndex}
use Rattle.ir_model.specs.ContextIds.{context_ids}
use Rattle.ir_model.specs.Forest.{Behaviour, Entity, an_op, a_block}
use Rattle.ir_model.specs.Nesting.{Nested, WellFormed, ops_of}
use Rattle.ir_model.specs.Arenas.{arena_len}
use Rattle.ir_model.specs.Dead.{Sweeps}
use Rattle.ir_model.proofs.Keeps.{Distinct-unmap}
use Rattle.ir_model.proofs.Nests.{In-map}
use Rattle.ir_model.proofs.Removal.{length-within}
use Rattle.ir_model_passes.specs.Meaning.{SameAttributes}
use Rattle.ir_model_passes.specs.MergingInside.{MergesInside}
use Rattle.ir_model_passes.specs.SweepInside.{SweepsInside, SweepsBlocks, NoneIsClosedInside}
use Rattle.ir_model_passes.specs.PassLaws.{BlocksSweepInside, SweepInsideIsOne, MergeInsideTells}
use Rattle.ir_core_records.specs.declared.records.Records.{Records}
use Rattle.ir_core_records.specs.Meaning.{closed, forest_in, op_record, block_record}
use Rattle.ir_core_records.specs.Tree.{tree_of, ops_in, blocks_in}
use Rattle.ir_run_passes.specs.Walks.{CanBeSwept}
use Rattle.ir_model.proofs.LiveIds.{live_ids, ids_count}
use Rattle.ir_run_passes.proofs.LiveForests.{IsKeptIn, kept_by, fewer_live, lists_ops}
use Rattle.ir_run_passes.proofs.Swept.{op_was, closed_gone}
use Rattle.ir_run_passes.proofs.Counted.{so_many, is_counted}

module _ {D A K S X L C : Type 0} where
  ops_kept : (t : Records D A K C S X L) → IsKeptIn (forest_in t).ops t.ops
  ops_kept t = kept_by (λ _. op_record) t.ops

  blocks_kept : (t : Records D A K C S X L) → IsKeptIn (forest_in t).blocks t.blocks
  blocks_kept t = kept_by (λ b. block_record (ops_in (tree_of t) b)) t.blocks

  regions_kept : (t : Records D A K C S X L) → IsKeptIn (forest_in t).regions t.regions
  regions_kept t = kept_by (λ g _. blocks_in (tree_of t) g) t.regions

  -- a block is swept of which something could go: fewer operations are live
  pub sweep_takes : (B : Behaviour (closed A K C S X L)) (t u : Records D A K C S X L) (b : ArenaIndex) (count : ℕ) → Nested (forest_in t) → Sweeps B (forest_in t) b (forest_in u) count → CanBeSwept B (forest_in t) b → arena_len u.ops < arena_len t.ops
  sweep_takes B t u b count n s can =
      fewer_live (forest_in t) (forest_in u) t.ops u.ops (ops_kept t) (ops_kept u) (op_was B (forest_in t) (forest_in u) b count n s) can.0
      (n.live (an_op can.0) (a_block b) (In-map an_op can.0 (ops_of (forest_in t) b) can.1))
      (closed_gone B (forest_in t) (forest_in u) b count n s can.0 can.1 can.2.is_pure can.2.closed)

  module _ (steps : BlocksSweepInside (closed A K C S X L)) (one : SweepInsideIsOne (closed A K C S X L)) (B : Behaviour (closed A K C S X L)) (t u : Records D A K C S X L) (keys : ℕ) (root : Entity context_ids)
      (formed : WellFormed (forest_in t) keys) (swept : SweepsBlocks B root (forest_in t) (forest_in u)) (none : NoneIsClosedInside B root (forest_in u)) (before after : ℕ) (was : before ≡ arena_len t.ops) (is : after ≡ arena_len u.ops) where
    -- no more are live than were
    pub not_more : after ≤ before
    not_more =
        let e = (so_many steps one B (forest_in t) (forest_in u) keys root formed t.ops t.blocks t.regions (ops_kept t) (blocks_kept t) (regions_kept t) u.ops (ops_kept u) swept none).2 in
        omega (arith, e, was, is)

    -- and so many are gone
    pub so_many_gone : SweepsInside B (forest_in t) root (forest_in u) (before - after)
    so_many_gone =
        let less = not_more in
        is_counted steps one B (forest_in t) (forest_in u) keys root formed t.ops t.blocks t.regions (ops_kept t) (blocks_kept t) (regions_kept t) u.ops (ops_kept u) swept none (before - after) (omega (arith, less, was, is))

  -- the list of a block is no longer than the records of operations
  pub list_short : (t : Records D A K C S X L) (b : ArenaIndex) → Nested (forest_in t) → length (ops_of (forest_in t) b) ≤ arena_len t.ops
  list_short t b nested =
      let f = forest_in t in
      let most = length-within (ops_of f b) (live_ids t.ops) (Distinct-unmap an_op (ops_of f b) (nested.once (a_block b)))
      (λ o h. ((lists_ops f t.ops (ops_kept t)).1 o).1 (nested.live (an_op o) (a_block b) (In-map an_op o (ops_of f b) h))) in
      let all = ids_count t.ops in
      omega (arith, most, all)

  module _ (tells : MergeInsideTells (closed A K C S X L)) (B : Behaviour (closed A K C S X L)) (same : SameAttributes (closed A K C S X L)) (t u : Records D A K C S X L) (keys : ℕ) (root : Entity context_ids)
      (formed : WellFormed (forest_in t) keys) (count : ℕ) (merges : MergesInside B same (forest_in t) root (forest_in u) count) (before after : ℕ) (was : before ≡ arena_len t.ops) (is : after ≡ arena_len u.ops) where
    -- as many operations were merged as are live no more
    merged_all : before ≡ after + count
    merged_all =
        let told = (tells B same (forest_in t) (forest_in u) keys count root formed merges).so_many (live_ids t.ops) (live_ids u.ops) (lists_ops (forest_in t) t.ops (ops_kept t)) (lists_ops (forest_in u) u.ops (ops_kept u)) in
        let all = ids_count t.ops in
        let left = ids_count u.ops in
        omega (arith, told, all, left, was, is)

    pub merged_not_more : after ≤ before
    merged_not_more = let e = merged_all in omega (arith, e)

    pub merged_so_many : MergesInside B same (forest_in t) root (forest_in u) (before - after)
    merged_so_many = let e = merged_all in subst (MergesInside B same (forest_in t) root (forest_in u)) (let n : count ≡ before - after = omega (arith, e) in n) merges
